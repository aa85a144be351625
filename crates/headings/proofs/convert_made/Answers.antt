-- `headings::convert_made` meets its contract: the numbers behind those that are lent are zero, as they are past the last entry.
-- Assumes nothing.
use mathlib.Core.Path.{◌≡◌, ◌∙◌, ap, ap₂}
use mathlib.Core.List.{List, ◌++◌}
use Prim.Native.Nat.{ℕ, ◌*◌, ◌/◌, ◌≤◌}
use native.Mathlib.Omega.{arith}
use lib.IntN.{ℤ}
use lib.ListN.{length, take, drop, replicate}
use lib.Seq.{length-take-le}
use Rattle.calendar.specs.Limits.{entry_limit, heading_length}
use Rattle.calendar.specs.Outcome.{outcome}
use Rattle.calendar.specs.Stored.{headings_after, pool_after}
use Rattle.conversion.specs.Conversion.{Conversion}
use Rattle.conversion.specs.Answers.{answered}
use Rattle.conversion.specs.Left.{Left}
use Rattle.headings.proofs.Plain.{Asked, asked-all, asked-most, outcome-numbers}
use Rattle.headings.proofs.convert_made.Goals as goal
use Rattle.headings.proofs.convert_made.Goals.{then-lent-lt-ENTRY_LIMIT, else-lent-lt-ENTRY_LIMIT}

abbrev plain : List ℕ
plain = replicate (heading_length * entry_limit) 0

-- the numbers that are lent
lent : (m : ℕ) → m ≤ entry_limit → length (take (heading_length * m) plain) ≡ heading_length * m
lent m h = length-take-le (heading_length * m) plain (omega arith)

-- what the callee ensures, read at all numbers
made : (t : List ℤ) (n m p : ℕ) → Asked n m → (k : ℕ) → k ≡ heading_length * m → (r : Conversion) (numbers : List ℕ) (pool : List ℤ)
    → Left t k p r numbers pool
    → (r ≡ answered (outcome t n p)) × (numbers ++ drop (heading_length * m) plain ≡ headings_after (heading_length * entry_limit) (outcome t n p)) × (pool ≡ pool_after p (outcome t n p))
made t n m p a k e r numbers pool h =
    let q : k / heading_length ≡ m = omega arith in
    let o : outcome t (k / heading_length) p ≡ outcome t n p = ap (λ (i : ℕ). outcome t i p) q ∙ a.alike t p in
    let all = outcome-numbers t m p a.few in (
      h.answer ∙ ap answered o,
      ap (λ (x : List ℕ). x ++ drop (heading_length * m) plain) (h.numbers ∙ ap₂ (λ (i : ℕ) (j : ℕ). headings_after i (outcome t j p)) e q) ∙ all ∙ ap (headings_after (heading_length * entry_limit)) (a.alike t p),
      h.cells ∙ ap (pool_after p) o,
    )

pub returns : goal.returns
returns c =
    let x = c.args in
    let m = c.if-lent-lt-ENTRY_LIMIT.entries in
    -- the entries that numbers are lent for
    let asked : Asked x.lent m =
    elim c.if-lent-lt-ENTRY_LIMIT.branch [
      | then-lent-lt-ENTRY_LIMIT w ↦ asked-all _ _ w.if-lent-lt-ENTRY_LIMIT.true w.entries-is
      | else-lent-lt-ENTRY_LIMIT w ↦ asked-most _ _ w.if-lent-lt-ENTRY_LIMIT.false w.entries-is
    ] in
    made x.table.now x.lent m (length x.pool.now) asked _ (lent _ asked.few)
    c.convert-answer.result c.convert-answer.new.headings c.convert-answer.new.pool
    c.convert-answer.ensures
