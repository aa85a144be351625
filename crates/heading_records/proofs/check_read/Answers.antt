-- `heading_records::check_read` meets its contract: the verdict is that on the first headings, but for what would be accepted with a heading beyond them that is not zero.
-- Assumes nothing.
use mathlib.Core.Path.{◌≡◌, refl, sym, ◌∙◌, ap, ap₂}
use mathlib.Core.Bool.{Bool, true, false}
use mathlib.Core.List.{List}
use Prim.Native.Nat.{ℕ, ◌*◌, ◌/◌}
use native.Mathlib.Omega.{arith}
use lib.IntN.{ℤ}
use lib.ListN.{length, take}
use Rattle.calendar.specs.Limits.{heading_length}
use Rattle.verdicts.specs.Check.{check}
use Rattle.verdicts.specs.declared.Verdict.{Verdict}
use Rattle.heading_records.specs.declared.Read.{Read}
use Rattle.heading_records.specs.Reading.{at_most, beyond}
use Rattle.heading_records.proofs.Reading.{most-few, most-many}
use Rattle.heading_records.proofs.Beyond.{accepted-few}
use Rattle.heading_records.proofs.check_read.Goals as goal
use Rattle.heading_records.proofs.check_read.Goals.{Joined-lent-lt-ENTRY_LIMIT, then-lent-lt-ENTRY_LIMIT, else-lent-lt-ENTRY_LIMIT}

-- the headings that are compared
among : (c : Joined-lent-lt-ENTRY_LIMIT) → c.if-lent-lt-ENTRY_LIMIT.entries ≡ at_most c.args.lent
among c =
    elim c.if-lent-lt-ENTRY_LIMIT.branch [
      | then-lent-lt-ENTRY_LIMIT w ↦ w.entries-is ∙ sym (most-few _ w.if-lent-lt-ENTRY_LIMIT.true)
      | else-lent-lt-ENTRY_LIMIT w ↦ w.entries-is ∙ sym (most-many _ w.if-lent-lt-ENTRY_LIMIT.false)
    ]

-- what the headings beyond make of the verdict v on those that are compared
told : (t : List ℤ) (read : Read) (n m : ℕ) (pool : List ℤ) (v : Verdict) → m ≡ at_most n → v ≡ check t (take (heading_length * m) read.numbers) pool
    → (z : Bool) → read.zero ≡ z → (w : Verdict) → v ≡ w → beyond z (length t / 6) w ≡ beyond read.zero (length t / 6) (check t (take (heading_length * at_most n) read.numbers) pool)
told t read n m pool v few verdict z e w f =
    ap₂ (λ (b : Bool) (x : Verdict). beyond b (length t / 6) x) (sym e) (sym f ∙ verdict ∙ ap (λ (i : ℕ). check t (take (heading_length * i) read.numbers) pool) few)

pub returns-then-read : goal.returns-then-read
returns-then-read c =
    let a = c.args in
    told a.table.now a.read a.lent _ a.pool.now _ (among (goal.at.returns-then-read c).Joined-lent-lt-ENTRY_LIMIT) c.check-verdict.ensures true c.if-read.true _ refl

pub overflow_cast-result : goal.overflow_cast-result
overflow_cast-result c =
    let a = c.args in
    record { fits = omega (arith, accepted-few a.table.now _ a.pool.now (sym c.check-verdict.ensures ∙ c.in-Accepted.is)) }

pub returns-in-Accepted : goal.returns-in-Accepted
returns-in-Accepted c =
    let a = c.args in
    told a.table.now a.read a.lent _ a.pool.now _ (among (goal.at.returns-in-Accepted c).Joined-lent-lt-ENTRY_LIMIT) c.check-verdict.ensures false c.if-read.false _ c.in-Accepted.is

pub returns-in-Refused : goal.returns-in-Refused
returns-in-Refused c =
    let a = c.args in
    told a.table.now a.read a.lent _ a.pool.now _ (among (goal.at.returns-in-Refused c).Joined-lent-lt-ENTRY_LIMIT) c.check-verdict.ensures false c.if-read.false _ c.in-Refused.is

pub returns-in-Wrong : goal.returns-in-Wrong
returns-in-Wrong c =
    let a = c.args in
    told a.table.now a.read a.lent _ a.pool.now _ (among (goal.at.returns-in-Wrong c).Joined-lent-lt-ENTRY_LIMIT) c.check-verdict.ensures false c.if-read.false _ c.in-Wrong.is
