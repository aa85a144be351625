-- A text that is read, as what its sheet prints.
-- Assumes nothing.
use Rattle.std.specs.Prelude.{Err, Ok}
use mathlib.Core.Path.{◌≡◌, refl, sym, ◌∙◌, ap}
use mathlib.Core.List.{List}
use Prim.Native.Nat.{ℕ, ◌≤◌}
use native.Mathlib.Omega.{arith}
use lib.IntN.{ℤ}
use lib.ListN.{length, take, length-append}
use lib.Seq.{take_at}
use Rattle.calendar.specs.Limits.{entry_limit}
use Rattle.calendar.specs.Outcome.{Outcome, outcome}
use Rattle.calendar.specs.Outcome.Outcome.{refused_at}
use Rattle.table_text.specs.Text.{bad_text, sheet_pool}
use Rattle.table_text.specs.Parse.{Reading, parse}
use Rattle.table_text.specs.Parse.Reading.{bad, table}
use Rattle.table_text.specs.Tables.{Left}
use Rattle.table_text.specs.Sheet.{text_outcome, printed, sheet}
use Rattle.sheet_lines.specs.RowLines.{refusal_line}
use Rattle.sheet_text.proofs.Rows.{refused-line}

-- what a reading comes to
abbrev pub outcome_of : Reading → Outcome
outcome_of r = elim r [ bad k ↦ refused_at bad_text k | table t ↦ outcome t entry_limit sheet_pool ]

pub sheet-is : (s : List ℕ) → sheet s ≡ printed (outcome_of (parse s))
unfolding sheet text_outcome
sheet-is s = refl

-- a text with a bad line
pub sheet-bad : (lent : ℕ) (s : List ℕ) (k : ℕ) (l : List ℤ) → Left lent (parse s) (Err k) l → refusal_line bad_text k ≡ sheet s
sheet-bad lent s k l h = by (parse s) refl h
  where
    by : (r : Reading) → parse s ≡ r → Left lent r (Err k) l → refusal_line bad_text k ≡ sheet s
    by (bad m) q h =
        let e : k ≡ m = cc h.answer in
        ap (refusal_line bad_text) e ∙ refused-line bad_text m ∙ sym (sheet-is s ∙ ap (λ (r : Reading). printed (outcome_of r)) q)
    by (table t) q h = let z : ◌≡◌ {A = ℕ} 0 1 = cc h.answer in absurd (omega arith)

-- a text of entries: its table stands in the first n of the numbers lent
pub sheet-table : (lent : ℕ) (s : List ℕ) (n : ℕ) (l : List ℤ) → length l ≡ lent → Left lent (parse s) (Ok n) l
    → (n ≤ length l) × (printed (outcome (take n l) entry_limit sheet_pool) ≡ sheet s)
sheet-table lent s n l same h = by (parse s) refl h
  where
    by : (r : Reading) → parse s ≡ r → Left lent r (Ok n) l → (n ≤ length l) × (printed (outcome (take n l) entry_limit sheet_pool) ≡ sheet s)
    by (bad m) q h = let z : ◌≡◌ {A = ℕ} 0 1 = cc h.answer in absurd (omega arith)
    by (table t) q h =
        let e : n ≡ length t = cc h.answer in
        let front : take n l ≡ t = ap (take n) h.numbers ∙ take_at t _ n (sym e) in (
          omega (arith, ap length h.numbers, simp length-append at (ap length h.numbers)),
          ap (λ (m : List ℤ). printed (outcome m entry_limit sheet_pool)) front ∙ sym (sheet-is s ∙ ap (λ (r : Reading). printed (outcome_of r)) q),
        )
