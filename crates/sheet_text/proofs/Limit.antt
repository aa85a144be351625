-- A list of `sheet_limit` bytes holds any sheet.
-- Assumes nothing.
use Rattle.std.specs.Prelude.{Option, Some}
use mathlib.Core.Path.{◌≡◌, refl, sym, ◌∙◌, ap, subst}
use mathlib.Core.List.{List}
use Prim.Native.Nat.{ℕ, ◌*◌, ◌≤◌}
use native.Mathlib.Omega.{arith}
use lib.IntN.{ℤ}
use lib.ListN.{length}
use borrow.Author.Tests.{le-leb}
use Rattle.calendar.specs.Limits.{entry_limit, heading_length}
use Rattle.calendar.specs.Outcome.{Outcome, outcome}
use Rattle.calendar.specs.Outcome.Outcome.{refused_at, rows}
use Rattle.calendar.specs.Lists.{filled}
use Rattle.algebra.proofs.Stored.{outcome-stored}
use Rattle.table_text.specs.Text.{sheet_pool, bad_text}
use Rattle.table_text.specs.Parse.Reading.{bad, table}
use Rattle.table_text.specs.Words.{lines}
use Rattle.table_text.specs.Parse.{Reading, parse}
use Rattle.table_text.specs.Sheet.{printed, sheet}
use Rattle.table_text.proofs.Printed.{row-lines, printed-lines}
use Rattle.sheet_text.specs.Lent.{sheet_limit}
use Rattle.sheet_text.specs.Left.{SheetLeft}
use Rattle.sheet_text.proofs.Rows.{refused-line, count}
use Rattle.sheet_text.proofs.Texts.{outcome_of, sheet-is}
use Rattle.sheet_text.proofs.Lengths.{rows-length, refusal-length}
use Rattle.sheet_text.proofs.Refusals.{outcome-refused, bad-line}

table-length : (t : List ℤ) → length (printed (outcome t entry_limit sheet_pool)) ≤ sheet_limit
table-length t = by (outcome t entry_limit sheet_pool) refl
  where
    by : (o : Outcome) → outcome t entry_limit sheet_pool ≡ o → length (printed o) ≤ sheet_limit
    by (refused_at m j) e =
        let h = outcome-refused t entry_limit sheet_pool m j e in
        omega (arith, ap length (refused-line m j), refusal-length m j h.0 (omega arith))
    by (rows l) e =
        let h = outcome-stored t entry_limit sheet_pool l e in
        let fit = h.fit in
        let many = (count t (heading_length * entry_limit) sheet_pool l e).1 in
        let all = rows-length l h.all_sound (omega arith) in
        omega (arith, ap length (printed-lines (rows l) ∙ ap lines (row-lines l)))

-- 4,096 cells of at most 12 bytes each, and 64 lines with at most 10 bytes beside their cells
pub sheet-length : (s : List ℕ) → length (sheet s) ≤ sheet_limit
sheet-length s = subst (λ (w : List ℕ). length w ≤ sheet_limit) (sym (sheet-is s)) (by (parse s) refl)
  where
    by : (r : Reading) → parse s ≡ r → length (printed (outcome_of r)) ≤ sheet_limit
    by (bad k) e =
        let h = bad-line s k e in
        omega (arith, ap length (refused-line bad_text k), refusal-length bad_text k (omega arith) (omega arith))
    by (table t) e = table-length t

-- so a list of that length is never too short
pub sheet-answered : (s : List ℕ) (m : ℕ) (r : Option ℕ) (out : List ℕ) → SheetLeft s m r out → sheet_limit ≤ m
    → (r ≡ Some (length (sheet s))) × (out ≡ filled m 0 (sheet s))
sheet-answered s m r out left h =
    let test = le-leb (length (sheet s)) m (omega (arith, sheet-length s)) in
    (rw test at left.answer, rw test at left.bytes)
