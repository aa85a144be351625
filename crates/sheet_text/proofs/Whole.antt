-- A text that is laid into a cleared list: it stands there whole, or the list is too short for it.
-- Assumes nothing.
use Rattle.std.specs.Prelude.{None, Option, Some}
use mathlib.Core.Path.{◌≡◌, refl, sym, ◌∙◌, ap, ap₂}
use mathlib.Core.Bool.{Bool, true, false, cond}
use mathlib.Core.List.{List, [], ◌++◌}
use Prim.Native.Nat.{ℕ, ◌≤◌, ◌<◌}
use native.Mathlib.Nat.{sub-zero}
use native.Mathlib.Omega.{arith}
use lib.ListN.{length, drop, replicate}
use lib.Seq.{take_all}
use lib.Dec.{leb}
use borrow.Author.Tests.{leb-true, le-leb, lt-leb}
use Rattle.calendar.specs.Lists.{filled}
use Rattle.row_entry.proofs.Cells.{drop-alike}
use Rattle.conversion.proofs.Clearing.{filled-length}
use Rattle.sheet_lines.specs.Laid.{Laid}
use Rattle.table_text.specs.Sheet.{sheet}
use Rattle.sheet_text.specs.Left.{SheetLeft}

module _ (s o : List ℕ) (m n : ℕ) (l : List ℕ) (cleared : o ≡ filled m 0 []) (h : Laid (sheet s) o n l) where
  as_long : length o ≡ m
  as_long = ap length cleared ∙ filled-length m 0

  pub sheet-whole : n ≤ m → SheetLeft s m (Some n) l
  sheet-whole b =
      let is : n ≡ length (sheet s) = omega (arith, h.place, as_long) in
      let test = le-leb (length (sheet s)) m (omega arith) in
      record {
        answer = rw test (ap Some is);
        bytes =
            rw test
            (h.holds
            ∙ ap₂ (λ (x y : List ℕ). x ++ y) (take_all (length o) (sheet s) (omega (arith, as_long)))
            (ap (drop (length (sheet s))) (cleared ∙ ap (λ (k : ℕ). replicate k 0) (sub-zero m)) ∙ drop-alike 0 m (length (sheet s))));
      }

  pub sheet-short : m < n → (after : List ℕ) → after ≡ filled m 0 [] → SheetLeft s m None after
  sheet-short b after e =
      let test = lt-leb (length (sheet s)) m (omega (arith, h.place, as_long)) in
      record { answer = rw test refl; bytes = rw test e }

-- a list takes no more bytes than it has
pub taken-fit : {s : List ℕ} {m n : ℕ} {r : Option ℕ} {out : List ℕ} → SheetLeft s m r out → r ≡ Some n → n ≤ m
taken-fit {s} {m} {n} left q = by (leb (length (sheet s)) m) refl (sym q ∙ left.answer)
  where
    by : (b : Bool) → leb (length (sheet s)) m ≡ b → Some n ≡ cond b (Some (length (sheet s))) None → n ≤ m
    by true t e = let is : n ≡ length (sheet s) = cc in omega (arith, leb-true (length (sheet s)) m t)
    by false t e = let z : ◌≡◌ {A = ℕ} 0 1 = cc in absurd (omega arith)
