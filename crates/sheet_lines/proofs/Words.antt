-- Numbers and cells as they are written.
use mathlib.Core.Path.{◌≡◌, refl, sym, ap, ◌∙◌}
use mathlib.Core.Bool.{false}
use mathlib.Core.List.{List, [], ◌∷◌, ◌++◌, append_assoc}
use Prim.Native.Nat.{ℕ}
use lib.IntN.{ℤ, pos, negsuc, nat_abs}
use lib.Signed.{◌≤ℤ◌, ◌<ℤ◌}
use native.Mathlib.Omega.{arith}
use mir.Syntax.{w32}
use mir.Val.{SFits, of_z}
use borrow.Author.Tests.{ne_eqb}
use Rattle.integers.proofs.Linear.{ints}
use Rattle.integers.proofs.Machine.{test-eq}
use Rattle.calendar.specs.Meaning.{empty, is_empty}
use Rattle.table_text.specs.Numerals.{decimal, numeral}
use Rattle.table_text.specs.SheetWords.{cell_word}
use Rattle.table_text.proofs.Numbers.{numeral-pos, numeral-negsuc}
use Rattle.table_text.proofs.Printed.{cell-empty, cell-label}
use Rattle.sheet_lines.proofs.Magnitudes.{by-negative, by-positive}

pub signed : (v : ℤ) (m : ℕ) → v <ℤ pos 0 → m ≡ nat_abs v → (t : List ℕ) → (t ++ (45 ∷ [])) ++ decimal m ≡ t ++ numeral v
signed v m h e t =
    append_assoc t (45 ∷ []) (decimal m)
    ∙ ap (λ (w : List ℕ). t ++ w) (ap (λ (n : ℕ). 45 ∷ decimal n) e ∙ by-negative (λ z. 45 ∷ decimal (nat_abs z) ≡ numeral z) (λ n. sym (numeral-negsuc n)) v h)

pub unsigned : (v : ℤ) (m : ℕ) → pos 0 ≤ℤ v → m ≡ nat_abs v → decimal m ≡ numeral v
unsigned v m h e = ap decimal e ∙ by-positive (λ z. decimal (nat_abs z) ≡ numeral z) (λ n. sym (numeral-pos n)) v h

not-empty : (z : ℤ) → (z ≡ empty → ⊥) → is_empty z ≡ false
not-empty (pos n) h = refl
not-empty (negsuc n) h = ne_eqb n 2147483647 (λ e. h (ap negsuc e))

pub empty-cell : (z : ℤ) → z ≡ empty → 46 ∷ [] ≡ cell_word z
empty-cell z e = sym (cell-empty z (ap is_empty e))

pub label-cell : (z : ℤ) → (z ≡ empty → ⊥) → numeral z ≡ cell_word z
label-cell z h = sym (cell-label z (not-empty z h))

-- the machine's test for an empty cell
empty-fits : SFits w32 empty
empty-fits = simp ints (omega arith)

pub empty-by : (z : ℤ) → SFits w32 z → of_z w32 z ≡ 2147483648 → z ≡ empty
empty-by z f e = (test-eq w32 z empty f empty-fits).0 e

pub not-empty-by : (z : ℤ) → (of_z w32 z ≡ 2147483648 → ⊥) → z ≡ empty → ⊥
not-empty-by z h e = h (ap (of_z w32) e)
