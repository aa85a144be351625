-- Labels as numbers: a label of a sound row at a near instant is above the number of no label.
-- Assumes nothing.
use mathlib.Core.Path.{◌≡◌, refl, sym, ◌∙◌, ap}
use mathlib.Core.Option.{Option, none, some}
use mathlib.Core.Bool.{Bool, cond}
use mathlib.Core.List.{List}
use Prim.Native.Nat.{◌^◌}
use native.Mathlib.Omega.{arith}
use lib.IntN.{ℤ}
use lib.Signed.{◌<ℤ◌}
use mir.Facts.{to_z-of_z}
use mir.Syntax.{w64}
use mir.Val.{SFits, to_z, of_z}
use Rattle.integers.proofs.Linear.{ints, ◌∴◌}
use Rattle.calendar.specs.Meaning.{meant}
use Rattle.calendar.specs.Questions.{given}
use Rattle.granules.proofs.Tests.{false-iff, equal-iff}
use Rattle.cursors.specs.Found.{Sound, Near}
use Rattle.cursors.proofs.Bounds.{label-bound}
use Rattle.alignment.specs.Codes.{no_label, code_of, coded_label}

-- the number of no label stands for none, and any other for itself
pub coded_none : (z : ℤ) → z ≡ no_label → coded_label z ≡ none
coded_none z e = ap (λ (b : Bool). cond b none (some z)) ((equal-iff z no_label).1 e)

pub coded-some : (z : ℤ) → ¬ (z ≡ no_label) → coded_label z ≡ some z
coded-some z h = ap (λ (b : Bool). cond b none (some z)) ((false-iff (equal-iff z no_label)).1 h)

above : (o : Option ℤ) → ((j : ℤ) → o ≡ some j → no_label <ℤ j) → coded_label (code_of o) ≡ o
above none h = coded_none no_label refl
above (some j) h = coded-some j (λ e. absurd (h j refl ∴ e ∴ simp ints (omega arith)))

-- the label of an instant, read back from its number
pub read_back : (period distance : ℤ) (cells : List ℤ) → Sound period distance cells → (t : ℤ) → Near t → (o : Option ℤ) → o ≡ meant (given period distance cells) t
    → (z : ℤ) → SFits w64 z → z ≡ code_of o → coded_label (to_z w64 (of_z w64 z)) ≡ o
read_back period distance cells s t near o e z f c =
    ap coded_label (to_z-of_z f ∙ c)
    ∙ above o (λ j h. label-bound period distance cells s (2 ^ 60) t j near.0 near.1 (sym e ∙ h) ∴ simp ints (omega arith))
