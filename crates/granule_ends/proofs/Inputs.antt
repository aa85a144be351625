-- What a walk is given, a row and an instant, as the machine has it: each number is read back from its bits.
-- Assumes nothing.
use mathlib.Core.Path.{◌≡◌, sym, ◌∙◌, ap₂, subst, subst₂}
use mathlib.Core.Option.{some}
use mathlib.Core.List.{List}
use Prim.Native.Nat.{ℕ}
use lib.IntN.{ℤ}
use mir.Syntax.{w64}
use mir.Val.{to_z, of_z, SFits}
use Rattle.integers.proofs.Machine.{plain}
use Rattle.calendar.specs.Meaning.{Row, meant}
use Rattle.calendar.specs.Questions.{given}
use Rattle.granules.proofs.Tests.{some_inj}
use Rattle.cursors.specs.Found.{Sound, Within}

abbrev pub read : ℤ → ℤ
read z = to_z w64 (of_z w64 z)

abbrev pub read_row : ℤ → ℤ → List ℤ → Row
read_row period distance cells = given (read period) (read distance) cells

pub read-within : {t : ℤ} {B : ℕ} → SFits w64 t → Within B t → Within B (read t)
read-within f h = simp plain h

module _ {period distance : ℤ} (cells : List ℤ) (p : SFits w64 period) (d : SFits w64 distance) where
  pub read-sound : Sound period distance cells → Sound (read period) (read distance) cells
  read-sound s = simp plain s

  -- what holds of the row as it is read, and of its label at t
  pub read-holds : {t : ℤ} → SFits w64 t → (Q : Row → ℤ → ℤ → Type 0) {i j : ℤ} → Q (read_row period distance cells) (read t) i
      → meant (read_row period distance cells) (read t) ≡ some i → meant (given period distance cells) t ≡ some j → Q (given period distance cells) t j
  read-holds {t} f Q {i} {j} h o e = subst₂ (λ (r : Row) (u : ℤ). Q r u j) row_is t-is (subst (Q (read_row period distance cells) (read t)) (some_inj (sym o ∙ ap₂ meant row_is t-is ∙ e)) h)
    where
      row_is : read_row period distance cells ≡ given period distance cells
      row_is = simp plain

      t-is : read t ≡ t
      t-is = simp plain
