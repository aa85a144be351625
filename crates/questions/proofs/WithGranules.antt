-- The figures of a row that is handed in with its R: when each answer is given.
-- Assumes nothing.
use Rattle.std.specs.Prelude.{Err, Ok}
use mathlib.Core.Path.{◌≡◌, sym, ap, subst}
use mathlib.Core.Logic.Iff
use mathlib.Core.Logic.{◌↔◌}
use mathlib.Core.Bool.{true}
use Prim.Native.Nat.{ℕ}
use lib.IntN.{ℤ, pos}
use Rattle.integers.specs.Parts.{up}
use Rattle.calendar.specs.Meaning.{Row}
use Rattle.calendar.specs.Granules.{granules}
use Rattle.calendar.specs.Sound.{sound}
use Rattle.calendar.specs.Questions.{labelled_instants, sound_with}
use Rattle.calendar.specs.Refusals.{number_of}
use Rattle.calendar.specs.declared.Refusal.{Refusal}
use Rattle.floats.specs.Figures.{Quotients}
use Rattle.floats.specs.declared.Figures.{Figures}
use Rattle.granules.proofs.Tests.{both_iff, false-iff, equal-iff}
use Rattle.questions.specs.Answers.{FiguresOf}

-- the row is sound, and R is right
pub sound-with : (r : Row) (n : ℤ) → (sound_with r n ≡ true) ↔ ((sound r ≡ true) × (n ≡ pos (granules r)))
unfolding sound_with
sound-with r n = both_iff Iff.rfl (equal-iff n (pos (granules r)))

-- refusal 13, and no other
pub figures-13 : (r : Row) (n : ℤ) (x : Refusal) → FiguresOf r n (Err x)
    ↔ ((¬ ((sound r ≡ true) × (n ≡ pos (granules r)))) × (number_of x ≡ 13))
figures-13 r n x = Iff.and (false-iff (sound-with r n)) Iff.rfl

-- the quotients of the row's own counts
pub figures-answer : (r : Row) (n : ℤ) (v : Figures) → FiguresOf r n (Ok v)
    ↔ (((sound r ≡ true) × (n ≡ pos (granules r))) × Quotients (labelled_instants r) r.period (granules r) v)
figures-answer r n v = (
  λ f. let h = (sound-with r n).0 f.0 in (h, subst Q (ap up h.1) f.1),
  λ f. ((sound-with r n).1 f.0, subst Q (sym (ap up f.0.1)) f.1),
)
  where
    Q : ℕ → Type 0
    Q k = Quotients (labelled_instants r) r.period k v
