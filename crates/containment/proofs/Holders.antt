-- The granule of h that holds the granule z of g, from any instant t of z: it is h's granule there, or none.
-- Assumes nothing.
use mathlib.Core.Path.{◌≡◌, sym, ◌∙◌, ap}
use mathlib.Core.Option.{none, some}
use mathlib.Core.Bool.{true, false}
use lib.IntN.{ℤ}
use Rattle.calendar.specs.Meaning.{Row, meant}
use Rattle.calendar.specs.Granules.{inside}
use Rattle.calendar.specs.Questions.{holder}
use Rattle.granules.specs.Valid.{Valid}
use Rattle.granules.proofs.Tests.{some_inj, none≢some, true≢false}
use Rattle.granules.proofs.Inside.{inside-iff}
use Rattle.granules.proofs.Questions.{holder-iff, holder-none}

module _ (g h : Row) (v : Valid g) (w : Valid h) (t z : ℤ) (e : meant g t ≡ some z) where
  -- t has no label in h
  pub holder-no-label : meant h t ≡ none → holder g h z ≡ none
  holder-no-label n = (holder-none g h v w z (t, e)).1 (λ s. none≢some (sym n ∙ s.1 t e))

  module _ (i : ℤ) (l : meant h t ≡ some i) where
    pub holder-inside : inside g z h i ≡ true → holder g h z ≡ some i
    holder-inside y = (holder-iff g h v w z i (t, e)).1 ((inside-iff g h v z i).0 y)

    pub holder-not-inside : inside g z h i ≡ false → holder g h z ≡ none
    holder-not-inside n =
        (holder-none g h v w z (t, e)).1
        (λ s. true≢false ((inside-iff g h v z i).1 (λ u m. s.1 u m ∙ ap some (some_inj (sym (s.1 t e) ∙ l)))) n)
