-- Lateness, and figures of a row that isn't least, by example: by computation.
use mathlib.Core.Path.{◌≡◌, refl}
use mathlib.Core.Bool.{true, false}
use mathlib.Core.List.{[], ◌∷◌, ◌++◌}
use lib.IntN.{pos, negsuc}
use lib.Ieee.{fin}
use Rattle.calendar.specs.Meaning.{Row, empty}
use Rattle.calendar.specs.Reply.Reply.{answer}
use Rattle.calendar.specs.Granules.{has}
use Rattle.calendar.specs.Sound.{sound}
use Rattle.calendar.specs.Least.{least}
use Rattle.calendar.specs.Questions.{granule_length, sound_with}
use Rattle.calendar.specs.Worked.{framed}
use Rattle.calendar.proofs.Questions.{closed_wednesday}
use Rattle.floats.specs.Allowance.{positive_share}
use Rattle.floats.specs.declared.Allowance.{Allowance}
use Rattle.floats.specs.declared.Allowance.TheVariants.{Share}
use Rattle.questions.specs.Answers.{may_be_late}

-- the whole length
abbrev whole : Allowance
whole = Share (fin false 1 (pos 0))

-- "A business week with a closed Wednesday has four days, so a share of 1 allows a lateness of 4 and no longer 5." (document 02, Req 04)
pub four-allowed : may_be_late closed_wednesday (pos 1) (pos 4) whole ≡ answer true
unfolding may_be_late sound has granule_length positive_share
four-allowed = refl

pub five-too-late : may_be_late closed_wednesday (pos 1) (pos 5) whole ≡ answer false
unfolding may_be_late sound has granule_length positive_share
five-too-late = refl

-- two turns of that week: it means the same, and has twice the slots over its own P
abbrev two_weeks : Row
two_weeks = record {
  period = 14;
  distance = 2;
  cells = closed_wednesday.cells ++ framed (pos 2 ∷ pos 2 ∷ empty ∷ pos 2 ∷ pos 2 ∷ []);
}

pub one-week : least two_weeks ≡ closed_wednesday
unfolding least
one-week = refl

-- "Where a row is handed in together with its R, counted over that row's own P, a wrong R is refusal 13." (document 02, Req 07)
pub one-slot : sound_with closed_wednesday (pos 1) ≡ true
unfolding sound_with
one-slot = refl

pub two-slots : sound_with two_weeks (pos 2) ≡ true
unfolding sound_with
two-slots = refl

pub not-of-the-least : sound_with two_weeks (pos 1) ≡ false
unfolding sound_with
not-of-the-least = refl

pub not_negative : sound_with closed_wednesday (negsuc 0) ≡ false
unfolding sound_with
not_negative = refl
