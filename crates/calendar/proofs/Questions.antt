-- The length of a granule and the place of an instant by example, by computation.
use mathlib.Core.Path.{◌≡◌, refl}
use mathlib.Core.Option.{some}
use mathlib.Core.List.{[], ◌∷◌}
use lib.IntN.{pos}
use Rattle.calendar.specs.Meaning.{Row, empty}
use Rattle.calendar.specs.Reply.Reply.{answer}
use Rattle.calendar.specs.Questions.{granule_length, up_from_instant}
use Rattle.calendar.specs.Worked.{labels, framed}

-- document 01's case 5 with a closed Wednesday
abbrev pub closed_wednesday : Row
closed_wednesday = record { period = 7; distance = 1; cells = framed (pos 1 ∷ pos 1 ∷ empty ∷ pos 1 ∷ pos 1 ∷ []) }

-- "A business week with a closed Wednesday has four days" (document 02, Req 04)
pub four-days : granule_length closed_wednesday (pos 1) ≡ 4
unfolding granule_length
four-days = refl

-- "On the fifth working day of case 5 the answer is label 1, place 5." (document 02, Req 08)
pub fifth-day : up_from_instant (record { period = 7; distance = 1; cells = framed (labels (1 ∷ 1 ∷ 1 ∷ 1 ∷ 1 ∷ [])) }) (pos 5)
    ≡ answer (some (record { label = pos 1; place = 5 }))
unfolding up_from_instant
fifth-day = refl
