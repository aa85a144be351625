-- The divisors that are tried for the least period, by example, by computation.
use mathlib.Core.Path.{◌≡◌, refl}
use mathlib.Core.List.{[], ◌∷◌}
use lib.IntN.{pos}
use Rattle.calendar.specs.Meaning.{Row, empty}
use Rattle.calendar.specs.Tries.{tries}

-- every other day, two turns of it: 2, the greatest, gives the period
abbrev twice : Row
twice = record { period = 4; distance = 4; cells = empty ∷ pos 1 ∷ empty ∷ pos 3 ∷ [] }

-- the same four times, with a slip at the end: neither 4 nor 2 gives a period, and 1 is a try
abbrev slipped : Row
slipped = record { period = 8; distance = 8; cells = empty ∷ pos 1 ∷ empty ∷ pos 3 ∷ empty ∷ pos 5 ∷ empty ∷ pos 8 ∷ [] }

pub tries-by-example : (tries twice ≡ 1) × (tries slipped ≡ 3)
unfolding tries
tries-by-example = (refl, refl)
