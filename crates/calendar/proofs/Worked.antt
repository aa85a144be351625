-- Document 01's slots worked by hand hold of the definitions, by computation.
use mathlib.Core.Path.{◌≡◌, refl}
use mathlib.Core.List.{map}
use Rattle.calendar.specs.Worked.{cases}

pub worked-slots : map (λ c. c.shown) cases ≡ map (λ c. c.expected) cases
unfolding cases
worked-slots = refl
