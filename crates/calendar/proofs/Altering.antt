-- Document 01's example of altering, from source document 000: x = 3, y = 2, z = 1, b's granule i being the fine granules 2i − 1
-- and 2i.
use mathlib.Core.Path.{◌≡◌, refl}
use mathlib.Core.List.{[], ◌∷◌, map}
use lib.IntN.{pos, negsuc}
use Rattle.calendar.specs.Meaning.{Row, empty}
use Rattle.calendar.specs.Operation.{Operation}
use Rattle.calendar.specs.Operation.Binary.{alter}
use Rattle.calendar.specs.Operation.Operation.{binary}
use Rattle.calendar.specs.Lists.{from, is, keep}
use Rattle.calendar.specs.Distance.{size}
use Rattle.calendar.specs.Compute.{first_fine, last_fine, result}

-- the figure's operands: each fine granule has one or two instants, and every fourth instant is in none
abbrev fine : Row
fine = record { period = 4; distance = 2; cells = negsuc 10 ∷ negsuc 9 ∷ empty ∷ negsuc 8 ∷ [] }

abbrev coarse : Row
coarse = record { period = 4; distance = 1; cells = negsuc 4 ∷ negsuc 4 ∷ empty ∷ negsuc 3 ∷ [] }

abbrev alteration : Operation Row
alteration = binary (alter 3 2 (pos 1)) fine coarse

-- "28 and 6"
pub altered-size : size alteration ≡ record { period = 28; distance = 6 }
unfolding size
altered-size = refl

-- "slot −4 becomes fine slots −11 to −9"
pub altered-first : first_fine fine coarse 3 2 (pos 1) (negsuc 3) ≡ negsuc 10
unfolding first_fine
altered-first = refl

pub altered-last : last_fine fine coarse 3 2 (pos 1) (negsuc 3) ≡ negsuc 8
unfolding last_fine
altered-last = refl

-- its instants are −1, 0, 1, 3 and 4
pub altered-granule : keep (λ t. is (negsuc 3) (result alteration t)) (from (negsuc 13) 28) ≡ negsuc 0 ∷ map pos (0 ∷ 1 ∷ 3 ∷ 4 ∷ [])
unfolding result
altered-granule = refl
