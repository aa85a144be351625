-- The rows of a call, whose numbers come back from their bits as they were.
-- Assumes nothing.
use mathlib.Core.Path.{◌≡◌, ap₂}
use mathlib.Core.List.{List}
use lib.IntN.{ℤ}
use mir.Facts.{to_z-of_z}
use mir.Syntax.{w64}
use mir.Val.{SFits, of_z, to_z}
use Rattle.calendar.specs.Operation.{Alignment}
use Rattle.calendar.specs.Checks.{aligned_as}
use Rattle.calendar.specs.Questions.{given}

row-read : (p n : ℤ) (cells : List ℤ) → SFits w64 p → SFits w64 n
    → given (to_z w64 (of_z w64 p)) (to_z w64 (of_z w64 n)) cells ≡ given p n cells
row-read p n cells f g = ap₂ (λ (x y : ℤ). given x y cells) (to_z-of_z f) (to_z-of_z g)

-- they are aligned as before
pub aligned-read : (k : Alignment) (p n q m : ℤ) (a b : List ℤ) → SFits w64 p → SFits w64 n → SFits w64 q → SFits w64 m
    → aligned_as k (given (to_z w64 (of_z w64 p)) (to_z w64 (of_z w64 n)) a) (given (to_z w64 (of_z w64 q)) (to_z w64 (of_z w64 m)) b)
    ≡ aligned_as k (given p n a) (given q m b)
aligned-read k p n q m a b f g h i = ap₂ (aligned_as k) (row-read p n a f g) (row-read q m b h i)
