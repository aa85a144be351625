-- The least period of a row that is handed in.
use Rattle.std.specs.Prelude.{◌≡◌, true, List, ℤ, pos}
use Rattle.calendar.specs.Sound.{sound}
use Rattle.calendar.specs.Questions.{given}
use Rattle.calendar.specs.Least.{least}

-- q is the least period of the row, which passed check 13
pub record IsLeast (period distance q : ℤ) (cells : List ℤ) : Type 0 where
  pub passed : sound (given period distance cells) ≡ true
  pub is : q ≡ pos (least (given period distance cells)).period
