-- What check 13 says of the numbers of a row that is handed in.
-- Assumes nothing.
use mathlib.Core.Path.{◌≡◌}
use mathlib.Core.Bool.{true}
use mathlib.Core.List.{List}
use Prim.Native.Nat.{◌≤◌}
use lib.IntN.{ℤ, pos}
use lib.ListN.{length}
use Rattle.integers.specs.Parts.{up}
use Rattle.integers.proofs.Order.{is_up_lem}
use Rattle.calendar.specs.Limits.{pool_limit}
use Rattle.calendar.specs.Sound.{sound}
use Rattle.calendar.specs.Questions.{given}
use Rattle.granules.proofs.Sound.{sound-valid, sound-limits}

-- the period and the distance of a sound row are naturals, "1 ≤ N ≤ P ≤ pool_limit", and P is the row's length
pub record Numbers (period distance : ℤ) (cells : List ℤ) : Type 0 where
  pub period-is : period ≡ pos (up period)
  pub distance_is : distance ≡ pos (up distance)
  pub whole : length cells ≡ up period
  pub low : 1 ≤ up distance
  pub middle : up distance ≤ up period
  pub high : up period ≤ pool_limit

pub numbers : (period distance : ℤ) (cells : List ℤ) → sound (given period distance cells) ≡ true → Numbers period distance cells
numbers period distance cells s =
    let v = sound-valid (given period distance cells) s in
    let l = sound-limits (given period distance cells) s in
    record {
      period-is = is_up_lem period v.positive.0;
      distance_is = is_up_lem distance v.positive.1;
      whole = v.whole;
      low = v.positive.1;
      middle = l.0;
      high = l.1;
    }
