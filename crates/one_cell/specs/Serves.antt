-- A row of one cell whose labels are within the limits as far as they are needed.
use Rattle.std.specs.Prelude.{◌≡◌, ℕ, ℤ, pos, ◌+ℤ◌, ◌≤ℤ◌}
use Rattle.calendar.specs.Limits.{label_limit}

-- the row has one cell, c, and its labels over so many instants from 0 on are within the limits
pub record Serves (row_period c : ℤ) (period : ℕ) : Type 0 where
  pub one : row_period ≡ pos 1
  pub labels : (c +ℤ pos period) ≤ℤ label_limit
