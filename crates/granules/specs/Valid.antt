-- The rows of which the laws hold.
use Rattle.std.specs.Prelude.{◌≡◌, ◌≤◌, ℤ, length}
use Rattle.calendar.specs.Meaning.{Row, meant, Has, Ordered}

-- a row that means a calendar: what rule 13 of document 01 asks, less its limits of cells and labels
pub record Valid (r : Row) : Type 0 where
  pub whole : length r.cells ≡ r.period
  pub positive : (1 ≤ r.period) × (1 ≤ r.distance)
  pub ordered : Ordered (meant r)
  pub label : ℤ
  pub labelled : Has (meant r) label
