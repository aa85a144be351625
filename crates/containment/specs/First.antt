-- Where a walk over a granule begins.
use Rattle.std.specs.Prelude.{◌≡◌, ◌^◌, ℤ, ◌≤ℤ◌}
use Rattle.std.proofs.Math.Option.{some}
use Rattle.calendar.specs.Meaning.{Row, meant}
use Rattle.cursors.specs.Found.{Within}

-- t is the first instant of the granule i, with room for a walk of a turn
pub record FirstInstant (b : Row) (i t : ℤ) : Type 0 where
  pub near : Within (2 ^ 58) t
  pub label : meant b t ≡ some i
  pub least : (u : ℤ) → meant b u ≡ some i → t ≤ℤ u
