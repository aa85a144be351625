-- The ends of alter's working row, and what finding them is given.
use Rattle.std.specs.Prelude.{◌≤◌, List, ℤ, pos, ◌-ℤ◌, ◌≤ℤ◌}
use Rattle.integers.specs.Parts.{up}
use Rattle.calendar.specs.Limits.{pool_limit}
use Rattle.calendar.specs.Meaning.{Row}
use Rattle.calendar.specs.Operation.{Operation}
use Rattle.calendar.specs.Size.{Turn}
use Rattle.calendar.specs.Distance.{size}
use Rattle.kinds.specs.declared.Alteration.{Alteration}
use Rattle.kinds.specs.declared.Operand.{Operand}
use Rattle.kinds.specs.Stands.{row_in, Stands}
use Rattle.sizes.specs.Stored.{most_coarse}
use Rattle.sizes.specs.Altered.{alter_distance}
use Rattle.alter_granules.specs.declared.Repeat.{Repeat}
use Rattle.alter_granules.specs.Given.{altering}
use Rattle.match_shared.specs.Ends.{FirstIn, LastBefore}
use Rattle.alter_ends.specs.declared.Ends.{Ends}

-- a period with its distance
abbrev pub turn_at : ℤ → ℤ → Turn
turn_at period distance = record { period = up period; distance = up distance }

-- n and D of an altering by a row of this period and distance, with a working row that is not longer than a pool
pub record Turning (period distance : ℤ) (repeat : Repeat) : Type 0 where
  pub distance-low : pos 1 ≤ℤ distance
  pub dense : distance ≤ℤ period
  pub period-high : period ≤ℤ pos pool_limit
  pub coarse-low : pos 1 ≤ℤ repeat.coarse
  pub coarse-high : repeat.coarse ≤ℤ pos most_coarse
  pub fine-low : pos 1 ≤ℤ repeat.fine
  pub few : alter_distance (turn_at period distance) (up repeat.coarse) repeat.fine ≤ pool_limit

-- the operands stand in the pool, and the working row is not longer than a pool
pub record Lies (by : Alteration) (a b : Operand) (pool : List ℤ) : Type 0 where
  pub a-stands : Stands pool a
  pub b-stands : Stands pool b
  pub few : (size (altering by (row_in pool a) (row_in pool b))).period ≤ pool_limit

-- the first label from 0 on, and the last one before 0, a turn of the working row later
pub record EndsOf (o : Operation Row) (r : Ends) : Type 0 where
  pub first-at : ℤ
  pub is-first : FirstIn o (pos 0) (pos (size o).period) first-at r.first
  pub last-at : ℤ
  pub is_last : LastBefore o last-at (r.last -ℤ pos (size o).distance)
