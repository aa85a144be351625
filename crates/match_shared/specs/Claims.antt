-- What a loop is given that compares a claimed row with the working row of an operation: all three rows stand in the pool.
use Rattle.std.specs.Prelude.{◌≡◌, List, ℕ, ◌≤◌, ℤ, pos, ◌≤ℤ◌, length}
use Rattle.calendar.specs.Operation.{map_operation}
use Rattle.calendar.specs.Size as Size
use Rattle.calendar.specs.Size.{turn}
use Rattle.calendar.specs.Distance.{size}
use Rattle.calendar.specs.Limits.{pool_limit}
use Rattle.kinds.specs.declared.Kind.{Kind}
use Rattle.kinds.specs.declared.Operand.{Operand}
use Rattle.kinds.specs.Operations.{operation_of}
use Rattle.kinds.specs.Stands.{end, row_in, Stands}

-- the operands a and b and the claimed row r stand in the pool, which has room for the working row
pub record Claimed (k : Kind) (a b r : Operand) (span : ℤ) (period : ℕ) (pool : List ℤ) : Type 0 where
  pub a-period : pos 0 ≤ℤ a.period
  pub b-period : pos 0 ≤ℤ b.period
  pub r-period : pos 0 ≤ℤ r.period
  pub a-end : end a ≤ length pool
  pub b_end : end b ≤ length pool
  pub claim : Stands pool r
  pub room : period ≤ length pool
  pub at-most : length pool ≤ pool_limit
  pub is-span : span ≡ pos (Size.span (map_operation turn (operation_of k (row_in pool a) (row_in pool b))))
  pub is-period : period ≡ (size (operation_of k (row_in pool a) (row_in pool b))).period
