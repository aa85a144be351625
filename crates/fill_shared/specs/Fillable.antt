-- What a loop that fills a working row is given, and what it has written.
use Rattle.std.specs.Prelude.{◌≡◌, List, ℕ, ◌≤◌, ◌<◌, ℤ, pos, length, get_or}
use Rattle.calendar.specs.Meaning.{Row, label_of, empty}
use Rattle.calendar.specs.Operation.{Operation}
use Rattle.calendar.specs.Size.{turn, span_of}
use Rattle.calendar.specs.Compute.{result}
use Rattle.calendar.specs.Limits.{pool_limit}
use Rattle.algebra.specs.Ready.{Ready}
use Rattle.kinds.specs.declared.Kind.{Kind}
use Rattle.kinds.specs.Operations.{operation_of, operands, Numbers, SoundFirst}

-- an operation that has passed checks 6, 7, 9 and 10, over rows of a pool
pub record Fillable (k : Kind) (a b : Row) : Type 0 where
  pub numbers : Numbers k
  pub sounds : SoundFirst (operands k) a b
  pub ready : Ready (operation_of k a b)
  pub at-most : span_of (turn a) (turn b) ≤ pool_limit

-- the cells of the instants before, 0, 1, ..
pub record Written (o : Operation Row) (cells : List ℤ) : Type 0 where
  pub at-most : length cells ≤ pool_limit
  pub labels : (u : ℕ) → u < length cells → label_of (get_or cells u empty) ≡ result o (pos u)
