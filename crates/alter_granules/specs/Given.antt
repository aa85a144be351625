-- What alter is given: a, the fine operand, and b, the coarse one, that have passed the checks so far; and what is written before an instant.
use Rattle.std.specs.Prelude.{◌≡◌, List, ℕ, ◌≤◌, ◌<◌, ℤ, pos, ◌≤ℤ◌, length, get_or}
use Rattle.integers.specs.Parts.{up}
use Rattle.calendar.specs.Meaning.{Row, meant, Full, empty, label_of}
use Rattle.calendar.specs.Operation.{Operation}
use Rattle.calendar.specs.Operation.Operation.{binary}
use Rattle.calendar.specs.Operation.Binary.{alter}
use Rattle.calendar.specs.Algebra.{Partition}
use Rattle.calendar.specs.Size as Size
use Rattle.calendar.specs.Size.{turn, span_of}
use Rattle.calendar.specs.Compute.{result}
use Rattle.calendar.specs.Limits.{pool_limit}
use Rattle.algebra.specs.Ready.{Ready}
use Rattle.kinds.specs.declared.Alteration.{Alteration}
use Rattle.kinds.specs.Limits.{Limits}
use Rattle.alter_granules.specs.declared.Repeat.{Repeat}

-- the altering of b by a
abbrev pub altering : Alteration → Row → Row → Operation Row
altering by a b = binary (alter (up by.x) (up by.y) by.z) a b

-- before check 10
pub record Emptiable (by : Alteration) (a b : Row) (span : ℤ) : Type 0 where
  pub limits : Limits by
  pub full : Full (meant a) × Full (meant b)
  pub partition : Partition (meant a) (meant b)
  pub is-span : span ≡ pos (span_of (turn a) (turn b))
  pub at-most : span ≤ℤ pos pool_limit

-- behind it, with n and D of document 01
pub record Alterable (by : Alteration) (repeat : Repeat) (a b : Row) : Type 0 where
  pub limits : Limits by
  pub ready : Ready (altering by a b)
  pub coarse : repeat.coarse ≡ pos (Size.coarse (turn a) (turn b) (up by.x))
  pub fine : repeat.fine ≡ Size.fine (turn a) (turn b) (up by.x) by.z
  pub at-most : span_of (turn a) (turn b) ≤ pool_limit

-- these cells are the labels of the instants 0, 1, ..
pub record Written (by : Alteration) (a b : Row) (cells : List ℤ) : Type 0 where
  pub at-most : length cells ≤ pool_limit
  pub labels : (u : ℕ) → u < length cells → label_of (get_or cells u empty) ≡ result (altering by a b) (pos u)
