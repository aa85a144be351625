-- An operation over rows that has passed its checks, and what is then right of its computed result.
use Rattle.std.specs.Prelude.{◌≡◌, ◌↔◌, ◌≤◌, ℤ}
use Rattle.std.proofs.Math.Option.{some}
use Rattle.calendar.specs.Meaning.{Row, Calendar, meant, Ordered, Repeats}
use Rattle.calendar.specs.Operation.{Operation, map_operation}
use Rattle.calendar.specs.Operation.Operation.{bottom, unary, binary}
use Rattle.calendar.specs.Algebra.{Labels, FullOperands, Aligned, Emptied}
use Rattle.calendar.specs.Distance.{size}
use Rattle.calendar.specs.Compute.{result}
use Rattle.granules.specs.Valid.{Valid}
use Rattle.algebra.specs.Factor.{Factor}

-- what holds of each operand
abbrev pub Operands : {A : Type 0} → (A → Type 0) → Operation A → Type 0
Operands P bottom = Unit {0}
Operands P (unary u a) = P a
Operands P (binary o a b) = P a × P b

-- the calendars that its rows mean
abbrev pub meaning : Operation Row → Operation Calendar
meaning = map_operation meant

pub record Ready (o : Operation Row) : Type 0 where
  pub valid : Operands Valid o
  pub factor : Factor o
  pub full : FullOperands (meaning o)
  pub aligned : Aligned (meaning o)
  pub kept : ¬ (Emptied (meaning o))

-- the computed result labels instants as the algebra says, in order, and repeats with the working period and its distance
pub record Right (o : Operation Row) : Type 0 where
  pub labels : (t i : ℤ) → (result o t ≡ some i) ↔ Labels (meaning o) t i
  pub ordered : Ordered (result o)
  pub repeats : Repeats (size o).period (size o).distance (result o)
  pub positive : (1 ≤ (size o).period) × (1 ≤ (size o).distance)
