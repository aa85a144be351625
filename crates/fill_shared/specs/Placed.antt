-- Where a working row is filled in, and what its labels are.
use Rattle.calendar.specs.declared.Refusal.TheVariants.{NothingLabelled, LabelOutsideLimits}
use Rattle.calendar.specs.declared.Refusal.{Refusal}
use Rattle.std.specs.Prelude.{◌≡◌, true, cond, List, ◌++◌, ℕ, ◌+◌, ◌≤◌, ℤ, pos, ◌≤ℤ◌, length, take, drop, Err, Ok, Result, ⊤}
use Rattle.calendar.specs.Meaning.{Row}
use Rattle.calendar.specs.Operation.{Operation, map_operation}
use Rattle.calendar.specs.Size as Size
use Rattle.calendar.specs.Size.{turn}
use Rattle.calendar.specs.Distance.{size}
use Rattle.calendar.specs.Compute.{working}
use Rattle.calendar.specs.Checks.{unlabelled, labels_in_range}
use Rattle.calendar.specs.Limits.{pool_limit}
use Rattle.kinds.specs.declared.Kind.{Kind}
use Rattle.kinds.specs.declared.Operand.{Operand}
use Rattle.kinds.specs.Operations.{operation_of}
use Rattle.kinds.specs.Stands.{end, row_in}

-- the operands stand before the cell `at`, and from there on there is room for the working row
pub record Placed (k : Kind) (a b : Operand) (span : ℤ) (at period : ℕ) (pool : List ℤ) : Type 0 where
  pub a-period : pos 0 ≤ℤ a.period
  pub b-period : pos 0 ≤ℤ b.period
  pub a-end : end a ≤ at
  pub b_end : end b ≤ at
  pub room : at + period ≤ length pool
  pub at-most : length pool ≤ pool_limit
  pub is-span : span ≡ pos (Size.span (map_operation turn (operation_of k (row_in pool a) (row_in pool b))))
  pub is-period : period ≡ (size (operation_of k (row_in pool a) (row_in pool b))).period

-- checks 12 and 11: some instant has a label, and all labels are within the limits
abbrev pub filled_as : Operation Row → Result ⊤ Refusal
filled_as o = cond (unlabelled o) (Err NothingLabelled) (cond (labels_in_range o) (Ok tt) (Err LabelOutsideLimits))

-- the operation of the kind over rows of the pool
abbrev pub over : Kind → List ℤ → Operand → Operand → Operation Row
over kind pool a b = operation_of kind (row_in pool a) (row_in pool b)

-- what a loop leaves: its answer, and a pool that has the cells before `at` as they were and, unless a label is outside the limits, the working row from there on
pub record Fills (o : Operation Row) (at period : ℕ) (old new : List ℤ) (r : Result ⊤ Refusal) : Type 0 where
  pub answer : r ≡ filled_as o
  pub lengths : length new ≡ length old
  pub before : take at new ≡ take at old
  pub row : labels_in_range o ≡ true → new ≡ take at old ++ ((working o).cells ++ drop (at + period) old)
