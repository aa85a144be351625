-- `fill_unary::shifting::fill_shift` meets its contract: each turn of the loop writes the cell of one instant.
-- Assumes nothing.
use mathlib.Core.Path.{◌≡◌}
use Rattle.calendar.specs.Operation.Unary.{shift}
use Rattle.calendar.specs.Operation.Operation.{unary}
use Rattle.kinds.specs.declared.Operand.{Operand}
use Rattle.kinds.specs.Stands.{row_in}
use Rattle.fill_unary.proofs.Shifts.{Shifts, Shifted}
use Rattle.fill_unary.proofs.shifting.fill_shift.Given as goal

-- for every row that starts there
abbrev pub invariant-loop-t : goal.invariant-loop-t
invariant-loop-t l =
    (a : Operand) → a.start ≡ l.start → Shifts l.x a l.at l.period l.initial.pool → Shifted (unary (shift l.x) (row_in l.initial.pool a)) l.at l.initial.pool l.pool l.outside l.t
