-- `fill_stretches::fill_along` meets its contract: each turn of the loop writes the cell of one instant.
-- Assumes nothing.
use Rattle.fill_stretches.specs.Stretch.{row_from}
use Rattle.fill_stretches.proofs.Growing.{Grown}
use Rattle.fill_stretches.proofs.fill_along.Given as goal

abbrev pub invariant-loop-t : goal.invariant-loop-t
invariant-loop-t l =
    Grown l.cell l.high (row_from l.start l.end l.period l.distance l.initial.pool) l.at l.size l.fn.from.t l.initial.pool l.pool l.cursor l.t
