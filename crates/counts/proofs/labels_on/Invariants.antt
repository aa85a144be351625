-- `counts::labels_on` meets its contract: the loop keeps the count, by the greatest label so far and the cells that are left.
-- Assumes nothing.
use lib.ListN.{drop}
use Rattle.counts.proofs.Steps.{Passed}
use Rattle.counts.proofs.labels_on.Given as goal

abbrev pub invariant-loop-z : goal.invariant-loop-z
invariant-loop-z l = Passed (drop l.i l.cells) 0 l.z-index l.last l.count l.top l.sum
