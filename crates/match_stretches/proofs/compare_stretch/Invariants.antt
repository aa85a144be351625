-- `match_stretches::compare_stretch` meets its contract: each turn of the loop compares one instant.
-- Assumes nothing.
use Rattle.cursors.specs.Found.{found}
use Rattle.kinds.specs.Stands.{row_in}
use Rattle.match_stretches.specs.Stretch.{Passed}
use Rattle.match_stretches.proofs.compare_stretch.Given as goal

abbrev pub invariant-loop-t : goal.invariant-loop-t
invariant-loop-t l =
    Passed (found l.label) l.high (row_in l.pool l.a) (row_in l.pool l.r) l.size l.fn.from (record { t = l.t; cursor = l.cursor; claim = l.claim; same = l.same })
