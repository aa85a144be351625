-- `granule_ends::end_instant` meets its contract: it is a walk to the end of the granule.
-- Assumes nothing.
use Rattle.integers.specs.Parts.{up}
use Rattle.calendar.specs.Questions.{given}
use Rattle.granule_ends.proofs.Walks.{Walk, left}
use Rattle.granule_ends.proofs.end_instant.Given as goal

abbrev pub invariant-loop-k : goal.invariant-loop-k
invariant-loop-k l = Walk l.back (given l.period l.distance l.cells) l.t l.j l.c l.at l.end

abbrev pub decreases-loop-k : goal.decreases-loop-k
decreases-loop-k l = left l.back (up l.period) l.t l.at
