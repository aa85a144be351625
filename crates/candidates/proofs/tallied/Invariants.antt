-- `candidates::tallied` meets its contract: it is a walk over the granule.
-- Assumes nothing.
use lib.IntN.{pos, ◌+ℤ◌}
use Rattle.integers.specs.Parts.{up}
use Rattle.calendar.specs.Questions.{given}
use Rattle.granule_ends.proofs.Walks.{ahead}
use Rattle.candidates.proofs.Candidates.{Walk}
use Rattle.candidates.proofs.tallied.Given as goal

abbrev pub invariant-loop-tally : goal.invariant-loop-tally
invariant-loop-tally l =
    Walk l.whole (given l.a_period l.a_distance l.a_cells) (given l.b_period l.b_distance l.b_cells) l.i l.first l.low l.high l.at l.own l.other l.looked l.latest l.tally

abbrev pub decreases-loop-tally : goal.decreases-loop-tally
decreases-loop-tally l = ahead (up l.b_period) (l.first +ℤ pos 1) l.at
