-- `select_granules::judging::judged` meets its contract: it is a walk over the granule.
-- Assumes nothing.
use Rattle.integers.specs.Parts.{up}
use Rattle.calendar.specs.Questions.{given}
use Rattle.granule_ends.proofs.Walks.{ahead}
use Rattle.select_granules.proofs.Meetings.{Walk}
use Rattle.select_granules.proofs.judging.judged.Given as goal

abbrev pub invariant-loop-i : goal.invariant-loop-i
invariant-loop-i l =
    Walk l.pick l.whole (given l.a_period l.a_distance l.a_cells) (given l.b_period l.b_distance l.b_cells) l.j l.initial.at l.at l.own l.other l.picked

abbrev pub decreases-loop-i : goal.decreases-loop-i
decreases-loop-i l = ahead (up l.a_period) l.initial.at l.at
