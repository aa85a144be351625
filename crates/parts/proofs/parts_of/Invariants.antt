-- `parts::parts_of` meets its contract: it is a walk over the granule.
-- Assumes nothing.
use lib.ListN.{length}
use Rattle.integers.specs.Parts.{up}
use Rattle.calendar.specs.Questions.{given}
use Rattle.containment.specs.Places.{instant}
use Rattle.granule_ends.proofs.Walks.{ahead}
use Rattle.parts.proofs.Walk.{Walk}
use Rattle.parts.proofs.parts_of.Given as goal

abbrev pub invariant-loop-k : goal.invariant-loop-k
invariant-loop-k l =
    let r = given l.h_period l.h_distance l.h_cells in
    Walk r (given l.g_period l.g_distance l.g_cells) l.z l.first (length l.fn.parts) l.parts (instant r l.h) l.h l.g l.count l.outside l.latest

abbrev pub decreases-loop-k : goal.decreases-loop-k
decreases-loop-k l = ahead (up l.h_period) l.first (instant (given l.h_period l.h_distance l.h_cells) l.h)
