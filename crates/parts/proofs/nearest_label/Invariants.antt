-- `parts::nearest_label` meets its contract: it is a walk over a gap.
-- Assumes nothing.
use Rattle.integers.specs.Parts.{up}
use Rattle.calendar.specs.Questions.{given}
use Rattle.granule_ends.proofs.Walks.{left}
use Rattle.containment.specs.Places.{instant}
use Rattle.parts.proofs.WalkGaps.{Gap}
use Rattle.parts.proofs.nearest_label.Given as goal

abbrev pub invariant-loop-j : goal.invariant-loop-j
invariant-loop-j l =
    let r = given l.period l.distance l.cells in
    Gap l.back r (instant r l.initial.c) l.c (instant r l.c)

abbrev pub decreases-loop-j : goal.decreases-loop-j
decreases-loop-j l =
    let r = given l.period l.distance l.cells in
    left l.back (up l.period) (instant r l.initial.c) (instant r l.c)
