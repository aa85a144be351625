-- `containment::inside_toward` meets its contract: it is a walk back or on.
-- Assumes nothing.
use Rattle.integers.specs.Parts.{up}
use Rattle.calendar.specs.Questions.{given}
use Rattle.granule_ends.proofs.Walks.{left}
use Rattle.containment.specs.Places.{at}
use Rattle.containment.proofs.Walks.{Toward}
use Rattle.containment.proofs.inside_toward.Given as goal

abbrev pub invariant-loop : goal.invariant-loop
invariant-loop l =
    Toward l.back (given l.b_period l.b_distance l.b_cells) (given l.a_period l.a_distance l.a_cells) l.initial.next l.next

abbrev pub decreases-loop : goal.decreases-loop
decreases-loop l =
    let r = given l.b_period l.b_distance l.b_cells in
    left l.back (up l.b_period) (at r l.initial.next) (at r l.next)
