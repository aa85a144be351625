-- `granule_ends::place` meets its contract: it is a walk back that counts.
-- Assumes nothing.
use mathlib.Core.Bool.{true}
use Rattle.integers.specs.Parts.{up}
use Rattle.calendar.specs.Questions.{given}
use Rattle.granule_ends.proofs.Walks.{left}
use Rattle.granule_ends.proofs.Places.{Placing}
use Rattle.granule_ends.proofs.place.Given as goal

abbrev pub invariant-loop-k : goal.invariant-loop-k
invariant-loop-k l = Placing (given l.period l.distance l.cells) l.t l.j l.c l.at l.count

abbrev pub decreases-loop-k : goal.decreases-loop-k
decreases-loop-k l = left true (up l.period) l.t l.at
