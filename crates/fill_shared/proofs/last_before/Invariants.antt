-- `fill_shared::last_before` meets its contract: it is a walk back from the instant −1.
-- Assumes nothing.
use Rattle.calendar.specs.Questions.{given}
use Rattle.fill_shared.proofs.Before.{Back, left}
use Rattle.fill_shared.proofs.last_before.Given as goal

abbrev pub invariant-loop-j : goal.invariant-loop-j
invariant-loop-j l = Back (given l.period l.distance l.cells) l.c

abbrev pub decreases-loop-j : goal.decreases-loop-j
decreases-loop-j l = left (given l.period l.distance l.cells) l.c
