-- `alter_granules::emptying::some_short` meets its contract: it is a pass over the granules, and each next one begins where the one at hand ends.
-- Assumes nothing.
use lib.IntN.{◌-ℤ◌}
use Rattle.integers.specs.Parts.{up}
use Rattle.calendar.specs.Questions.{given}
use Rattle.alter_granules.proofs.Passes.{Passed}
use Rattle.alter_granules.proofs.emptying.some_short.Given as goal

abbrev pub invariant-loop-n : goal.invariant-loop-n
invariant-loop-n l =
    Passed l.by (given l.a_period l.a_distance l.a_cells) (given l.b_period l.b_distance l.b_cells) (up l.common) l.count l.initial.c l.c l._n

abbrev pub decreases-loop-n : goal.decreases-loop-n
decreases-loop-n l = up (l.count -ℤ l._n)
