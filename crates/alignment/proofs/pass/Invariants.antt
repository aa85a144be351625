-- `alignment::pass`: the loop is about to look at an instant of the pass.
-- Assumes nothing.
use lib.IntN.{◌+ℤ◌, ◌-ℤ◌}
use Rattle.integers.specs.Parts.{up}
use Rattle.calendar.specs.Questions.{given}
use Rattle.alignment.specs.Codes.{coded_label}
use Rattle.alignment.specs.Fits.{alignment_of}
use Rattle.alignment.proofs.Looks.{Looks}
use Rattle.alignment.proofs.pass.Given as goal

abbrev pub invariant-loop-k : goal.invariant-loop-k
invariant-loop-k l =
    Looks (alignment_of l.k) (given l.a_period l.a_distance l.a_cells) (given l.b_period l.b_distance l.b_cells) l.initial.t l.t l.a l.b
    (coded_label l.o) (coded_label l.p)

abbrev pub decreases-loop-k : goal.decreases-loop-k
decreases-loop-k l = up (l.initial.t +ℤ l.span -ℤ l.t)
