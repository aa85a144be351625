-- `alter_granules::ahead::advance_to` meets its contract: the walk goes on until the next altered granule begins behind j.
-- Assumes nothing.
use mathlib.Core.Path.{◌≡◌}
use lib.IntN.{pos, ◌+ℤ◌, ◌-ℤ◌}
use lib.Signed.{◌≤ℤ◌}
use Rattle.integers.specs.Parts.{up}
use Rattle.calendar.specs.Questions.{given}
use Rattle.alter_granules.specs.Follows.{begins, CoarseWalk}
use Rattle.alter_granules.proofs.ahead.advance_to.Given as goal

abbrev pub invariant-loop-s : goal.invariant-loop-s
invariant-loop-s l =
    let a = given l.a_period l.a_distance l.a_cells in
    let b = given l.b_period l.b_distance l.b_cells in
    CoarseWalk l.by a b l.s × (begins l.by a b l.s.label ≤ℤ l.j) × (l.s.end ≡ l.initial.s.end)

abbrev pub decreases-loop-s : goal.decreases-loop-s
decreases-loop-s l = up (l.j +ℤ pos 1 -ℤ l.s.next)
