-- `alter_granules::behind::seek` meets its contract: labels never fall, so the first that is not below j is j.
-- Assumes nothing.
use Prim.Native.Nat.{◌-◌}
use Rattle.calendar.specs.Limits.{pool_limit}
use Rattle.calendar.specs.Questions.{given}
use Rattle.alter_granules.specs.Follows.{Seeks}
use Rattle.alter_granules.proofs.behind.seek.Given as goal

abbrev pub invariant-loop-cursor : goal.invariant-loop-cursor
invariant-loop-cursor l = Seeks (given l.period l.distance l.cells) (record { index = l.index; cursor = l.cursor }) l.j

abbrev pub decreases-loop-cursor : goal.decreases-loop-cursor
decreases-loop-cursor l = pool_limit - l.index
