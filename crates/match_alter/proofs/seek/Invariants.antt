-- `match_alter::seek` meets its contract: labels never fall, so the first that is not below j is j; both cursors are moved alike.
-- Assumes nothing.
use Prim.Native.Nat.{◌-◌}
use Rattle.calendar.specs.Limits.{pool_limit}
use Rattle.kinds.specs.Stands.{row_in}
use Rattle.match_alter.specs.Scanning.{Seeking}
use Rattle.match_alter.proofs.seek.Given as goal

abbrev pub invariant-loop-a_cells : goal.invariant-loop-a_cells
invariant-loop-a_cells l = Seeking (row_in l.pool l.a) (row_in l.pool l.r) l.j (record { index = l.index; cursor = l.cursor; claim = l.claim })

abbrev pub decreases-loop-a_cells : goal.decreases-loop-a_cells
decreases-loop-a_cells l = pool_limit - l.index
