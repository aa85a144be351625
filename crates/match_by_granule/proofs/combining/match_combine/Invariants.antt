-- `match_by_granule::combining::match_combine` meets its contract: each turn of the loop decides a granule of b and compares its instants.
-- Assumes nothing.
use Prim.Native.Nat.{◌-◌}
use Rattle.kinds.specs.Stands.{row_in}
use Rattle.match_by_granule.proofs.Combines.{Combining}
use Rattle.match_by_granule.proofs.combining.match_combine.Given as goal

abbrev pub invariant-loop-reached : goal.invariant-loop-reached
invariant-loop-reached l =
    Combining (row_in l.pool l.a) (row_in l.pool l.b) (row_in l.pool l.r) l.period l.reached l.a_cursor l.fresh l.labelled

abbrev pub decreases-loop-reached : goal.decreases-loop-reached
decreases-loop-reached l = l.period - l.reached.t
