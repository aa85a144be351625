-- `match_by_granule::selecting::match_select` meets its contract: each turn of the loop decides a granule of a and compares its instants.
-- Assumes nothing.
use Prim.Native.Nat.{◌-◌}
use Rattle.kinds.specs.Stands.{row_in}
use Rattle.match_by_granule.proofs.Selects.{Selecting}
use Rattle.match_by_granule.proofs.selecting.match_select.Given as goal

abbrev pub invariant-loop-reached : goal.invariant-loop-reached
invariant-loop-reached l =
    Selecting l.by (row_in l.pool l.a) (row_in l.pool l.b) (row_in l.pool l.r) l.period l.reached l.b_cursor l.fresh l.picked l.labelled

abbrev pub decreases-loop-reached : goal.decreases-loop-reached
decreases-loop-reached l = l.period - l.reached.t
