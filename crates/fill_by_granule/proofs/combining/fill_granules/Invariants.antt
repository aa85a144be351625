-- `fill_by_granule::combining::fill_granules` meets its contract: each turn of the loop decides a granule of b and writes the cells of its instants.
--     Begun        before the loop: its invariant, the rows that are lent, and the cells before the first label
--     Turning      a turn: what is decided, and what holds behind it
-- Assumes nothing.
use mathlib.Core.List.{List}
use Prim.Native.Nat.{◌-◌}
use lib.IntN.{ℤ}
use Rattle.fill_shared.proofs.Filling.{lent_as}
use Rattle.fill_by_granule.proofs.Combines.{Combining}
use Rattle.fill_by_granule.proofs.combining.fill_granules.Given as goal

abbrev pub invariant-loop-reached : goal.invariant-loop-reached
invariant-loop-reached l =
    let a = lent_as l.a_start l.a_end l.a_period l.a_distance in
    let b = lent_as l.b_start l.b_end l.b_period l.b_distance in
    (old : List ℤ) → Combining a b l.at l.period old l.initial.pool l.initial.reached l.initial.a_cursor l.initial.fresh l.initial.labelled → Combining a b l.at l.period old l.pool l.reached l.a_cursor l.fresh l.labelled

abbrev pub decreases-loop-reached : goal.decreases-loop-reached
decreases-loop-reached l =
    l.period - l.reached.t
