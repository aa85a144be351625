-- `fill_by_granule::selecting::fill_granules` meets its contract: each turn of the loop decides a granule of a and writes the cells of its instants.
--     Begun        before the loop: its invariant, the rows that are lent, and the cells before the first label
--     Turning      a turn: what is decided, and what holds behind it
-- Assumes nothing.
use mathlib.Core.List.{List}
use Prim.Native.Nat.{◌-◌}
use lib.IntN.{ℤ}
use Rattle.fill_shared.proofs.Filling.{lent_as}
use Rattle.fill_by_granule.proofs.Selects.{Selecting}
use Rattle.fill_by_granule.proofs.selecting.fill_granules.Given as goal

abbrev pub invariant-loop-reached : goal.invariant-loop-reached
invariant-loop-reached l =
    let a = lent_as l.a_start l.a_end l.a_period l.a_distance in
    let b = lent_as l.b_start l.b_end l.b_period l.b_distance in
    (old : List ℤ) → Selecting l.by a b l.at l.period old l.initial.pool l.initial.reached l.initial.b_cursor l.initial.fresh l.initial.picked l.initial.labelled → Selecting l.by a b l.at l.period old l.pool l.reached l.b_cursor l.fresh l.picked l.labelled

abbrev pub decreases-loop-reached : goal.decreases-loop-reached
decreases-loop-reached l =
    l.period - l.reached.t
