-- The loop of `fill_unary::grouping::fill_along`: each turn finds the group of the next label, and writes the cells of the stretch that has it.
-- Assumes nothing.
use mathlib.Core.List.{List}
use Prim.Native.Nat.{◌-◌}
use lib.IntN.{ℤ}
use Rattle.fill_shared.proofs.Filling.{lent_as}
use Rattle.fill_unary.proofs.Along.{Grouping}
use Rattle.fill_unary.proofs.grouping.fill_along.Given as goal

-- over any pool in which the row stood
abbrev pub invariant-loop-reached : goal.invariant-loop-reached
invariant-loop-reached l =
    let a = lent_as l.start l.end l.a_period l.a_distance in
    (old : List ℤ) → Grouping l.x a l.at l.period old l.initial.pool l.initial.reached → Grouping l.x a l.at l.period old l.pool l.reached

abbrev pub decreases-loop-reached : goal.decreases-loop-reached
decreases-loop-reached l = l.period - l.reached.t
