-- The invariant of the loop of `fill_alter::fill_alter`, over any pool in which the rows stood.
use Prim.Native.Nat.{◌-◌}
use mathlib.Core.List.{List}
use lib.IntN.{ℤ}
use Rattle.fill_shared.proofs.Filling.{lent_as}
use Rattle.fill_alter.proofs.Loops.{Altering}
use Rattle.fill_alter.proofs.fill_alter.Given as goal

abbrev pub invariant-loop-reached : goal.invariant-loop-reached
invariant-loop-reached l =
    let a = lent_as l.a_start l.a_end l.a_period l.a_distance in
    let b = lent_as l.b_start l.b_end l.b_period l.b_distance in
    (old : List ℤ)
    → Altering l.by l.repeat a b l.at l.period old l.initial.pool l.initial.walk l.initial.behind l.initial.reached
    → Altering l.by l.repeat a b l.at l.period old l.pool l.walk l.behind l.reached

abbrev pub decreases-loop-reached : goal.decreases-loop-reached
decreases-loop-reached l = l.period - l.reached.t
