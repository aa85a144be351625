-- `fill_unary::grouping::fill_turns` meets its contract: each turn of the loop writes the cells of one turn of the operand, and the working row is whole turns.
-- Assumes nothing.
use mathlib.Core.Bool.{Bool}
use Prim.Native.Nat.{◌-◌}
use lib.IntN.{pos}
use Rattle.kinds.specs.declared.Kind.TheVariants.{Group}
use Rattle.fill_shared.proofs.Filling.{Filling}
use Rattle.fill_shared.proofs.Cursors.{Cell}
use Rattle.fill_unary.specs.Grouped.{Knows}
use Rattle.fill_unary.proofs.Lent.{lent_from}
use Rattle.fill_unary.proofs.grouping.fill_turns.Given as goal

abbrev pub invariant-loop-t : goal.invariant-loop-t
invariant-loop-t l =
    ((labelled : Bool) × Filling (Group l.x) (lent_from l.start l.end l.a_distance) (lent_from l.start l.end l.a_distance) l.at l.period l.initial.pool l.pool labelled l.t)
    × Cell (lent_from l.start l.end l.a_distance) l.initial.pool l.start l.rise (pos l.t)
    × Knows l.x l.known

abbrev pub decreases-loop-t : goal.decreases-loop-t
decreases-loop-t l = l.period - l.t
