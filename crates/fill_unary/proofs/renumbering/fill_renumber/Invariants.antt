-- The loop of `fill_unary::renumbering::fill_renumber`: each turn writes the cell of one instant.
-- Assumes nothing.
use Rattle.fill_shared.proofs.Filling.{lent_as}
use Rattle.fill_unary.proofs.Renumbers.{Renumbers}
use Rattle.fill_unary.proofs.renumbering.fill_renumber.Given as goal

abbrev pub invariant-loop-t : goal.invariant-loop-t
invariant-loop-t l = Renumbers l.x (lent_as l.start l.end l.a_period l.a_distance) l.at l.period l.initial.pool l.pool l.last l.number l.t
