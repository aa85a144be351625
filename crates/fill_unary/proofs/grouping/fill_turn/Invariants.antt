-- The loop of `fill_unary::grouping::fill_turn`: each turn writes one cell, the group of whose label is known or is worked out.
-- Assumes nothing.
use Rattle.fill_unary.specs.Grouped.{Knows, Grouped}
use Rattle.fill_unary.proofs.grouping.fill_turn.Given as goal

abbrev pub invariant-loop-i : goal.invariant-loop-i
invariant-loop-i l = Grouped l.x l.rise l.start l.to l.initial.pool l.pool l.i × Knows l.x l.known
