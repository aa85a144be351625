-- `least_form::other_in` meets its contract. The loop keeps that each cell it has passed is repeated.
-- Assumes nothing.
use Rattle.least_form.specs.Cells.{RepeatsFrom}
use Rattle.least_form.proofs.other_in.Given as goal

abbrev pub invariant-loop-t : goal.invariant-loop-t
invariant-loop-t l = RepeatsFrom l.cells l.q l.rise l.start l.t
