-- `least_form::others_in` meets its contract: none is counted exactly if each cell that the loop has passed is
-- repeated.
-- Assumes nothing.
use mathlib.Core.Path.{◌≡◌}
use Prim.Native.Nat.{◌+◌, ◌≤◌}
use Rattle.least_form.specs.Cells.{RepeatsFrom}
use Rattle.least_form.proofs.others_in.Given as goal

abbrev pub invariant-loop-t : goal.invariant-loop-t
invariant-loop-t l = record {
  few : l.start + l.count ≤ l.t;
  none : l.count ≡ 0 → RepeatsFrom l.cells l.q l.rise l.start l.t;
  all : RepeatsFrom l.cells l.q l.rise l.start l.t → l.count ≡ 0;
}
