-- `open_row::labels::nth_from` meets its contract: the loop counts the labels that it passes.
-- Assumes nothing.
use mathlib.Core.Path.{◌≡◌}
use Prim.Native.Nat.{◌+◌}
use Rattle.open_row.specs.Shown.{labelled_before}
use Rattle.open_row.proofs.labels.nth_from.Given as goal

abbrev pub invariant-loop-i : goal.invariant-loop-i
invariant-loop-i l = labelled_before l.cells l.i + l.left ≡ labelled_before l.cells l.start + l.k
