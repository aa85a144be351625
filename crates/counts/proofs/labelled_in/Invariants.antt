-- `counts::labelled_in` meets its contract: the loop counts the labels of the cells that it has passed.
-- Assumes nothing.
use mathlib.Core.Path.{◌≡◌}
use Prim.Native.Nat.{◌+◌, ◌≤◌}
use lib.ListN.{length, drop}
use Rattle.calendar.specs.Sound.{labels_of}
use Rattle.counts.proofs.labelled_in.Given as goal

abbrev pub invariant-loop-z : goal.invariant-loop-z
invariant-loop-z l = record {
  few : l.count ≤ l.z-index;
  left : length (labels_of (drop l.start l.cells)) ≡ l.count + length (labels_of (drop (l.start + l.z-index) l.cells));
}
