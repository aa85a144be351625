-- `strides::other_from` meets its contract: the loop is the search among the cells from `start` on.
-- Assumes nothing.
use Prim.Native.Nat.{◌-◌}
use lib.ListN.{drop}
use Rattle.cursors.proofs.Search.{Searched}
use Rattle.strides.specs.Changes.{passable}
use Rattle.strides.proofs.other_from.Given as goal

abbrev pub invariant-loop-i : goal.invariant-loop-i
invariant-loop-i l = Searched (passable l.z) (drop l.start l.cells) (l.i - l.start)
