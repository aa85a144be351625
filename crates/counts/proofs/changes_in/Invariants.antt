-- `counts::changes_in` meets its contract: the loop keeps the count, by the cell before and the cells that are left.
-- Assumes nothing.
use mathlib.Core.Path.{◌≡◌}
use mathlib.Core.List.{List}
use Prim.Native.Nat.{ℕ, ◌+◌, ◌≤◌}
use lib.IntN.{ℤ}
use Rattle.counts.specs.Labels.{differing_behind}
use Rattle.counts.proofs.changes_in.Given as goal

pub record Inv (cells : List ℤ) (start end count i : ℕ) : Type 0 where
  pub few : start + count ≤ i
  pub left : differing_behind cells start ≡ count + differing_behind cells i

abbrev pub invariant-loop-i : goal.invariant-loop-i
invariant-loop-i l = Inv l.cells l.start l.end l.count l.i
