-- `counts::changes` meets its contract: the loop keeps the count, by the cell before and the cells that are left.
-- Assumes nothing.
use mathlib.Core.Path.{◌≡◌}
use mathlib.Core.List.{List}
use Prim.Native.Nat.{ℕ, ◌+◌, ◌-◌, ◌≤◌}
use lib.IntN.{ℤ}
use lib.ListN.{length, get_or, drop}
use Rattle.calendar.specs.Meaning.{empty}
use Rattle.counts.specs.Labels.{differing, differing_behind}
use Rattle.counts.proofs.changes.Given as goal

pub record Inv (cells : List ℤ) (count i : ℕ) : Type 0 where
  pub few : count + 1 ≤ i
  pub within : i ≤ length cells
  pub left : differing (get_or cells 0 empty) (drop 1 cells) ≡ count + differing_behind cells i

abbrev pub invariant-loop-i : goal.invariant-loop-i
invariant-loop-i l = Inv l.cells l.count l.i

abbrev pub decreases-loop-i : goal.decreases-loop-i
decreases-loop-i l = length l.cells - l.i
