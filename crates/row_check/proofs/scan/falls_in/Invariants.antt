-- `row_check::scan::falls_in` meets its contract: as long as no cell is below the one before, the labels go on from the cell before.
-- Assumes nothing.
use mathlib.Core.Path.{◌≡◌}
use mathlib.Core.List.{List}
use Prim.Native.Nat.{ℕ, ◌+◌, ◌≤◌}
use lib.IntN.{ℤ}
use Rattle.row_check.specs.Order.{risen_behind}
use Rattle.row_check.proofs.scan.falls_in.Given as goal

pub record Inv (cells : List ℤ) (start end count i : ℕ) : Type 0 where
  pub few : start + count ≤ i
  pub same : count ≡ 0 → risen_behind cells start ≡ risen_behind cells i

abbrev pub invariant-loop-i : goal.invariant-loop-i
invariant-loop-i l = Inv l.cells l.start l.end l.count l.i
