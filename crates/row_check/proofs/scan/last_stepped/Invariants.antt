-- `row_check::scan::last_stepped` meets its contract: the loop keeps the answer, by the last label so far and the cells that are left, an even number.
-- Assumes nothing.
use mathlib.Core.Path.{◌≡◌}
use mathlib.Core.List.{List}
use Prim.Native.Nat.{ℕ, ◌+◌, ◌-◌, ◌*◌, ◌≤◌}
use lib.IntN.{ℤ}
use lib.ListN.{length, drop}
use mir.Syntax.{w32}
use mir.Val.{SFits}
use Rattle.row_check.specs.Order.{risen, risen_from}
use Rattle.row_check.proofs.scan.last_stepped.Given as goal

-- up to the cell i no label falls, and the last one is `last`
pub record Rises (cells : List ℤ) (start : ℕ) (last : ℤ) (i : ℕ) : Type 0 where
  pub within : i ≤ length cells
  pub fits : SFits w32 last
  pub same : risen_from cells start ≡ risen last (drop i cells)

abbrev pub invariant-loop-i : goal.invariant-loop-i
invariant-loop-i l = Rises l.cells l.start l.last l.i × ((half : ℕ) × (length l.cells ≡ l.i + 2 * half))

abbrev pub decreases-loop-i : goal.decreases-loop-i
decreases-loop-i l = length l.cells - l.i
