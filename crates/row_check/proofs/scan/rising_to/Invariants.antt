-- `row_check::scan::rising_to` meets its contract: from block to block the labels go on from the last cell that was passed.
-- Assumes nothing.
use mathlib.Core.Path.{◌≡◌, sym, ◌∙◌, ap}
use mathlib.Core.List.{List}
use Prim.Native.Nat.{ℕ, ◌+◌, ◌-◌, ◌≤◌, ◌<◌}
use native.Mathlib.Omega.{arith}
use lib.IntN.{ℤ}
use lib.ListN.{length, get_or, drop}
use Rattle.calendar.specs.Meaning.{empty}
use Rattle.row_check.specs.Order.{risen, risen_from, risen_behind}
use Rattle.row_check.proofs.Order.{risen-own}
use Rattle.row_check.proofs.scan.rising_to.Given as goal

-- the cells before i are passed
pub record Inv (cells : List ℤ) (start i : ℕ) : Type 0 where
  pub low : start < i
  pub within : i ≤ length cells
  pub same : risen_from cells start ≡ risen_behind cells i

-- the last cell that is passed
pub passed : (cells : List ℤ) (start i : ℕ) → Inv cells start i → (i - 1 < length cells) × (risen_from cells start ≡ risen_from cells (i - 1))
passed cells start i v =
    let here : i - 1 < length cells = omega arith in
    let e : i ≡ i - 1 + 1 = omega arith in
    (here, v.same ∙ ap (λ (m : ℕ). risen (get_or cells (i - 1) empty) (drop m cells)) e ∙ sym (risen-own cells (i - 1) empty here))

abbrev pub invariant-loop-i : goal.invariant-loop-i
invariant-loop-i l = Inv l.cells l.start l.i

abbrev pub decreases-loop-i : goal.decreases-loop-i
decreases-loop-i l = length l.cells - l.i
