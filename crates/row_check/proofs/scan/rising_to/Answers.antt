-- `row_check::scan::rising_to` meets its contract: from block to block the labels go on from the last cell that was passed.
-- Assumes nothing.
use mathlib.Core.Path.{◌≡◌, ◌∙◌, ap}
use Prim.Native.Nat.{ℕ, ◌+◌, ◌-◌}
use native.Mathlib.Omega.{arith}
use lib.ListN.{get_or, drop}
use Rattle.calendar.specs.Meaning.{empty}
use Rattle.row_check.specs.Order.{risen}
use Rattle.row_check.proofs.Order.{risen-own}
use Rattle.row_check.proofs.scan.rising_to.Invariants.{passed}
use Rattle.row_check.proofs.scan.rising_to.Goals as goal
use Rattle.row_check.proofs.scan.rising_to.Goals.{At-loop-i}

pub loop-i-init : goal.loop-i-init
loop-i-init c =
    let l = c.args.cells.now in
    let k = c.args.start in
    let e : k ≡ k + 1 - 1 = omega arith in
    record {
      low = omega arith;
      within = omega arith;
      same = risen-own l k empty c.requires ∙ ap (λ (m : ℕ). risen (get_or l m empty) (drop (k + 1) l)) e;
    }

pub returns-then-falls_in-ne0 : goal.returns-then-falls_in-ne0
returns-then-falls_in-ne0 c = let a = (goal.at.returns-then-falls_in-ne0 c).At-loop-i in record { within = (passed _ _ _ a.loop-i.invariant).0; start_value = (passed _ _ _ a.loop-i.invariant).1 }

pub loop-i-preserved : goal.loop-i-preserved
loop-i-preserved c =
    let k = c.loop-i in
    record { low = omega arith; within = omega arith; same = k.invariant.same ∙ c.falls_in.ensures c.if-falls_in-ne0.false }

pub returns : goal.returns
returns c = record { within = (passed _ _ _ c.loop-i.invariant).0; start_value = (passed _ _ _ c.loop-i.invariant).1 }
