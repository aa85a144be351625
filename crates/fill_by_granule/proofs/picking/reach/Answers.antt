-- `fill_by_granule::picking::reach` meets its contract.
-- Assumes nothing.
use native.Mathlib.Omega.{arith}
use lib.IntN.{pos}
use lib.Signed.{◌≤ℤ◌, ◌<ℤ◌}
use Rattle.integers.proofs.Linear.{ints, ◌∴◌}
use Rattle.integers.proofs.Machine.{plain}
use Rattle.integers.proofs.Order.{up_le}
use Rattle.fill_shared.proofs.Cells.{natural, cast-natural}
use Rattle.fill_by_granule.proofs.picking.reach.Goals as goal
use Rattle.fill_by_granule.proofs.picking.reach.Goals.{Else-v-le0, Start}

pub returns-then-v-le0 : goal.returns-then-v-le0
returns-then-v-le0 c =
    let s = (goal.at.returns-then-v-le0 c).Start in
    let f = s.ranges.v in
    let h : s.args.v ≤ℤ pos 0 = simp plain at c.if-v-le0.true in
    omega (arith, up_le h)

-- it is not below 0
high : (c : Else-v-le0) → pos 0 ≤ℤ c.args.v
high c =
    let s = (goal.at.Else-v-le0 c).Start in
    let f = s.ranges.v in
    let h : pos 0 <ℤ s.args.v = simp plain at c.if-v-le0.false in
    h ∴ simp ints (omega arith)

pub overflow_cast-t : goal.overflow_cast-t
overflow_cast-t c = cast-natural c.ranges.v (high c)

pub returns-then-t-period : goal.returns-then-t-period
returns-then-t-period c = let e = natural c.ranges.v (high (goal.at.returns-then-t-period c).Else-v-le0) in omega (arith, e, c.if-t-period.true)

pub returns-else-t-period : goal.returns-else-t-period
returns-else-t-period c = let e = natural c.ranges.v (high (goal.at.returns-else-t-period c).Else-v-le0) in omega (arith, e, c.if-t-period.false)
