-- `pieces::place_on` meets its contract.
-- Assumes nothing.
use Prim.Native.Nat.{◌+◌}
use native.Mathlib.Omega.{arith}
use lib.IntN.{◌+ℤ◌}
use mir.Syntax.{w64}
use mir.Val.{SFits}
use Rattle.integers.proofs.Linear.{ints, ◌∴◌}
use Rattle.integers.proofs.Machine.{plain}
use Rattle.granules.proofs.Tests.{ltb_iff, false-iff}
use Rattle.pieces.proofs.place_on.Goals as goal
use Rattle.pieces.proofs.place_on.Goals.{Start}

sum_fits : (s : Start) → SFits w64 (s.args.p.rise +ℤ s.args.distance)
sum_fits s = s.requires.near.0 ∴ s.requires.near.1 ∴ simp ints (omega arith)

rise-fits : (s : Start) → SFits w64 s.args.p.rise
rise-fits s = s.requires.near.0 ∴ simp ints (omega arith)

pub overflow_add-result : goal.overflow_add-result
overflow_add-result c =
    let s = c.before.before.before.before in
    let f = rise-fits s in
    let g = s.ranges.distance in
    simp plain (sum_fits s)

pub returns-then-cell-period : goal.returns-then-cell-period
returns-then-cell-period c =
    let s = c.before.before.before in
    let f = rise-fits s in
    simp plain (rw ((ltb_iff (s.args.p.cell + s.args.count) s.args.period).1 c.if-cell-period.true))

pub returns-else-cell-period : goal.returns-else-cell-period
returns-else-cell-period c =
    let s = c.before.before.before.before in
    let f = rise-fits s in
    let g = s.ranges.distance in
    let h = sum_fits s in
    let e = (false-iff (ltb_iff (s.args.p.cell + s.args.count) s.args.period)).1 (λ l. omega (arith, c.if-cell-period.false)) in
    simp plain (rw e)
