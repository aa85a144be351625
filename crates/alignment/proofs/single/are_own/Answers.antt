-- `alignment::single::are_own` meets its contract.
-- Assumes nothing.
use mathlib.Core.Path.{refl}
use native.Mathlib.Omega.{arith}
use mir.Syntax.{w64}
use mir.Val.{to_z, of_z}
use Rattle.integers.proofs.Machine.{plain}
use Rattle.granules.proofs.Tests.{true≢false}
use Rattle.cursors.proofs.Numbers.{numbers}
use Rattle.alignment.proofs.OneCell.{both_own}
use Rattle.alignment.proofs.single.are_own.Goals as goal
use Rattle.alignment.proofs.single.are_own.Goals.{Start, Then-is_own}

pub first_of-first-requires : goal.first_of-first-requires
first_of-first-requires c =
    let n = numbers c.args.a_period c.args.a_distance c.args.a_cells.now c.requires.sound in
    omega (arith, n.whole, n.high)

pub returns-then-is_own : goal.returns-then-is_own
returns-then-is_own c e =
    let t = (goal.at.returns-then-is_own c).Then-is_own in
    let s = (goal.at.Then-is_own t).Start in
    let a = s.args in
    let p = s.ranges.a_period in
    let n = s.ranges.a_distance in
    let q = s.ranges.b_period in
    let m = s.ranges.b_distance in
    let f = simp plain at t.is_own.ensures.even in
    let g = simp plain at c.is_own-then-is_own.ensures.even in
    let k = t.if-is_own.true in
    both_own a.a_period a.a_distance a.b_period a.b_distance a.a_cells.now a.b_cells.now s.requires.sound s.requires.sound_2 (to_z w64 (of_z w64 t.first_of-first.result)) (f k) (g e) (t.is_own.ensures.along k) (c.is_own-then-is_own.ensures.along e)

pub returns-else-is_own : goal.returns-else-is_own
returns-else-is_own c e = absurd (true≢false e refl)
