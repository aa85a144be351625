-- `fill_stretches::fill_stretch` meets its contract: both ways do.
-- Assumes nothing.
use lib.IntN.{pos}
use mir.Facts.{sfits_lit}
use mir.Syntax.{w64}
use mir.Val.{SFits}
use Rattle.integers.proofs.Machine.{plain, test-eq}
use Rattle.fill_stretches.proofs.fill_stretch.Goals as goal
use Rattle.fill_stretches.proofs.fill_stretch.Goals.{Start, Then-period-eq1}

pub fill_one_cell-requires : goal.fill_one_cell-requires
fill_one_cell-requires c =
    let b = (goal.at.fill_one_cell-requires c).Then-period-eq1 in
    let s = (goal.at.Then-period-eq1 b).Start in
    let p = s.ranges.period in
    let d = s.ranges.distance in
    let o : SFits w64 (pos 1) = sfits_lit tt in
    record { room = simp plain s.requires.room; follows = simp plain s.requires.follows; period_value = simp plain ((test-eq w64 s.args.period (pos 1) p o).0 b.if-period-eq1.true) }

pub returns-then-period-eq1 : goal.returns-then-period-eq1
returns-then-period-eq1 c =
    let s = (goal.at.returns-then-period-eq1 c).Start in
    let z = s.ranges.cell in
    let h = s.ranges.high in
    let p = s.ranges.period in
    let d = s.ranges.distance in
    simp plain at c.fill_one_cell.ensures

pub returns-else-period-eq1 : goal.returns-else-period-eq1
returns-else-period-eq1 c =
    let s = (goal.at.returns-else-period-eq1 c).Start in
    let z = s.ranges.cell in
    let h = s.ranges.high in
    let p = s.ranges.period in
    let d = s.ranges.distance in
    simp plain at c.fill_along.ensures
