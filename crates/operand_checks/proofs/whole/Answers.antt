-- `operand_checks::whole` meets its contract: its test is that of check 8, and the room is not below 0.
-- Assumes nothing.
use borrow.Author.Tests.{le-leb, lt-leb}
use Rattle.integers.proofs.Machine.{plain}
use Rattle.operand_checks.proofs.Naturals.{up-mono, past}
use Rattle.operand_checks.proofs.whole.Goals as goal
use Rattle.operand_checks.proofs.whole.Goals.{Start}

pub returns-then-period-room : goal.returns-then-period-room
returns-then-period-room c =
    let s = (goal.at.returns-then-period-room c).Start in
    let r = s.ranges.room in
    let p = s.ranges.period in
    let n = s.ranges.distance in
    simp (plain, le-leb _ _ (up-mono (simp plain at c.if-period-room.true)))

pub returns-else-period-room : goal.returns-else-period-room
returns-else-period-room c =
    let s = (goal.at.returns-else-period-room c).Start in
    let r = s.ranges.room in
    let p = s.ranges.period in
    simp (lt-leb _ _ (past s.requires.0 (simp plain at c.if-period-room.false)))
