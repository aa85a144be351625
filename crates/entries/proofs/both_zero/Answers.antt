-- `entries::both_zero` meets its contract: the second number is tested where the first is 0.
-- Assumes nothing.
use mir.ValLaws.{to_z-of_z}
use Rattle.entries.proofs.both_zero.Goals as goal

pub returns-then-is_zero : goal.returns-then-is_zero
returns-then-is_zero c =
    let f = c.ranges in
    let y = simp (to_z-of_z, f.y) at c.is_zero.ensures in
    simp (← y, c.if-is_zero.true) (simp (to_z-of_z, f.z) at c.is_zero-then-is_zero.ensures)

pub returns-else-is_zero : goal.returns-else-is_zero
returns-else-is_zero c =
    let y = simp (to_z-of_z, c.ranges.y) at c.is_zero.ensures in
    simp (← y, c.if-is_zero.false)
