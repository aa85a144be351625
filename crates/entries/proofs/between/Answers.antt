-- `entries::between` meets its contract: the two tests in order are those of the definition.
-- Assumes nothing.
use mir.ValLaws.{to_z-of_z}
use Rattle.entries.proofs.between.Goals as goal

pub returns-then-low-z : goal.returns-then-low-z
returns-then-low-z c =
    let s = c.ranges in
    let l = s.low in
    let h = s.high in
    let z = s.z in
    let t = simp to_z-of_z at c.if-low-z.true in
    simp (to_z-of_z, t)

pub returns-else-low-z : goal.returns-else-low-z
returns-else-low-z c =
    let s = c.ranges in
    let l = s.low in
    let h = s.high in
    let z = s.z in
    let t = simp to_z-of_z at c.if-low-z.false in
    simp (to_z-of_z, t)
