-- `entries::no_numbers` meets its contract: y and z are tested where x is 0.
-- Assumes nothing.
use borrow.Author.Rules.{rules}
use mir.ValLaws.{to_z-of_z}
use Rattle.entries.proofs.Fields.{Fields}
use Rattle.entries.proofs.no_numbers.Goals as goal
use Rattle.entries.proofs.no_numbers.Goals.{After-is_zero, Start}

fields : (c : Start) → Fields c.args.e
fields c = search rules

pub returns-then-is_zero : goal.returns-then-is_zero
returns-then-is_zero c =
    let first = (goal.at.returns-then-is_zero c).After-is_zero in
    let f = fields (goal.at.After-is_zero first).Start in
    let x = simp (to_z-of_z, f.x) at first.is_zero.ensures in
    simp (← x, c.if-is_zero.true) (simp (to_z-of_z, f.y, f.z) at c.both_zero.ensures)

pub returns-else-is_zero : goal.returns-else-is_zero
returns-else-is_zero c =
    let first = (goal.at.returns-else-is_zero c).After-is_zero in
    let x = simp (to_z-of_z, (fields (goal.at.After-is_zero first).Start).x) at first.is_zero.ensures in
    simp (← x, c.if-is_zero.false)
