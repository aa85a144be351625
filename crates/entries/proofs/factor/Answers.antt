-- `entries::factor` meets its contract: y and z are tested where x is a factor.
-- Assumes nothing.
use borrow.Author.Rules.{rules}
use mir.ValLaws.{to_z-of_z}
use Rattle.entries.proofs.Fields.{Fields}
use Rattle.entries.proofs.factor.Goals as goal
use Rattle.entries.proofs.factor.Goals.{After-between, Start}

fields : (c : Start) → Fields c.args.e
fields c = search rules

pub returns-then-between : goal.returns-then-between
returns-then-between c =
    let first = (goal.at.returns-then-between c).After-between in
    let f = fields (goal.at.After-between first).Start in
    let x = simp (to_z-of_z, f.x) at first.between.ensures in
    simp (← x, c.if-between.true) (simp (to_z-of_z, f.y, f.z) at c.both_zero.ensures)

pub returns-else-between : goal.returns-else-between
returns-else-between c =
    let first = (goal.at.returns-else-between c).After-between in
    let x = simp (to_z-of_z, (fields (goal.at.After-between first).Start).x) at first.between.ensures in
    simp (← x, c.if-between.false)
