-- `entries::label` meets its contract: y and z are tested where x may be a label.
-- Assumes nothing.
use borrow.Author.Rules.{rules}
use mir.ValLaws.{to_z-of_z}
use Rattle.integers.proofs.Machine.{plain, widened}
use Rattle.entries.proofs.Fields.{Fields}
use Rattle.entries.proofs.label.Goals as goal
use Rattle.entries.proofs.label.Goals.{After-in_range, Start}

fields : (c : Start) → Fields c.args.e
fields c = search rules

pub overflow_cast-e : goal.overflow_cast-e
overflow_cast-e c = let x = (fields (goal.at.overflow_cast-e c).Start).x in simp plain (widened x)

pub returns-then-in_range : goal.returns-then-in_range
returns-then-in_range c =
    let first = (goal.at.returns-then-in_range c).After-in_range in
    let f = fields (goal.at.After-in_range first).Start in
    let x = f.x in
    simp (← (simp plain at first.in_range.ensures), c.if-in_range.true)
    (simp (to_z-of_z, f.y, f.z) at c.both_zero.ensures)

pub returns-else-in_range : goal.returns-else-in_range
returns-else-in_range c =
    let first = (goal.at.returns-else-in_range c).After-in_range in
    let x = (fields (goal.at.After-in_range first).Start).x in
    simp (← (simp plain at first.in_range.ensures), c.if-in_range.false)
