-- `entries::naming::pick_of` meets its contract: its fields are those of the entry.
-- Assumes nothing.
use borrow.Author.Rules.{rules}
use Rattle.entries.proofs.Fields.{Fields}
use Rattle.entries.proofs.Arms.{widened_is}
use Rattle.entries.proofs.naming.pick_of.Goals as goal
use Rattle.entries.proofs.naming.pick_of.Goals.{Start}

fields : (c : Start) → Fields c.args.e
fields c = search rules

pub returns : goal.returns
returns c =
    let f = fields (goal.at.returns c).Start in
    (widened_is _ _ f.x c.from.ensures, widened_is _ _ f.y c.from-2.ensures)
