-- `entries::operands` meets its contract: the array is the column of the kinds' table.
-- Assumes nothing.
use lib.ListN.{get_or-map}
use Rattle.calendar.specs.Table.{kinds, no_operand}
use Rattle.entries.proofs.operands.Goals as goal

pub returns : goal.returns
returns c = get_or-map (λ m. m.operands) kinds c.args.kind no_operand
