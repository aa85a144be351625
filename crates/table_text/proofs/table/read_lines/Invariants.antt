-- `table_text::table::read_lines` meets its contract. The loop's invariant: the lines before `from` have been read, and their numbers stand in the table.
-- Assumes nothing.
use Prim.Native.Nat.{◌-◌}
use lib.ListN.{length}
use Rattle.table_text.proofs.Gathering.{Gathered}
use Rattle.table_text.proofs.table.read_lines.Given as goal

abbrev pub invariant-loop-from : goal.invariant-loop-from
invariant-loop-from l = Gathered (length l.initial.table) l.text l.from l.at l.number l.table

abbrev pub decreases-loop-from : goal.decreases-loop-from
decreases-loop-from l = length l.text - l.from
