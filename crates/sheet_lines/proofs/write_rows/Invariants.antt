-- `sheet_lines::write_rows` meets its contract. The loop's invariant: the lines of the first i headings have been written.
-- Assumes nothing.
use Rattle.sheet_lines.specs.Laid.{Adds}
use Rattle.sheet_lines.specs.RowLines.{row_lines}
use Rattle.sheet_lines.proofs.write_rows.Given as goal

abbrev pub invariant-loop-i : goal.invariant-loop-i
invariant-loop-i l = Adds (row_lines l.headings l.pool l.i) l.at l.initial.out l.place l.out
