-- `sheet_lines::write_cells` meets its contract. The loop's invariant: the first i cells have been written.
-- Assumes nothing.
use lib.ListN.{take}
use Rattle.sheet_lines.specs.Laid.{Adds}
use Rattle.sheet_lines.specs.RowLines.{spaced_cells}
use Rattle.sheet_lines.proofs.write_cells.Given as goal

abbrev pub invariant-loop-cell : goal.invariant-loop-cell
invariant-loop-cell l = Adds (spaced_cells (take l.cell-index l.cells)) l.at l.initial.out l.k l.out
