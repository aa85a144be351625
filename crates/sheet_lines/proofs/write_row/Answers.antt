-- `sheet_lines::write_row` meets its contract, word by word.
-- Assumes nothing.
use Rattle.sheet_lines.proofs.Laying.{relay}
use Rattle.sheet_lines.proofs.Lines.{row-line}
use Rattle.sheet_lines.proofs.write_row.Goals as goal

pub returns : goal.returns
returns c =
    let a = c.args in
    λ u o h. relay (row-line a.period a.distance a.cells.now u)
    (c.push.ensures _ o (c.write_cells-d.ensures _ o (c.write_decimal-c.ensures _ o (c.push-b.ensures _ o (c.write_decimal-a.ensures u o h)))))
