-- `sheet_lines::write_cells` meets its contract. The loop's invariant: the first i cells have been written.
-- Assumes nothing.
use borrow.Author.Rules.{rules}
use mathlib.Core.Path.{sym, ap}
use mathlib.Core.List.{List, ◌++◌, append-nil}
use lib.IntN.{ℤ}
use lib.Seq.{take_all}
use Rattle.sheet_lines.specs.RowLines.{spaced_cells}
use Rattle.sheet_lines.proofs.Laying.{relay}
use Rattle.sheet_lines.proofs.Lines.{spaced-more}
use Rattle.sheet_lines.proofs.write_cells.Goals as goal

pub loop-cell-init : goal.loop-cell-init
loop-cell-init c = λ t o h. relay (sym (append-nil t)) h

pub loop-cell-preserved : goal.loop-cell-preserved
loop-cell-preserved c =
    λ t o h. relay (spaced-more c.args.cells.now c.loop-cell.cell-index _ c.loop-cell-test.true (search rules) t)
    (c.write_cell-k.ensures _ o (c.push-j.ensures _ o (c.loop-cell.invariant t o h)))

pub returns : goal.returns
returns c =
    let all = take_all c.loop-cell.cell-index c.args.cells.now c.loop-cell-test.false in
    λ t o h. relay (ap (λ (m : List ℤ). t ++ spaced_cells m) all) (c.loop-cell.invariant t o h)
