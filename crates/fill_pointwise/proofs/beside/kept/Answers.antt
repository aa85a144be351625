-- `fill_pointwise::beside::kept` meets its contract.
-- Assumes nothing.
use mathlib.Core.Path.{sym, ap}
use mathlib.Core.Option.{Option}
use lib.IntN.{ℤ}
use mir.Syntax.{w32}
use mir.Val.{of_z}
use mathlib.Core.Bool.{Bool}
use Rattle.cursors.proofs.Cells.{label-empty, label-full, empty-iff, bits-empty}
use Rattle.fill_pointwise.specs.Beside.{kept_by}
use Rattle.fill_pointwise.proofs.beside.kept.Goals as goal
use Rattle.fill_pointwise.proofs.beside.kept.Goals.{Start}

abbrev by : Start → Option ℤ → Bool
by s = kept_by s.args.bare s.args.shared

pub returns-then-cell-eq-EMPTY : goal.returns-then-cell-eq-EMPTY
returns-then-cell-eq-EMPTY c =
    let s = (goal.at.returns-then-cell-eq-EMPTY c).Start in
    let z = s.args.cell in
    sym (ap (by s) (label-empty z ((empty-iff z).0 (bits-empty z s.ranges.cell c.if-cell-eq-EMPTY.true))))

pub returns-else-cell-eq-EMPTY : goal.returns-else-cell-eq-EMPTY
returns-else-cell-eq-EMPTY c = let s = (goal.at.returns-else-cell-eq-EMPTY c).Start in sym (ap (by s) (label-full s.args.cell (λ e. c.if-cell-eq-EMPTY.false (ap (of_z w32) e))))
