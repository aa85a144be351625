-- `sheet_lines::write_cell` meets its contract.
-- Assumes nothing.
use mathlib.Core.Path.{ap, ◌∙◌}
use mathlib.Core.List.{List, ◌++◌}
use Prim.Native.Nat.{ℕ}
use Rattle.table_text.specs.Numerals.{numeral}
use Rattle.sheet_lines.proofs.Laying.{relay}
use Rattle.sheet_lines.proofs.Magnitudes.{narrow-is}
use Rattle.sheet_lines.proofs.Words.{empty-cell, label-cell, empty-by, not-empty-by}
use Rattle.sheet_lines.proofs.write_cell.Goals as goal
use Rattle.sheet_lines.proofs.write_cell.Goals.{Start}

pub returns-then-cell-eq-EMPTY : goal.returns-then-cell-eq-EMPTY
returns-then-cell-eq-EMPTY c =
    let s = (goal.at.returns-then-cell-eq-EMPTY c).Start in
    λ u o h. relay (ap (λ (w : List ℕ). u ++ w) (empty-cell s.args.cell (empty-by s.args.cell s.ranges.cell c.if-cell-eq-EMPTY.true))) (c.push.ensures u o h)

pub returns : goal.returns
returns c =
    let s = (goal.at.returns c).Start in
    λ u o h. relay (ap (λ (w : List ℕ). u ++ w) (ap numeral (narrow-is s.args.cell s.ranges.cell) ∙ label-cell s.args.cell (not-empty-by s.args.cell c.if-cell-eq-EMPTY.false))) (c.write_number.ensures u o h)
