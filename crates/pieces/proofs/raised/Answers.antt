-- `pieces::raised` meets its contract: the sum of a label and a number within the limits fits a cell, and is no empty mark.
-- Assumes nothing.
use mathlib.Core.Path.{◌≡◌, sym, ◌∙◌, ap}
use mathlib.Core.Option.{none, some}
use native.Mathlib.Omega.{arith}
use lib.IntN.{◌+ℤ◌}
use mir.Facts.{to_z-of_z, sfits_lit}
use mir.Syntax.{w32}
use mir.Val.{SFits, of_z}
use Rattle.integers.proofs.Linear.{ints, ◌∴◌}
use Rattle.integers.proofs.Machine.{plain, test-eq}
use Rattle.calendar.specs.Meaning.{label_of, raise, empty}
use Rattle.cursors.specs.Found.{Within}
use Rattle.cursors.proofs.Cells.{label-empty, label-full}
use Rattle.pieces.proofs.raised.Goals as goal
use Rattle.pieces.proofs.raised.Goals.{Else-cell-eq-EMPTY}

-- the cell has a label
label_is : (c : Else-cell-eq-EMPTY) → label_of c.args.cell ≡ some c.args.cell
label_is c = label-full c.args.cell (λ e. c.if-cell-eq-EMPTY.false (ap (of_z w32) e))

sum_bound : (c : Else-cell-eq-EMPTY) → Within 2000000000 (c.args.cell +ℤ c.args.rise)
sum_bound c = c.requires.within c.args.cell (label_is c) ∴ c.requires.within_2 ∴ simp ints (omega arith)

sum_fits : (c : Else-cell-eq-EMPTY) → SFits w32 (c.args.cell +ℤ c.args.rise)
sum_fits c = sum_bound c ∴ simp ints (omega arith)

pub overflow_add-result : goal.overflow_add-result
overflow_add-result c =
    let f = c.ranges.cell in
    let g = c.ranges.rise in
    simp plain (sum_fits c)

pub returns-then-cell-eq-EMPTY : goal.returns-then-cell-eq-EMPTY
returns-then-cell-eq-EMPTY c =
    let s = c.before in
    let e : label_of s.args.cell ≡ none = label-empty s.args.cell ((test-eq w32 s.args.cell empty s.ranges.cell (sfits_lit tt)).0 c.if-cell-eq-EMPTY.true) in
    ap label_of (to_z-of_z s.ranges.cell) ∙ e ∙ sym (ap (raise s.args.rise) e)

pub returns-else-cell-eq-EMPTY : goal.returns-else-cell-eq-EMPTY
returns-else-cell-eq-EMPTY c =
    let s = c.before in
    let f = s.ranges.cell in
    let g = s.ranges.rise in
    let h = sum_fits c in
    let full = label-full (s.args.cell +ℤ s.args.rise) (λ e. sum_bound c ∴ e ∴ simp ints (omega arith)) in
    simp plain (full ∙ sym (ap (raise s.args.rise) (label_is c)))
