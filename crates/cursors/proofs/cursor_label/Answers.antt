-- `cursors::cursor_label` meets its contract: the label is that of the cell, raised.
-- Assumes nothing.
use mathlib.Core.Path.{◌≡◌, ◌∙◌, sym, ap}
use native.Mathlib.Omega.{arith}
use borrow.Author.Rules.{sfits_of}
use lib.IntN.{ℤ}
use lib.ListN.{get_or}
use mir.Facts.{sfits_lit}
use mir.Syntax.{w32}
use mir.Val.{SFits, of_z}
use Rattle.integers.specs.Parts.{up}
use Rattle.integers.proofs.Linear.{ints, ◌∴◌}
use Rattle.integers.proofs.Machine.{plain, widened, test-eq}
use Rattle.calendar.specs.Meaning.{meant, raise, label_of, empty}
use Rattle.calendar.specs.Questions.{given}
use Rattle.cursors.specs.Cursor.{cursor_at}
use Rattle.cursors.proofs.Numbers.{numbers}
use Rattle.cursors.proofs.Cells.{label-empty, label-full}
use Rattle.cursors.proofs.Cursors.{Bounds, bounds, cursor-meant}
use Rattle.cursors.proofs.cursor_label.Goals as goal
use Rattle.cursors.proofs.cursor_label.Goals.{After-cell_at-cell, Start}

known : (c : Start) → Bounds c.args.period c.args.distance c.args.c
known c = bounds c.args.period c.args.distance c.args.cells.now c.requires.sound c.args.c c.requires.standing

pub cell_at-cell-requires : goal.cell_at-cell-requires
cell_at-cell-requires c =
    let s = (goal.at.cell_at-cell-requires c).Start in
    let i = (known s).index-fits in
    let n = numbers s.args.period s.args.distance s.args.cells.now s.requires.sound in
    simp plain ((known s).low, (known s).high ∴ n.period-is ∴ n.whole ∴ simp ints (omega arith))

-- the cell that was read
cell-fits : (c : After-cell_at-cell) → SFits w32 c.cell_at-cell.result
cell-fits c = sfits_of c.cell_at-cell.type_inv

cell-is : (c : After-cell_at-cell) → c.cell_at-cell.result ≡ get_or c.args.cells.now (up c.args.c.index) empty
cell-is c = let i = (known (goal.at.After-cell_at-cell c).Start).index-fits in simp plain at c.cell_at-cell.ensures

pub overflow_cast-result : goal.overflow_cast-result
overflow_cast-result c = let f = cell-fits (goal.at.overflow_cast-result c).After-cell_at-cell in simp plain (widened f)

pub overflow_add-result : goal.overflow_add-result
overflow_add-result c =
    let t = (goal.at.overflow_add-result c).After-cell_at-cell in
    let s = (goal.at.After-cell_at-cell t).Start in
    let f = cell-fits t in
    let r = (known s).rise-fits in
    f ∴ (known s).rise-low ∴ (known s).rise-high ∴ simp (plain, ints) (omega arith)

-- the label by the cell
label_is : (c : After-cell_at-cell) (u : ℤ) → (c.args.c ≡ cursor_at (given c.args.period c.args.distance c.args.cells.now) u)
    → meant (given c.args.period c.args.distance c.args.cells.now) u ≡ raise c.args.c.rise (label_of c.cell_at-cell.result)
label_is c u e =
    let s = (goal.at.After-cell_at-cell c).Start in
    cursor-meant (given s.args.period s.args.distance s.args.cells.now) s.args.c u e ∙ ap (λ (y : ℤ). raise s.args.c.rise (label_of y)) (sym (cell-is c))

pub returns-then-cell : goal.returns-then-cell
returns-then-cell c u e =
    let t = (goal.at.returns-then-cell c).After-cell_at-cell in
    let s = (goal.at.After-cell_at-cell t).Start in
    let z = t.cell_at-cell.result in
    let h = (test-eq w32 z empty (cell-fits t) (sfits_lit tt)).0 c.if-cell.true in
    sym (label_is t u e ∙ ap (raise s.args.c.rise) (label-empty z h))

pub returns-else-cell : goal.returns-else-cell
returns-else-cell c u e =
    let t = (goal.at.returns-else-cell c).After-cell_at-cell in
    let s = (goal.at.After-cell_at-cell t).Start in
    let z = t.cell_at-cell.result in
    let f = cell-fits t in
    let r = (known s).rise-fits in
    let w = simp plain at (overflow_add-result c) in
    let h = label-full z (λ p. c.if-cell.false (ap (of_z w32) p)) in
    simp plain (sym (label_is t u e ∙ ap (raise s.args.c.rise) h))
