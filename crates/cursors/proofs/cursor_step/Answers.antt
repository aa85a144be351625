-- `cursors::cursor_step` meets its contract: it is a step back or on.
-- Assumes nothing.
use mathlib.Core.Path.{sym, ◌∙◌, ap}
use mathlib.Core.Bool.{Bool}
use Rattle.integers.proofs.Machine.{plain}
use Rattle.calendar.specs.Meaning.{Row}
use Rattle.calendar.specs.Questions.{given}
use Rattle.cursors.specs.Cursor.{cursor_at}
use Rattle.cursors.specs.Direction.{stepped}
use Rattle.cursors.proofs.cursor_step.Goals as goal
use Rattle.cursors.proofs.cursor_step.Goals.{Start}

abbrev row : Start → Row
row s = given s.args.period s.args.distance s.args.cells.now

pub cursor_back-requires : goal.cursor_back-requires
cursor_back-requires c =
    let s = c.before in
    let p = s.ranges.period in
    let d = s.ranges.distance in
    simp plain s.requires

pub cursor_next-requires : goal.cursor_next-requires
cursor_next-requires c =
    let s = c.before in
    let p = s.ranges.period in
    let d = s.ranges.distance in
    simp plain s.requires

pub returns-then-back : goal.returns-then-back
returns-then-back c u e =
    let s = c.before.before in
    let p = s.ranges.period in
    let d = s.ranges.distance in
    (simp plain at c.cursor_back.ensures) u e ∙ ap (λ (b : Bool). cursor_at (row s) (stepped b u)) (sym c.if-back.true)

pub returns-else-back : goal.returns-else-back
returns-else-back c u e =
    let s = c.before.before in
    let p = s.ranges.period in
    let d = s.ranges.distance in
    (simp plain at c.cursor_next.ensures) u e ∙ ap (λ (b : Bool). cursor_at (row s) (stepped b u)) (sym c.if-back.false)
