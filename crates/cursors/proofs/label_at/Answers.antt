-- `cursors::label_at` meets its contract: its label is that of its cursor.
-- Assumes nothing.
use Rattle.integers.proofs.Machine.{plain}
use Rattle.cursors.proofs.label_at.Goals as goal

pub returns : goal.returns
returns c =
    let s = c.before.before in
    let p = s.ranges.period in
    let d = s.ranges.distance in
    let t = s.ranges.t in
    (simp plain at c.cursor_label.ensures) s.args.t (simp plain at c.cursor_at-c.ensures)
