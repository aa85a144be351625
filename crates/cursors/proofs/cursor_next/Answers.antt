-- `cursors::cursor_next` meets its contract: its two arms are the two cases of a step, in the turn and into the next.
-- Assumes nothing.
use native.Mathlib.Omega.{arith}
use lib.IntN.{pos}
use Rattle.integers.proofs.Linear.{ints, ◌∴◌}
use Rattle.integers.proofs.Machine.{plain}
use Rattle.cursors.proofs.Numbers.{numbers}
use Rattle.cursors.proofs.Cursors.{Bounds, bounds, cursor-moved}
use Rattle.cursors.proofs.cursor_next.Goals as goal
use Rattle.cursors.proofs.cursor_next.Goals.{After-struct_told-1, Start}

known : (c : Start) → Bounds c.args.period c.args.distance c.args.c
known c = bounds c.args.period c.args.distance c.args.cells.now c.requires.sound c.args.c c.requires.standing

pub overflow_add-index : goal.overflow_add-index
overflow_add-index c =
    let s = (goal.at.overflow_add-index c).Start in
    let i = (known s).index-fits in
    (known s).low ∴ (known s).high ∴ s.ranges.period ∴ simp (plain, ints) (omega arith)

pub overflow_add-result : goal.overflow_add-result
overflow_add-result c =
    let s = (goal.at.overflow_add-result c).Start in
    let r = (known s).rise-fits in
    let d = s.ranges.distance in
    simp plain (known s).more-fits

pub returns-then-index-period : goal.returns-then-index-period
returns-then-index-period c u e =
    let t = (goal.at.returns-then-index-period c).After-struct_told-1 in
    let s = (goal.at.After-struct_told-1 t).Start in
    let i = (known s).index-fits in
    let r = (known s).rise-fits in
    let p = s.ranges.period in
    let f = simp plain at (overflow_add-index t) in
    simp plain
    (cursor-moved s.args.period s.args.distance s.args.cells.now s.requires.sound s.args.c u (pos 1) (pos 0) _ _ e
    (simp ints (omega arith)) (simp ints (omega arith))
    ((known s).low ∴ simp ints (omega arith))
    (simp plain at c.if-index-period.true))

pub returns-else-index-period : goal.returns-else-index-period
returns-else-index-period c u e =
    let t = (goal.at.returns-else-index-period c).After-struct_told-1 in
    let s = (goal.at.After-struct_told-1 t).Start in
    let i = (known s).index-fits in
    let r = (known s).rise-fits in
    let p = s.ranges.period in
    let d = s.ranges.distance in
    let f = simp plain at (overflow_add-index t) in
    let g = (known s).more-fits in
    let n = numbers s.args.period s.args.distance s.args.cells.now s.requires.sound in
    simp plain
    (cursor-moved s.args.period s.args.distance s.args.cells.now s.requires.sound s.args.c u (pos 1) (pos 1) _ _ e
    (simp plain at c.if-index-period.false ∴ (known s).high ∴ simp ints (omega arith)) (simp ints (omega arith))
    (simp ints (omega arith))
    (n.period-is ∴ n.low ∴ n.middle ∴ simp ints (omega arith)))
