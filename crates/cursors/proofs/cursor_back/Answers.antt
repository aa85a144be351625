-- `cursors::cursor_back` meets its contract: its two arms are the two cases of a step back, in the turn and into the one before.
-- Assumes nothing.
use native.Mathlib.Omega.{arith}
use lib.IntN.{pos, negsuc}
use Rattle.integers.proofs.Linear.{ints, ◌∴◌}
use Rattle.integers.proofs.Machine.{plain}
use Rattle.cursors.proofs.Numbers.{Numbers, numbers}
use Rattle.cursors.proofs.Cursors.{Bounds, bounds, cursor-moved}
use Rattle.cursors.proofs.cursor_back.Goals as goal
use Rattle.cursors.proofs.cursor_back.Goals.{After-struct_told-then-c-gt0-1, Else-c-gt0, Start, Then-c-gt0}

known : (c : Start) → Bounds c.args.period c.args.distance c.args.c
known c = bounds c.args.period c.args.distance c.args.cells.now c.requires.sound c.args.c c.requires.standing

numbered : (c : Start) → Numbers c.args.period c.args.distance c.args.cells.now
numbered c = numbers c.args.period c.args.distance c.args.cells.now c.requires.sound

pub overflow_sub-result : goal.overflow_sub-result
overflow_sub-result c =
    let t = (goal.at.overflow_sub-result c).Then-c-gt0 in
    let s = (goal.at.Then-c-gt0 t).Start in
    let i = (known s).index-fits in
    i ∴ (known s).low ∴ simp (plain, ints) (omega arith)

pub overflow_sub-result-else-c-gt0 : goal.overflow_sub-result-else-c-gt0
overflow_sub-result-else-c-gt0 c =
    let s = (goal.at.overflow_sub-result-else-c-gt0 c).Start in
    let p = s.ranges.period in
    p ∴ (numbered s).period-is ∴ simp (plain, ints) (omega arith)

pub overflow_sub-result-else-c-gt0-2 : goal.overflow_sub-result-else-c-gt0-2
overflow_sub-result-else-c-gt0-2 c =
    let s = (goal.at.overflow_sub-result-else-c-gt0-2 c).Start in
    let r = (known s).rise-fits in
    let d = s.ranges.distance in
    simp plain (known s).less-fits

pub returns-then-c-gt0 : goal.returns-then-c-gt0
returns-then-c-gt0 c u e =
    let t = (goal.at.returns-then-c-gt0 c).Then-c-gt0 in
    let s = (goal.at.Then-c-gt0 t).Start in
    let i = (known s).index-fits in
    let r = (known s).rise-fits in
    let f = simp plain at (overflow_sub-result (goal.at.returns-then-c-gt0 c).After-struct_told-then-c-gt0-1) in
    simp plain
    (cursor-moved s.args.period s.args.distance s.args.cells.now s.requires.sound s.args.c u (negsuc 0) (pos 0) _ _ e
    (simp ints (omega arith)) (simp ints (omega arith))
    (simp plain at t.if-c-gt0.true ∴ simp ints (omega arith))
    ((known s).high ∴ simp ints (omega arith)))

pub returns-else-c-gt0 : goal.returns-else-c-gt0
returns-else-c-gt0 c u e =
    let t = (goal.at.returns-else-c-gt0 c).Else-c-gt0 in
    let s = (goal.at.Else-c-gt0 t).Start in
    let i = (known s).index-fits in
    let r = (known s).rise-fits in
    let p = s.ranges.period in
    let d = s.ranges.distance in
    let f = simp plain at (overflow_sub-result-else-c-gt0 t) in
    let g = (known s).less-fits in
    let n = numbered s in
    simp plain
    (cursor-moved s.args.period s.args.distance s.args.cells.now s.requires.sound s.args.c u (negsuc 0) (negsuc 0) _ _ e
    (simp plain at t.if-c-gt0.false ∴ (known s).low ∴ simp ints (omega arith)) (simp ints (omega arith))
    (n.period-is ∴ n.low ∴ n.middle ∴ simp ints (omega arith))
    (simp ints (omega arith)))
