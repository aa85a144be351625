-- `cursors::step` meets its contract.
-- Assumes nothing.
use mathlib.Core.Path.{sym, ap}
use mathlib.Core.Bool.{Bool}
use native.Mathlib.Omega.{arith}
use lib.IntN.{pos, ◌+ℤ◌, ◌-ℤ◌}
use mir.Syntax.{w64}
use mir.Val.{SFits}
use Rattle.integers.proofs.Linear.{ints, ◌∴◌}
use Rattle.integers.proofs.Machine.{plain}
use Rattle.cursors.specs.Direction.{stepped}
use Rattle.cursors.proofs.step.Goals as goal
use Rattle.cursors.proofs.step.Goals.{Start}

less-fits : (s : Start) → SFits w64 (s.args.t -ℤ pos 1)
less-fits s = s.requires.0 ∴ s.requires.1 ∴ simp ints (omega arith)

more-fits : (s : Start) → SFits w64 (s.args.t +ℤ pos 1)
more-fits s = s.requires.0 ∴ s.requires.1 ∴ simp ints (omega arith)

pub overflow_sub-result : goal.overflow_sub-result
overflow_sub-result c =
    let s = c.before in
    let t = s.ranges.t in
    simp plain (less-fits s)

pub overflow_add-result : goal.overflow_add-result
overflow_add-result c =
    let s = c.before in
    let t = s.ranges.t in
    simp plain (more-fits s)

pub returns-then-back : goal.returns-then-back
returns-then-back c =
    let s = c.before in
    let t = s.ranges.t in
    let f = less-fits s in
    simp plain (ap (λ (b : Bool). stepped b s.args.t) (sym c.if-back.true))

pub returns-else-back : goal.returns-else-back
returns-else-back c =
    let s = c.before in
    let t = s.ranges.t in
    let f = more-fits s in
    simp plain (ap (λ (b : Bool). stepped b s.args.t) (sym c.if-back.false))
