-- `open_steps::steps::may_step` meets its contract.
-- Assumes nothing.
use mathlib.Core.Path.{◌≡◌, ◌∙◌, sym}
use mathlib.Core.Bool.{true, false}
use borrow.Author.Tests.{not-true, not-false}
use lib.IntN.{negsuc}
use lib.Signed.{le_z}
use Rattle.integers.proofs.Machine.{plain, test-not-le, test-le}
use Rattle.calendar.specs.Limits.{in_range}
use Rattle.open_steps.proofs.steps.may_step.Goals as goal
use Rattle.open_steps.proofs.steps.may_step.Goals.{After-in_range, Else-not-in_range, Start}

tested : (c : After-in_range) → c.in_range.result ≡ in_range c.args.x
tested c = let f = c.ranges.x in simp plain at c.in_range.ensures

pub returns-then-not-in_range : goal.returns-then-not-in_range
returns-then-not-in_range c = let e = sym (tested (goal.at.returns-then-not-in_range c).After-in_range) ∙ not-true _ c.if-not-in_range.true-raw in simp e

passed : (c : Else-not-in_range) → in_range c.args.x ≡ true
passed c = sym (tested (goal.at.Else-not-in_range c).After-in_range) ∙ not-false _ c.if-not-in_range.false-raw

pub returns-then-n : goal.returns-then-n
returns-then-n c =
    let s = (goal.at.returns-then-n c).Start in
    let f = s.ranges.n in
    let e : le_z (negsuc 999999) s.args.n ≡ false = (test-not-le (negsuc 999999) s.args.n).1 (simp plain at c.if-n.true) in
    simp (passed (goal.at.returns-then-n c).Else-not-in_range, e)

pub returns : goal.returns
returns c =
    let s = (goal.at.returns c).Start in
    let f = s.ranges.n in
    let e : le_z (negsuc 999999) s.args.n ≡ true = (test-le (negsuc 999999) s.args.n).1 (simp plain at c.if-n.false) in
    simp (plain, passed (goal.at.returns c).Else-not-in_range, e)
