-- `open_steps::steps::both_in_range` meets its contract.
-- Assumes nothing.
use mathlib.Core.Path.{◌≡◌, ◌∙◌, sym}
use mathlib.Core.Bool.{true}
use borrow.Author.Tests.{not-true, not-false}
use Rattle.integers.proofs.Machine.{plain}
use Rattle.calendar.specs.Limits.{in_range}
use Rattle.open_steps.proofs.steps.both_in_range.Goals as goal
use Rattle.open_steps.proofs.steps.both_in_range.Goals.{After-in_range, Start}

tested : (c : After-in_range) → c.in_range.result ≡ in_range c.args.x
tested c = let f = c.ranges.x in simp plain at c.in_range.ensures

pub returns-then-not-in_range : goal.returns-then-not-in_range
returns-then-not-in_range c = let e = sym (tested (goal.at.returns-then-not-in_range c).After-in_range) ∙ not-true _ c.if-not-in_range.true-raw in simp e

pub returns : goal.returns
returns c =
    let s = (goal.at.returns c).Start in
    let f = s.ranges.y in
    let e : in_range s.args.x ≡ true = sym (tested (goal.at.returns c).After-in_range) ∙ not-false _ c.if-not-in_range.false-raw in
    let y : c.in_range-2.result ≡ in_range s.args.y = simp plain at c.in_range-2.ensures in
    simp e y
