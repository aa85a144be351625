-- `open_map::ordered` meets its contract.
-- Assumes nothing.
use mathlib.Core.Path.{◌≡◌, ◌∙◌, sym}
use mathlib.Core.Bool.{true}
use borrow.Author.Tests.{not-true, not-false}
use Rattle.integers.proofs.Machine.{plain}
use Rattle.calendar.specs.Limits.{in_range}
use Rattle.open_map.proofs.ordered.Goals as goal
use Rattle.open_map.proofs.ordered.Goals.{After-in_range, After-in_range-2, Else-not-in_range, Start}

s-tested : (c : After-in_range) → c.in_range.result ≡ in_range c.args.s
s-tested c = let f = c.ranges.s in simp plain at c.in_range.ensures

pub returns-then-not-in_range : goal.returns-then-not-in_range
returns-then-not-in_range c = let e = sym (s-tested (goal.at.returns-then-not-in_range c).After-in_range) ∙ not-true _ c.if-not-in_range.true-raw in simp e

s-passed : (c : Else-not-in_range) → in_range c.args.s ≡ true
s-passed c = sym (s-tested (goal.at.Else-not-in_range c).After-in_range) ∙ not-false _ c.if-not-in_range.false-raw

t-tested : (c : After-in_range-2) → c.in_range-2.result ≡ in_range c.args.t
t-tested c = let f = c.ranges.t in simp plain at c.in_range-2.ensures

pub returns-then-not-in_range-2 : goal.returns-then-not-in_range-2
returns-then-not-in_range-2 c = let e = sym (t-tested (goal.at.returns-then-not-in_range-2 c).After-in_range-2) ∙ not-true _ c.if-not-in_range-2.true-raw in simp (s-passed (goal.at.returns-then-not-in_range-2 c).Else-not-in_range, e)

pub returns : goal.returns
returns c =
    let s = (goal.at.returns c).Start in
    let f = s.ranges.s in
    let g = s.ranges.t in
    let e = sym (t-tested (goal.at.returns c).After-in_range-2) ∙ not-false _ c.if-not-in_range-2.false-raw in
    simp (plain, s-passed (goal.at.returns c).Else-not-in_range, e)
