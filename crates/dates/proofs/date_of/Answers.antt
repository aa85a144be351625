-- `dates::date_of` meets its contract: 14 first, then the date that is found.
-- Assumes nothing.
use borrow.Author.Tests.{not-true, not-false}
use mathlib.Core.Path.{◌≡◌, sym, ◌∙◌, ap}
use mathlib.Core.Bool.{true}
use native.Mathlib.Omega.{arith}
use lib.IntN.{ℤ, pos, ◌+ℤ◌, ◌-ℤ◌}
use Rattle.integers.proofs.Linear.{ints}
use Rattle.integers.proofs.Machine.{plain}
use Rattle.calendar.specs.Reply.Reply.{answer}
use Rattle.calendar.specs.Limits.{in_range}
use Rattle.civil.specs.Rule.{Date, date_of}
use Rattle.dates.proofs.Replies.{date-refused, date-answered, before-around}
use Rattle.dates.proofs.date_of.Goals as goal
use Rattle.dates.proofs.date_of.Goals.{After-in_range, Else-not-in_range, Start}

tested : (c : After-in_range) → c.in_range.result ≡ in_range c.args.t
tested c = let t = c.ranges.t in simp plain at c.in_range.ensures

inside : (c : Else-not-in_range) → in_range c.args.t ≡ true
inside c = sym (tested (goal.at.Else-not-in_range c).After-in_range) ∙ not-false c.in_range.result c.if-not-in_range.false-raw

plus_one : (t : ℤ) → t -ℤ pos 1 +ℤ pos 1 ≡ t
plus_one = simp ints (omega arith)

pub returns-then-not-in_range : goal.returns-then-not-in_range
returns-then-not-in_range c =
    date-refused c.args.t (sym (tested (goal.at.returns-then-not-in_range c).After-in_range) ∙ not-true c.in_range.result c.if-not-in_range.true-raw)

pub overflow_sub-t : goal.overflow_sub-t
overflow_sub-t c =
    let s = (goal.at.overflow_sub-t c).Start in
    let t = s.ranges.t in
    simp plain (before-around s.args.t (inside c)).0

pub date_at-date-requires : goal.date_at-date-requires
date_at-date-requires c =
    let s = (goal.at.date_at-date-requires c).Start in
    let t = s.ranges.t in
    let (f, a) = before-around s.args.t (inside c) in
    simp plain a

pub returns : goal.returns
returns c =
    let s = (goal.at.returns c).Start in
    let t = s.ranges.t in
    let (f, a) = before-around s.args.t (inside (goal.at.returns c).Else-not-in_range) in
    ap (λ (d : Date). answer d) ((simp plain at c.date_at-date.ensures) ∙ ap date_of (plus_one s.args.t)) ∙ date-answered s.args.t (inside (goal.at.returns c).Else-not-in_range)
