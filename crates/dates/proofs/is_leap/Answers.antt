-- `dates::is_leap` meets its contract: the tests in order are those of the rule.
-- Assumes nothing.
use Rattle.integers.proofs.Machine.{plain}
use Rattle.civil.specs.Rule.{leap}
use Rattle.dates.proofs.is_leap.Goals as goal
use Rattle.dates.proofs.is_leap.Goals.{Then-multiple_of}

pub returns-then-not-multiple_of : goal.returns-then-not-multiple_of
unfolding leap
returns-then-not-multiple_of c =
    let s = (goal.at.returns-then-not-multiple_of c).Then-multiple_of in
    let y = s.ranges.year in
    let four = simp plain at s.multiple_of.ensures in
    let hundred = simp plain at c.multiple_of-then-multiple_of.ensures in
    rw (← four, ← hundred, s.if-multiple_of.true, c.if-not-multiple_of.true-raw)

pub returns-else-not-multiple_of : goal.returns-else-not-multiple_of
unfolding leap
returns-else-not-multiple_of c =
    let s = (goal.at.returns-else-not-multiple_of c).Then-multiple_of in
    let y = s.ranges.year in
    let four = simp plain at s.multiple_of.ensures in
    let hundred = simp plain at c.multiple_of-then-multiple_of.ensures in
    let last = simp plain at c.multiple_of-else-not-multiple_of.ensures in
    rw (← four, ← hundred, ← last, s.if-multiple_of.true, c.if-not-multiple_of.false-raw)

pub returns-else-multiple_of : goal.returns-else-multiple_of
unfolding leap
returns-else-multiple_of c =
    let y = c.ranges.year in
    let four = simp plain at c.multiple_of.ensures in
    rw (← four, c.if-multiple_of.false)
