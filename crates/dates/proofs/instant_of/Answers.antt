-- `dates::instant_of` meets its contract: 20 first, then 14, of which a year that is not near is one case.
-- Assumes nothing.
use borrow.Author.Rules.{sfits_of}
use borrow.Author.Tests.{not-true, not-false}
use mathlib.Core.Path.{◌≡◌, sym, ◌∙◌, ap, ap₂}
use mathlib.Core.Bool.{true}
use native.Mathlib.Omega.{arith}
use lib.IntN.{ℤ, pos, neg_ℤ}
use lib.Signed.{◌≤ℤ◌}
use mir.Facts.{to_z-of_z}
use mir.Syntax.{w64}
use mir.Val.{of_z, to_z}
use Rattle.integers.specs.Parts.{up}
use Rattle.integers.proofs.Linear.{ints, ◌∴◌}
use Rattle.integers.proofs.Machine.{plain}
use Rattle.calendar.specs.Limits.{between, in_range}
use Rattle.calendar.specs.Reply.Reply.{answer}
use Rattle.civil.specs.Instants.{exists, instant_of}
use Rattle.dates.specs.Places.{NearDate}
use Rattle.dates.proofs.Naturals.{natural, cast-small}
use Rattle.dates.proofs.Replies.{no-date, instant-outside, instant-answered, month-numbers, day-numbers, near-date, year-far}
use Rattle.dates.proofs.instant_of.Goals as goal
use Rattle.dates.proofs.instant_of.Goals.{After-in_range, After-instant_at-t, After-is_between, Else-not-date_exists, Else-not-is_between, Start}

-- ---- the tests
known : (c : Else-not-date_exists)
    → exists c.args.year c.args.month c.args.day ≡ true
known c =
    let s = c.ranges in
    let y = s.year in
    let m = s.month in
    let d = s.day in
    sym (simp plain at c.date_exists.ensures) ∙ not-false c.date_exists.result c.if-not-date_exists.false-raw

year-test : (c : After-is_between)
    → c.is_between.result ≡ between (neg_ℤ (pos 3000000)) (pos 3000000) c.args.year
year-test c = let y = c.ranges.year in simp plain at c.is_between.ensures

module _ (c : Else-not-is_between) where
  abbrev start : Start
  start = (goal.at.Else-not-is_between c).Start

  near : NearDate start.args.year (up start.args.month) (up start.args.day)
  near =
      near-date start.args.year start.args.month start.args.day (known (goal.at.Else-not-is_between c).Else-not-date_exists)
      (sym (year-test (goal.at.Else-not-is_between c).After-is_between) ∙ not-false c.is_between.result c.if-not-is_between.false-raw)

  month-range : (pos 1 ≤ℤ start.args.month) × (start.args.month ≤ℤ pos 12)
  month-range = month-numbers start.args.year start.args.month start.args.day (known (goal.at.Else-not-is_between c).Else-not-date_exists)

  day-range : (pos 1 ≤ℤ start.args.day) × (start.args.day ≤ℤ pos 31)
  day-range = day-numbers start.args.year start.args.month start.args.day (known (goal.at.Else-not-is_between c).Else-not-date_exists)

  month-above : pos 0 ≤ℤ start.args.month
  month-above = month-range ∴ simp ints (omega arith)

  day-above : pos 0 ≤ℤ start.args.day
  day-above = day-range ∴ simp ints (omega arith)

pub returns-then-not-date_exists : goal.returns-then-not-date_exists
returns-then-not-date_exists c =
    let s = (goal.at.returns-then-not-date_exists c).Start in
    let y = s.ranges.year in
    let m = s.ranges.month in
    let d = s.ranges.day in
    no-date s.args.year s.args.month s.args.day
    (sym (simp plain at c.date_exists.ensures) ∙ not-true c.date_exists.result c.if-not-date_exists.true-raw)

pub returns-then-not-is_between : goal.returns-then-not-is_between
returns-then-not-is_between c =
    let p = (goal.at.returns-then-not-is_between c).After-is_between in
    let s = (goal.at.After-is_between p).Start in
    let k = known (goal.at.After-is_between p).Else-not-date_exists in
    instant-outside s.args.year s.args.month s.args.day k
    (year-far s.args.year s.args.month s.args.day k (sym (year-test p) ∙ not-true p.is_between.result c.if-not-is_between.true-raw))

pub overflow_cast-month : goal.overflow_cast-month
overflow_cast-month c =
    let m = (start c).ranges.month in simp plain (cast-small (month-above c) (month-range c ∴ simp ints (omega arith)))

pub overflow_cast-day : goal.overflow_cast-day
overflow_cast-day c =
    let d = (start c).ranges.day in simp plain (cast-small (day-above c) (day-range c ∴ simp ints (omega arith)))

pub instant_at-t-requires : goal.instant_at-t-requires
instant_at-t-requires c =
    let y = (start c).ranges.year in
    let m = (start c).ranges.month in
    let d = (start c).ranges.day in
    simp plain (rw ((natural (month-above c)).0, (natural (day-above c)).0) (near c))

-- the instant, read back from its bits
instant-is : (c : After-instant_at-t) → to_z w64 (of_z w64 c.instant_at-t.result)
    ≡ instant_of (start (goal.at.After-instant_at-t c).Else-not-is_between).args.year (up (start (goal.at.After-instant_at-t c).Else-not-is_between).args.month) (up (start (goal.at.After-instant_at-t c).Else-not-is_between).args.day)
instant-is c =
    let s = start (goal.at.After-instant_at-t c).Else-not-is_between in
    let y = s.ranges.year in
    let m = s.ranges.month in
    let d = s.ranges.day in
    to_z-of_z {w = w64} (sfits_of c.instant_at-t.type_inv)
    ∙ (simp plain at c.instant_at-t.ensures)
    ∙ ap₂ (instant_of s.args.year) (natural (month-above (goal.at.After-instant_at-t c).Else-not-is_between)).0 (natural (day-above (goal.at.After-instant_at-t c).Else-not-is_between)).0

range-test : (c : After-in_range) → c.in_range.result
    ≡ in_range (instant_of (start (goal.at.After-in_range c).Else-not-is_between).args.year (up (start (goal.at.After-in_range c).Else-not-is_between).args.month) (up (start (goal.at.After-in_range c).Else-not-is_between).args.day))
range-test c = simp (instant-is (goal.at.After-in_range c).After-instant_at-t) at c.in_range.ensures

pub returns-then-not-in_range : goal.returns-then-not-in_range
returns-then-not-in_range c =
    let p = (goal.at.returns-then-not-in_range c).Else-not-is_between in
    let s = start p in
    instant-outside s.args.year s.args.month s.args.day (known (goal.at.Else-not-is_between p).Else-not-date_exists)
    (sym (range-test (goal.at.returns-then-not-in_range c).After-in_range) ∙ not-true c.in_range.result c.if-not-in_range.true-raw)

pub returns : goal.returns
returns c =
    let p = (goal.at.returns c).Else-not-is_between in
    let s = start p in
    ap (λ (t : ℤ). answer t) (instant-is (goal.at.returns c).After-instant_at-t)
    ∙ instant-answered s.args.year s.args.month s.args.day (known (goal.at.Else-not-is_between p).Else-not-date_exists)
    (sym (range-test (goal.at.returns c).After-in_range) ∙ not-false c.in_range.result c.if-not-in_range.false-raw)
