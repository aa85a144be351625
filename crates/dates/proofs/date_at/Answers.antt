-- `dates::date_at` meets its contract: the year, the month and the day that are found are those of the instant.
-- Assumes nothing.
use borrow.Author.Rules.{sfits_of}
use mathlib.Core.Path.{◌≡◌}
use Prim.Native.Nat.{◌<◌}
use native.Mathlib.Omega.{arith}
use lib.IntN.{pos, ◌+ℤ◌}
use mir.Syntax.{w64}
use mir.Val.{SFits}
use Rattle.integers.proofs.Machine.{plain}
use Rattle.civil.specs.Rule.{leap}
use Rattle.civil.specs.Instants.{days_to_year, days_to_month}
use Rattle.dates.specs.Places.{InYear, InMonth}
use Rattle.dates.proofs.Years.{year-fits-64, day-below}
use Rattle.dates.proofs.Months.{days-right}
use Rattle.dates.proofs.Found.{date-found}
use Rattle.dates.proofs.date_at.Goals as goal
use Rattle.dates.proofs.date_at.Goals.{After-day_of_year-n, After-is_leap-leap, After-year_at-q}

inside : (c : After-year_at-q) → InYear c.args.x c.year_at-q.result
inside c = let x = c.ranges.x in simp plain at c.year_at-q.ensures

leaps : (c : After-is_leap-leap) → c.is_leap-leap.result ≡ leap (c.year_at-q.result +ℤ pos 2001)
leaps c =
    let s = (goal.at.After-is_leap-leap c).After-year_at-q in
    let q : SFits w64 s.year_at-q.result = sfits_of s.year_at-q.type_inv in
    let y = year-fits-64 s.args.x s.year_at-q.result (inside s) in
    simp plain at c.is_leap-leap.ensures

day : (c : After-day_of_year-n)
    → days_to_year c.year_at-q.result +ℤ pos c.day_of_year-n.result ≡ c.args.x
day c =
    let s = (goal.at.After-day_of_year-n c).After-year_at-q in
    let x = s.ranges.x in
    let q : SFits w64 s.year_at-q.result = sfits_of s.year_at-q.type_inv in
    simp plain at c.day_of_year-n.ensures

below : (c : After-day_of_year-n) → c.day_of_year-n.result < days_to_month c.is_leap-leap.result 13
below c =
    let s = (goal.at.After-day_of_year-n c).After-year_at-q in
    rw (leaps (goal.at.After-day_of_year-n c).After-is_leap-leap) (day-below s.args.x s.year_at-q.result (inside s) c.day_of_year-n.result (day c))

pub year_at-q-requires : goal.year_at-q-requires
year_at-q-requires c = let x = c.ranges.x in simp plain c.requires

pub overflow_add-year : goal.overflow_add-year
overflow_add-year c =
    let q : SFits w64 c.year_at-q.result = sfits_of c.year_at-q.type_inv in
    simp plain (year-fits-64 c.args.x c.year_at-q.result (inside c))

pub day_of_year-n-requires : goal.day_of_year-n-requires
day_of_year-n-requires c =
    let s = (goal.at.day_of_year-n-requires c).After-year_at-q in
    let x = s.ranges.x in
    let q : SFits w64 s.year_at-q.result = sfits_of s.year_at-q.type_inv in
    simp plain (inside s)

pub month_at-month-requires : goal.month_at-month-requires
month_at-month-requires c = below c

pub overflow_add-day : goal.overflow_add-day
overflow_add-day c =
    omega (arith, below (goal.at.overflow_add-day c).After-day_of_year-n, (days-right c.is_leap-leap.result 13 (omega arith) (omega arith)).small)

pub returns : goal.returns
returns c =
    let p = (goal.at.returns c).After-day_of_year-n in
    let s = (goal.at.After-day_of_year-n p).After-year_at-q in
    let q : SFits w64 s.year_at-q.result = sfits_of s.year_at-q.type_inv in
    let y = year-fits-64 s.args.x s.year_at-q.result (inside s) in
    let m : InMonth (leap (s.year_at-q.result +ℤ pos 2001)) p.day_of_year-n.result c.month_at-month.result = rw (leaps (goal.at.After-day_of_year-n p).After-is_leap-leap) at c.month_at-month.ensures in
    simp plain (rw (c.days_to_month.ensures, leaps (goal.at.After-day_of_year-n p).After-is_leap-leap) (date-found s.args.x s.year_at-q.result p.day_of_year-n.result c.month_at-month.result (day p) m))
