-- `dates::instant_at` meets its contract: of a year that is near no sum wraps.
-- Assumes nothing.
use borrow.Author.Rules.{sfits_of}
use mathlib.Core.Path.{◌≡◌, ◌∙◌, ap}
use mathlib.Core.Bool.{Bool}
use Prim.Native.Nat.{◌+◌, ◌^◌, ◌<◌, ◌≤◌}
use native.Mathlib.Omega.{arith}
use lib.IntN.{pos, ◌+ℤ◌, ◌-ℤ◌}
use mir.Facts.{to_z-of_z}
use mir.Syntax.{w64}
use mir.Val.{SFits, of_z, to_z}
use Rattle.integers.proofs.Linear.{ints, ◌∴◌}
use Rattle.integers.proofs.Machine.{plain}
use Rattle.civil.specs.Rule.{leap}
use Rattle.civil.specs.Instants.{days_to_year, days_to_month, instant_of}
use Rattle.dates.specs.Places.{Near}
use Rattle.dates.proofs.Years.{days-bounds}
use Rattle.dates.proofs.Months.{days-right}
use Rattle.dates.proofs.instant_at.Goals as goal
use Rattle.dates.proofs.instant_at.Goals.{After-days_to_month, After-days_to_year, Start}

near : (s : Start) → SFits w64 (s.args.year -ℤ pos 2001) × Near (s.args.year -ℤ pos 2001)
near s = s.requires.year ∴ simp ints (omega arith)

before-is : (c : After-days_to_month)
    → c.days_to_month.result ≡ days_to_month (leap c.args.year) c.args.month
before-is c =
    let y = c.ranges.year in
    c.days_to_month.ensures ∙ ap (λ (l : Bool). days_to_month l c.args.month) (simp plain at c.is_leap-leap.ensures)

small : (c : After-days_to_month) → c.days_to_month.result + c.args.day ≤ 397
small c =
    let s = (goal.at.After-days_to_month c).Start in
    let e = before-is c in
    let (h, k) = s.requires.month in
    omega (arith, (days-right (leap s.args.year) s.args.month h (omega arith)).small, s.requires.day)

year-is : (c : After-days_to_year)
    → to_z w64 (of_z w64 c.days_to_year.result) ≡ days_to_year (c.args.year -ℤ pos 2001)
year-is c =
    let s = (goal.at.After-days_to_year c).Start in
    let y = s.ranges.year in
    let (f, n) = near s in
    to_z-of_z {w = w64} (sfits_of c.days_to_year.type_inv) ∙ simp plain at c.days_to_year.ensures

sum_fits : (c : After-days_to_year)
    → SFits w64 (days_to_year (c.args.year -ℤ pos 2001) +ℤ pos (c.days_to_month.result + c.args.day))
sum_fits c =
    let s = (goal.at.After-days_to_year c).Start in
    let (f, n) = near s in
    days-bounds (s.args.year -ℤ pos 2001) ∴ n ∴ small (goal.at.After-days_to_year c).After-days_to_month ∴ simp ints (omega arith)

pub overflow_add-before : goal.overflow_add-before
overflow_add-before c = omega (arith, small c)

pub overflow_sub-year : goal.overflow_sub-year
overflow_sub-year c = let y = c.ranges.year in simp plain (near (goal.at.overflow_sub-year c).Start).0

pub days_to_year-requires : goal.days_to_year-requires
days_to_year-requires c =
    let y = c.ranges.year in
    let (f, n) = near (goal.at.days_to_year-requires c).Start in
    simp plain n

pub overflow_add-result : goal.overflow_add-result
overflow_add-result c =
    let k : c.days_to_month.result + c.args.day < 2 ^ 63 = omega (arith, small (goal.at.overflow_add-result c).After-days_to_month) in
    simp (year-is c, plain) (sum_fits c)

pub returns : goal.returns
unfolding instant_of
returns c =
    let k : c.days_to_month.result + c.args.day < 2 ^ 63 = omega (arith, small (goal.at.returns c).After-days_to_month) in
    let f = sum_fits c in
    let e = before-is (goal.at.returns c).After-days_to_month in
    simp (year-is c, plain) (e ∴ simp ints (omega arith))
