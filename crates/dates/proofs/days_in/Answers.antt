-- `dates::days_in` meets its contract: the days to the next month, less those to the month.
-- Assumes nothing.
use mathlib.Core.Path.{◌≡◌}
use Prim.Native.Nat.{◌+◌}
use native.Mathlib.Numerals.{add-one}
use native.Mathlib.Omega.{arith}
use Rattle.integers.proofs.Machine.{plain}
use Rattle.civil.specs.Rule.{leap, days_in}
use Rattle.dates.proofs.Months.{month-length}
use Rattle.dates.proofs.days_in.Goals as goal
use Rattle.dates.proofs.days_in.Goals.{After-days_to_month, After-days_to_month-2, After-is_leap-leap, Start}

leaps : (c : After-is_leap-leap) → c.is_leap-leap.result ≡ leap c.args.year
leaps c = let y = c.ranges.year in simp plain at c.is_leap-leap.ensures

length-is : (c : After-days_to_month-2)
    → c.days_to_month-2.result + days_in c.args.year c.args.month ≡ c.days_to_month.result
length-is c =
    let p = (goal.at.After-days_to_month-2 c).After-days_to_month in
    let s = (goal.at.After-days_to_month p).Start in
    rw (p.days_to_month.ensures, c.days_to_month-2.ensures, leaps (goal.at.After-days_to_month p).After-is_leap-leap, add-one) (month-length s.args.year s.args.month s.requires.0 s.requires.1).0

pub overflow_sub-result : goal.overflow_sub-result
overflow_sub-result c = omega (arith, length-is c)

pub returns : goal.returns
returns c = omega (arith, length-is c)
