-- `dates::month_at` meets its contract: its division is right at each day of a year.
-- Assumes nothing.
use native.Mathlib.Omega.{arith}
use Prim.Native.Nat.{◌+◌, ◌≤◌}
use Rattle.dates.proofs.Months.{days-right, few-small, month-right}
use Rattle.dates.proofs.month_at.Goals as goal
use Rattle.dates.proofs.month_at.Goals.{After-too_few, Start}

-- a year and two days at most
small : (c : After-too_few) → c.args.n + c.too_few.result ≤ 367
small c =
    let s = (goal.at.After-too_few c).Start in
    let h = s.requires in
    let e = c.too_few.ensures in
    omega (arith, (days-right s.args.leap 13 (omega arith) (omega arith)).small, few-small s.args.leap s.args.n)

pub overflow_add-result : goal.overflow_add-result
overflow_add-result c = omega (arith, small c)

pub overflow_mul-result : goal.overflow_mul-result
overflow_mul-result c = omega (arith, small c)

pub overflow_add-result-2 : goal.overflow_add-result-2
overflow_add-result-2 c = omega (arith, small c)

pub returns : goal.returns
returns c = let s = (goal.at.returns c).Start in rw c.too_few.ensures (month-right s.args.leap s.args.n s.requires)
