-- `least_form::next_divisor` meets its contract: a smaller divisor has a greater cofactor, and the first of these is looked for.
-- Assumes nothing.
use Prim.Native.Nat.{◌+◌, ◌/◌, ◌≤◌, ◌<◌}
use native.Mathlib.Nat.{le-div_iff_mul-le}
use native.Mathlib.Omega.{arith}
use Rattle.least_form.proofs.Divisors.{start-within, next-greatest}
use Rattle.least_form.proofs.next_divisor.Goals as goal
use Rattle.least_form.proofs.next_divisor.Goals.{Start}

-- where the search for the cofactor starts
start : (c : Start) → c.args.g / c.args.m + 1 ≤ c.args.g
start c = start-within c.args.g c.args.m c.requires.0 c.requires.1 c.requires.2

pub overflow_add-g : goal.overflow_add-g
overflow_add-g c = omega (arith, start c)

pub divisor_on-cofactor-requires : goal.divisor_on-cofactor-requires
divisor_on-cofactor-requires c = (omega arith, start c)

pub divisor_back-requires : goal.divisor_back-requires
divisor_back-requires c =
    let p = c.divisor_on-cofactor.ensures in
    let above : 0 < c.divisor_on-cofactor.result = omega (arith, p.behind) in
    (le-div_iff_mul-le above).1 (omega (arith, p.within))

pub returns : goal.returns
returns c =
    let s = (goal.at.returns c).Start in
    next-greatest s.args.g s.args.m s.requires.0 s.requires.1 s.requires.2 c.divisor_on-cofactor.result c.divisor_back.result c.divisor_on-cofactor.ensures c.divisor_back.ensures
