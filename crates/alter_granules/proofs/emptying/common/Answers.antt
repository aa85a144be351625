-- `alter_granules::emptying::common` meets its contract: both numbers are naturals, and a divisor of x is at most x.
-- Assumes nothing.
use mathlib.Core.Path.{◌≡◌, ◌∙◌, ap, ap₂}
use Prim.Native.Nat.{◌^◌, ◌≤◌, ◌<◌}
use native.Mathlib.Nat.{le_of_dvd}
use native.Mathlib.Omega.{arith}
use lib.IntN.{pos}
use lib.Signed.{yes_non_neg}
use mir.Facts.{Fits-nat_abs}
use Rattle.integers.specs.Parts.{up}
use Rattle.integers.specs.Gcd.{gcd}
use Rattle.integers.proofs.Linear.{ints, ◌∴◌}
use Rattle.integers.proofs.Machine.{plain}
use Rattle.integers.proofs.Order.{pos-up, up_pos, <ℤ→≤ℤ}
use Rattle.integers.proofs.Divisors.{gcd-dvd}
use Rattle.cursors.proofs.Cells.{cast-nat}
use Rattle.alter_granules.proofs.emptying.common.Goals as goal
use Rattle.alter_granules.proofs.emptying.common.Goals.{After-gcd, Start}

pub overflow_cast-rise : goal.overflow_cast-rise
overflow_cast-rise s = let f = s.ranges.rise in simp plain (yes_non_neg s.requires.pos_bound, Fits-nat_abs tt f)

pub overflow_cast-x : goal.overflow_cast-x
overflow_cast-x s = let f = s.ranges.x in simp plain (yes_non_neg (<ℤ→≤ℤ s.requires.pos_bound_2), Fits-nat_abs tt f)

divisor-is : (c : After-gcd) → c.gcd.result ≡ gcd (up c.args.rise) (up c.args.x)
divisor-is c =
    let s = (goal.at.After-gcd c).Start in
    let f = s.ranges.rise in
    let g = s.ranges.x in
    let e = simp plain at c.gcd.ensures in
    e ∙ ap₂ gcd (cast-nat s.requires.pos_bound).1 (cast-nat (<ℤ→≤ℤ s.requires.pos_bound_2)).1

pub overflow_cast-result : goal.overflow_cast-result
overflow_cast-result c =
    let s = (goal.at.overflow_cast-result c).Start in
    let l : c.gcd.result ≤ up s.args.x = rw (divisor-is c) (le_of_dvd (up_pos s.requires.pos_bound_2) (gcd-dvd (up s.args.rise) (up s.args.x)).1) in
    s.ranges.x ∴ pos-up (<ℤ→≤ℤ s.requires.pos_bound_2) ∴ l ∴ simp ints (omega arith)

pub returns : goal.returns
returns c =
    let f : c.gcd.result < 2 ^ 63 = omega (arith, simp ints at (overflow_cast-result c)) in
    simp plain (ap pos (divisor-is c))
