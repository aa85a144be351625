-- `integers::gcd` meets its contract. The loop keeps the greatest common divisor of x and y, and y falls.
-- Assumes nothing.
use mathlib.Core.Path.{sym, ◌∙◌}
use native.Mathlib.Nat.{mod-lt}
use native.Mathlib.Omega.{arith}
use Rattle.integers.proofs.Divisors.{gcd-zero, gcd-step}
use Rattle.integers.proofs.gcd.Goals as goal

pub nonzero_rem-r : goal.nonzero_rem-r
nonzero_rem-r c = omega arith

pub loop-y-smaller : goal.loop-y-smaller
loop-y-smaller c = mod-lt c.before.loop-y.x (nonzero_rem-r c)

pub loop-y-preserved : goal.loop-y-preserved
loop-y-preserved c = sym (gcd-step c.before.loop-y.x c.before.loop-y.y (nonzero_rem-r c)) ∙ c.before.loop-y.invariant

pub returns : goal.returns
returns c = cc (gcd-zero c.before.loop-y.x)
