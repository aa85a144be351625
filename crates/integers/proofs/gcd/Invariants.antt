-- `integers::gcd` meets its contract. The loop keeps the greatest common divisor of x and y, and y falls.
-- Assumes nothing.
use mathlib.Core.Path.{◌≡◌}
use Rattle.integers.specs.Gcd.{gcd}
use Rattle.integers.proofs.gcd.Given as goal

abbrev pub invariant-loop-y : goal.invariant-loop-y
invariant-loop-y l = gcd l.x l.y ≡ gcd l.a l.b

abbrev pub decreases-loop-y : goal.decreases-loop-y
decreases-loop-y l = l.y
