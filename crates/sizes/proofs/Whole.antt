-- Group's working period, its division made before the product.
use mathlib.Core.Path.{◌≡◌}
use Prim.Native.Nat.{ℕ, ◌*◌, ◌/◌}
use native.Mathlib.Nat.{mul-div_assoc}
use Rattle.integers.specs.Gcd.{gcd}
use Rattle.integers.proofs.Divisors.{gcd-dvd}
use Rattle.calendar.specs.Operation.Unary.{group}
use Rattle.calendar.specs.Size.{Turn, period_unary}

pub group-period-is : (a : Turn) (x : ℕ) → period_unary (group x) a ≡ a.period * (x / gcd x a.distance)
group-period-is a x = mul-div_assoc (gcd x a.distance) a.period (gcd-dvd x a.distance).0
