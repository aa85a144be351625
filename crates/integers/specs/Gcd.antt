-- The greatest common divisor and the least common multiple of two naturals.
use Rattle.std.specs.Prelude.{ℕ, zero, suc, ◌*◌, ◌/◌, ◌%◌}

-- Euclid's way, in at most `fuel` steps. The second number falls at each, so as many steps as it counts are enough
unfoldable pub euclid : ℕ → ℕ → ℕ → ℕ
euclid zero a b = a
euclid (suc fuel) a zero = a
euclid (suc fuel) a (suc b) = euclid fuel (suc b) (a % suc b)

unfoldable pub gcd : ℕ → ℕ → ℕ
gcd a b = euclid b a b

unfoldable pub lcm : ℕ → ℕ → ℕ
lcm a b = a / gcd a b * b
