-- Divisors of a number, in order.
use Rattle.std.specs.Prelude.{ℕ, ◌≤◌}
use Rattle.std.specs.Int.{◌∣◌}

-- d is the greatest divisor of g that is at most m
pub record Greatest (g m d : ℕ) : Type 0 where
  pub divides : d ∣ g
  pub within : d ≤ m
  pub greatest : (k : ℕ) → k ∣ g → k ≤ m → k ≤ d

-- none of the numbers from `start` up to d, d itself left out, divides g
pub record Passed (g start d : ℕ) : Type 0 where
  pub behind : start ≤ d
  pub within : d ≤ g
  pub none : (k : ℕ) → k ∣ g → start ≤ k → d ≤ k
