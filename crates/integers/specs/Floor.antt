-- Division by a natural P above zero, rounded down, with the remainder, a natural below P; and division rounded up.
--     floor_div t P, floor_mod t P        t is P * floor_div t P + floor_mod t P
--     ceil_div t P                       the least k with t ≤ P * k
use Rattle.std.specs.Prelude.{ℕ, suc, ◌-◌, ◌/◌, ◌%◌, ℤ, pos, negsuc, neg_ℤ}

unfoldable pub floor_div : ℤ → ℕ → ℤ
floor_div (pos a) P = pos (a / P)
floor_div (negsuc a) P = negsuc (a / P)

unfoldable pub floor_mod : ℤ → ℕ → ℕ
floor_mod (pos a) P = a % P
floor_mod (negsuc a) P = P - suc (a % P)

unfoldable pub ceil_div : ℤ → ℕ → ℤ
ceil_div t P = neg_ℤ (floor_div (neg_ℤ t) P)
