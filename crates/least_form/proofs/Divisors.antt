-- Divisors of a number in order, from the greatest down. A divisor above the root has a cofactor below it.
-- Assumes nothing.
use mathlib.Core.Path.{◌≡◌, subst}
use Prim.Native.Nat.{ℕ, ◌+◌, ◌-◌, ◌*◌, ◌/◌, ◌%◌, ◌≤◌, ◌<◌, ◌∣◌}
use native.Mathlib.Nat.{dvd_refl, one-dvd, dvd-mul_left, pos_of_dvd_of_pos, mod-eq-zero_of_dvd, dvd_of_mod-eq-zero, le-div_iff_mul-le, div-lt_iff_lt-mul, mul-div_cancel', mul-le-mul_left, mul-le-mul_right, mul-lt-mul_of_pos_right}
use native.Mathlib.Decide.{dec_le}
use native.Mathlib.Omega.{arith}
use Rattle.least_form.specs.Divisors.{Greatest, Passed}

-- a factor divides, and is above 0 where the product is
pub factor-dvd : (a b c : ℕ) → a * b ≡ c → b ∣ c
factor-dvd a b c e = rw e at (dvd-mul_left b a)

pub factor-pos : (a b c : ℕ) → 1 ≤ c → a * b ≡ c → 1 ≤ b
factor-pos a b c above e = pos_of_dvd_of_pos (factor-dvd a b c e) above

-- a divisor is not a number that leaves a remainder
differs : (g d k : ℕ) → (g % d ≡ 0 → ⊥) → k ∣ g → k ≡ d → ⊥
differs g d k f h e = f (mod-eq-zero_of_dvd d (subst (λ (n : ℕ). n ∣ g) e h))

-- ---- on, from a number to the first divisor
pub passed_start : (g start : ℕ) → start ≤ g → Passed g start start
passed_start g start h = record { behind = omega arith; within = h; none = λ k d l. l }

pub passed-more : (g start d : ℕ) → start ≤ g → Passed g start d → (g % d ≡ 0 → ⊥) → Passed g start (d + 1)
passed-more g start d above h f = record { behind = omega (arith, h.behind); within = more g (dvd_refl g) above; none = more }
  where
    more : (k : ℕ) → k ∣ g → start ≤ k → d + 1 ≤ k
    more k e l = let p = h.none k e l in let q = differs g d k f e in omega arith

-- ---- back, from a number to the greatest divisor up to it

-- no divisor up to m is above d
pub record Above (g m d : ℕ) : Type 0 where
  pub within : d ≤ m
  pub none : (k : ℕ) → k ∣ g → k ≤ m → k ≤ d

pub above-start : (g m : ℕ) → Above g m m
above-start g m = record { within = omega arith; none = λ k d l. l }

-- 1 divides
pub above-pos : (g m d : ℕ) → 1 ≤ m → Above g m d → 1 ≤ d
above-pos g m d above h = h.none 1 (one-dvd g) above

pub above-less : (g m d : ℕ) → Above g m d → (g % d ≡ 0 → ⊥) → Above g m (d - 1)
above-less g m d h f = record { within = omega (arith, h.within); none = less }
  where
    less : (k : ℕ) → k ∣ g → k ≤ m → k ≤ d - 1
    less k e l = let p = h.none k e l in let q = differs g d k f e in omega arith

pub above-greatest : (g m d : ℕ) → Above g m d → g % d ≡ 0 → Greatest g m d
above-greatest g m d h e = record { divides = dvd_of_mod-eq-zero d e; within = h.within; greatest = h.none }

-- ---- the divisor below a divisor m
module _ (g m : ℕ) (above : 1 ≤ g) (more : 1 < m) (divides : m ∣ g) where
  -- m times its cofactor
  whole : m * (g / m) ≡ g
  whole = mul-div_cancel' m divides

  cofactor-pos : 1 ≤ g / m
  cofactor-pos = factor-pos m (g / m) g above whole

  pub start-within : g / m + 1 ≤ g
  start-within = omega (arith, mul-le-mul_right (g / m) more, cofactor-pos, whole)

  -- a smaller divisor has a greater cofactor
  cofactor-more : (k : ℕ) → k ∣ g → k < m → g / m + 1 ≤ g / k
  cofactor-more k h l = by (dec_le (g / m + 1) (g / k))
    where
      by : Dec (g / m + 1 ≤ g / k) → g / m + 1 ≤ g / k
      by (yes e) = e
      by (no f) =
          let less : g / k ≤ g / m = omega arith in
          absurd (omega (arith, mul-div_cancel' k h, mul-le-mul_left k less, mul-lt-mul_of_pos_right l cofactor-pos, whole))

  pub next-greatest : (d r : ℕ) → Passed g (g / m + 1) d → Greatest g (g / d) r → Greatest g (m - 1) r
  next-greatest d r p h = record { divides = h.divides; within = omega (arith, h.within, below); greatest = λ k e l. h.greatest k e (last k e (omega arith)) }
    where
      positive : 0 < d
      positive = omega (arith, p.behind)

      below : g / d < m
      below = (div-lt_iff_lt-mul positive).1 (omega (arith, mul-le-mul_left m p.behind, whole))

      last : (k : ℕ) → k ∣ g → k < m → k ≤ g / d
      last k e l =
          let whole-k : k * (g / k) ≡ g = mul-div_cancel' k e in
          let cofactor : d ≤ g / k = p.none (g / k) (factor-dvd k (g / k) g whole-k) (cofactor-more k e l) in
          (le-div_iff_mul-le positive).1 (omega (arith, mul-le-mul_left k cofactor))
