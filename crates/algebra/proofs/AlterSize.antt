-- The working period Pa·r·D/Na of alter and its distance r·n, with r = Na/gcd(D, Na).
--     With m = D/gcd(D, Na), r·D is Na·m. So the working period is Pa·m, which is m turns of a, over which a's labels rise by Na·m = D·r.
--     If n ≤ D and Na ≤ Pa, then r·n ≤ r·D = Na·m ≤ Pa·m.
use mathlib.Core.Path.{◌≡◌, refl, ◌∙◌, ap}
use Prim.Native.Nat.{ℕ, ◌*◌, ◌/◌, ◌≤◌}
use native.Mathlib.Nat.{mul-div_cancel', mul-div_cancel_left, mul-le-mul_left, mul-le-mul_right, le-div_iff_mul-le, le_of_dvd}
use native.Mathlib.Omega.{arith}
use lib.IntN.{ℤ}
use Rattle.integers.specs.Parts.{up}
use Rattle.integers.specs.Gcd.{gcd}
use Rattle.integers.proofs.Divisors.{gcd-dvd, gcd-pos}
use Rattle.calendar.specs.Meaning.{Row}
use Rattle.calendar.specs.Operation.Binary.{alter}
use Rattle.calendar.specs.Operation.Operation.{binary}
use Rattle.calendar.specs.Size.{turn, coarse, fine}
use Rattle.calendar.specs.Distance.{size}

-- n and D
abbrev pub coarse_of : ℕ → Row → Row → ℕ
coarse_of x a b = coarse (turn a) (turn b) x

abbrev pub fine_of : ℕ → ℤ → Row → Row → ℤ
fine_of x z a b = fine (turn a) (turn b) x z

-- r and m: over so many times D fine labels, and so many turns of a, a's labels rise alike
abbrev pub turns_fine : ℕ → ℕ → ℕ
turns_fine d N = N / gcd d N

abbrev pub turns_row : ℕ → ℕ → ℕ
turns_row d N = d / gcd d N

module _ (d N : ℕ) (d-positive : 1 ≤ d) (N-positive : 1 ≤ N) where
  pub turns-proportional : d * turns_fine d N ≡ N * turns_row d N
  turns-proportional =
      let g = gcd d N in
      omega (arith, ap (λ (k : ℕ). k * (N / g)) (mul-div_cancel' g (gcd-dvd d N).0), ap (λ (k : ℕ). k * (d / g)) (mul-div_cancel' g (gcd-dvd d N).1))

  pub turns_fine-positive : 1 ≤ turns_fine d N
  turns_fine-positive = (le-div_iff_mul-le (gcd-pos d N d-positive)).1 (omega (arith, le_of_dvd N-positive (gcd-dvd d N).1))

  pub turns_row-positive : 1 ≤ turns_row d N
  turns_row-positive = (le-div_iff_mul-le (gcd-pos d N d-positive)).1 (omega (arith, le_of_dvd d-positive (gcd-dvd d N).0))

  pub period-turns : (P : ℕ) → P * turns_fine d N * d / N ≡ P * turns_row d N
  period-turns P =
      let e : P * turns_fine d N * d ≡ N * (P * turns_row d N) = omega (arith, ap (λ (k : ℕ). P * k) turns-proportional) in
      ap (λ (k : ℕ). k / N) e ∙ mul-div_cancel_left (P * turns_row d N) N-positive

  pub distance-at-most : (n P : ℕ) → n ≤ d → N ≤ P → turns_fine d N * n ≤ P * turns_row d N
  distance-at-most n P h k = omega (arith, turns-proportional, mul-le-mul_left (turns_fine d N) h, mul-le-mul_right (turns_row d N) k)

module _ (x y : ℕ) (z : ℤ) (a b : Row) where
  period-is : (size (binary (alter x y z) a b)).period ≡ a.period * turns_fine (up (fine_of x z a b)) a.distance * up (fine_of x z a b) / a.distance
  unfolding size
  period-is = refl

  -- the working period is so many turns of a
  pub period-of : 1 ≤ up (fine_of x z a b) → 1 ≤ a.distance
      → (size (binary (alter x y z) a b)).period ≡ a.period * turns_row (up (fine_of x z a b)) a.distance
  period-of h k = period-is ∙ period-turns (up (fine_of x z a b)) a.distance h k a.period

  pub distance_is : (size (binary (alter x y z) a b)).distance ≡ turns_fine (up (fine_of x z a b)) a.distance * coarse_of x a b
  unfolding size
  distance_is = refl
