-- The remainder by a power of two below 1 is exact, in either format.
use mathlib.Core.Path.{◌≡◌, sym, ap, ◌∙◌, subst}
use mathlib.Core.Bool.{Bool, false, ◌&&◌}
use Prim.Native.Nat.{ℕ, zero, suc, ◌+◌, ◌-◌, ◌*◌, ◌/◌, ◌%◌, ◌^◌, ◌≤◌, ◌<◌, ◌∣◌}
use native.Mathlib.Nat.{le_trans, le_of_eq, le_of_lt, lt_of_lt_of_le, lt_of_le_of_lt, le_of_mul-le-mul_right, not-le_of_lt, mul-one, one-mul, zero-mul, mul-pos, dvd-zero, dvd-mul_left, dvd-mul_left_of_dvd, dvd-mod_iff, mod-eq-zero_of_dvd, div-mul_cancel, mod-one, mod-le, zero-mod}
use native.Mathlib.Omega.{arith}
use lib.IntN.{ℤ, pos, negsuc}
use lib.Dec.{T, leb, ltb, eqb, leb→le, ltb→lt}
use lib.Pow.{pow-add, pow_pos, pow_mono, pow-lt, shl_lt}
use lib.Ieee.{fin, Format, prec, emax, low, up, down, round, rem, fits}
use lib.Ieee.Digits.{back}
use lib.Ieee.Fits.{reach, down_pos, and_l, and_r}
use Rattle.floats.proofs.Compare.{trichotomy, mul-eq-zero}
use lib.Ieee.Exact.{HasValue, round_exact}

pow-dvd : (i j : ℕ) → i ≤ j → 2 ^ i ∣ 2 ^ j
pow-dvd i j h = subst (λ (z : ℕ). 2 ^ i ∣ z) (sym (pow-add 2 (j - i) i) ∙ ap (λ (z : ℕ). 2 ^ z) (back j i h)) (dvd-mul_left (2 ^ i) (2 ^ (j - i)))

-- m * 2 ^ j modulo 2 ^ i is a multiple of 2 ^ j
dvd-mod : (m i j : ℕ) → 2 ^ j ∣ m * 2 ^ j % 2 ^ i
dvd-mod m i j =
    trichotomy i j (λ (e : i ≡ j). short (le_of_eq e)) (λ (l : i < j). short (le_of_lt l))
    (λ (l : j < i). (dvd-mod_iff (2 ^ j) (pow-dvd j i (le_of_lt l))).1 (dvd-mul_left (2 ^ j) m))
  where
    short : i ≤ j → 2 ^ j ∣ m * 2 ^ j % 2 ^ i
    short h = rw (mod-eq-zero_of_dvd (2 ^ i) (dvd-mul_left_of_dvd (2 ^ i) (pow-dvd i j h) m)) (dvd-zero (2 ^ j))

pow-le-cancel : (i j : ℕ) → 2 ^ i ≤ 2 ^ j → i ≤ j
pow-le-cancel i j h = trichotomy i j (λ (e : i ≡ j). le_of_eq e) (λ (l : i < j). le_of_lt l) (λ (l : j < i). absurd (not-le_of_lt (pow-lt l) h))

round-zero : (f : Format) (s : Bool) (r c : ℕ) → 0 < c → r ≡ 0 → HasValue (round f s r c) s r c
round-zero f s r c C z = round_exact f s r c 0 0 C (pow_pos (prec f)) (pow_pos (low f + suc (emax f))) (mul-eq-zero r (2 ^ low f) z ∙ sym (zero-mul c))

-- what a format holds is m * 2 ^ e with an m of at most prec digits, and an e that is not too low
fits-bounds : (f : Format) (s : Bool) (m : ℕ) (e : ℤ) → T (fits f (fin s (suc m) e)) → (suc m < 2 ^ prec f) × (down e ≤ 2 ^ low f)
unfolding fits
fits-bounds f s m e t =
    let a = eqb (suc m % 2) 1 in
    let b = ltb (suc m) (2 ^ prec f) in
    let c = leb (down e) (2 ^ low f) in
    let u : T (a && b && c) = and_l (a && b && c) (ltb (suc m * up e) (2 ^ suc (emax f) * down e)) t in
    (ltb→lt (suc m) (2 ^ prec f) (and_r a b (and_l (a && b) c u)), leb→le (down e) (2 ^ low f) (and_r (a && b) c u))

mod-exact : (f : Format) (s : Bool) (m : ℕ) (e : ℤ) (i : ℕ) → T (fits f (fin s m e))
    → HasValue (round f s (m * up e * 2 ^ i % down e) (down e * 2 ^ i)) s (m * up e * 2 ^ i % down e) (down e * 2 ^ i)
mod-exact f s zero e i t = round-zero f s (0 * up e * 2 ^ i % down e) (down e * 2 ^ i) (mul-pos (down_pos e) (pow_pos i)) (simp (zero-mul, zero-mod))
mod-exact f s (suc m) (pos k) i t = round-zero f s (suc m * 2 ^ k * 2 ^ i % 1) (1 * 2 ^ i) (mul-pos (pow_pos 0) (pow_pos i)) (mod-one (suc m * 2 ^ k * 2 ^ i))
mod-exact f s (suc m) (negsuc k) i t =
    let (few, deep) = fits-bounds f s m (negsuc k) t in
    let r = suc m * 1 * 2 ^ i % 2 ^ suc k in
    let q = r / 2 ^ i in
    let j = low f - suc k in
    let is : q * 2 ^ i ≡ r = div-mul_cancel (2 ^ i) (dvd-mod (suc m * 1) (suc k) i) in
    let bounded : q ≤ suc m * 1 = le_of_mul-le-mul_right (le_trans (le_of_eq is) (mod-le (suc m * 1 * 2 ^ i) (2 ^ suc k))) (pow_pos i) in
    let small : q < 2 ^ prec f = lt_of_le_of_lt bounded (rw mul-one few) in
    let exponent : j + suc k ≡ low f = back (low f) (suc k) (pow-le-cancel (suc k) (low f) deep) in
    round_exact f s r (2 ^ suc k * 2 ^ i) q j (mul-pos (pow_pos (suc k)) (pow_pos i)) small
    (lt_of_lt_of_le (shl_lt (prec f) j small) (pow_mono (omega (arith, reach f))))
    (ap (λ (z : ℕ). r * 2 ^ z) (sym exponent) ∙ ap (λ (z : ℕ). r * z) (pow-add 2 j (suc k)) ∙ omega (arith, ap (λ (z : ℕ). z * (2 ^ j * 2 ^ suc k)) is))

-- the remainder of a value of the format by 2 ^ -(i + 1)
pub rem-exact : (f : Format) (s : Bool) (m : ℕ) (e : ℤ) (i : ℕ) → T (fits f (fin s m e))
    → HasValue (rem f (fin s m e) (fin false 1 (negsuc i))) s (m * up e * 2 ^ suc i % down e) (down e * 2 ^ suc i)
unfolding rem
rem-exact f s m e i t = rw (one-mul (down e)) (mod-exact f s m e (suc i) t)
