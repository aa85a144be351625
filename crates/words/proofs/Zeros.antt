-- Trailing and leading zeros: the lowest and the highest set bit.
-- Assumes nothing.
use mathlib.Core.Path.{◌≡◌, refl, sym, ap, ◌∙◌, subst}
use Prim.Native.Nat.{ℕ, zero, suc, ◌-◌, ◌/◌, ◌%◌, ◌^◌, ◌≤◌, ◌<◌}
use native.Mathlib.Nat.{mod-lt, div-one, div-eq_of_lt, div-eq_of_lt-le, div-div-eq-div-mul, pow-succ', pow-suc, div-add-mod, lt_of_lt_of_le}
use native.Mathlib.Omega.{arith}
use lib.Dec.{lit<}
use lib.Pow.{pow_mono}
use lib.Count.{count_trailing_zeros, under, count_leading_zeros, leading_top}
use Rattle.words.specs.Bits.{bit}
use Rattle.words.specs.Places.{Least, Greatest}

-- the lowest bit, and the bits above it
bit-zero : (n : ℕ) → bit n 0 ≡ n % 2
unfolding bit
bit-zero n = ap (λ (m : ℕ). m % 2) (div-one n)

bit-suc : (n j : ℕ) → bit n (suc j) ≡ bit (n / 2) j
unfolding bit
bit-suc n j = ap (λ (m : ℕ). m % 2) (ap (λ (m : ℕ). n / m) (pow-succ' 2 j) ∙ sym (div-div-eq-div-mul n 2 (2 ^ j)))

-- a set bit of n / 2 stands one place higher in n
least-suc : (n k t : ℕ) → n % 2 ≡ 0 → (t < k) × Least (bit (n / 2)) 0 t → (suc t < suc k) × Least (bit n) 0 (suc t)
least-suc n k t e s = (omega (arith, s.0), record { from = omega arith; set = bit-suc n t ∙ s.1.set; before = λ j a b. clear j b })
  where
    clear : (j : ℕ) → j < suc t → bit n j ≡ 0
    clear zero b = bit-zero n ∙ e
    clear (suc j) b = bit-suc n j ∙ s.1.before j (omega arith) (omega arith)

-- the zeros below the lowest set bit: none where the lowest bit is set, else one more than of the bits above it
pub trailing : (k n : ℕ) → 0 < n → n < 2 ^ k → (count_trailing_zeros k n < k) × Least (bit n) 0 (count_trailing_zeros k n)
unfolding count_trailing_zeros
trailing zero n p h = absurd (omega arith)
trailing (suc k) n p h =
    by (n % 2) (mod-lt n {m = 2} (lit< tt)) refl
    (λ e. trailing k (n / 2) (omega (arith, div-add-mod n 2)) (omega (arith, div-add-mod n 2, pow-succ' 2 k)))
  where
    by : (d : ℕ) → d < 2 → n % 2 ≡ d → (n % 2 ≡ 0 → (count_trailing_zeros k (n / 2) < k) × Least (bit (n / 2)) 0 (count_trailing_zeros k (n / 2)))
        → (under d (count_trailing_zeros k (n / 2)) < suc k) × Least (bit n) 0 (under d (count_trailing_zeros k (n / 2)))
    by zero l e rest = least-suc n k _ e (rest e)
    by (suc d) l e rest = (omega arith, record { from = omega arith; set = bit-zero n ∙ e ∙ omega arith; before = λ j a b. absurd (omega arith) })

-- a number has no bit at its length and above
pub bit-above : (n j : ℕ) → n < 2 ^ j → bit n j ≡ 0
unfolding bit
bit-above n j h = ap (λ (m : ℕ). m % 2) (div-eq_of_lt h)

pub bit-top : (n j : ℕ) → 2 ^ j ≤ n → n < 2 ^ suc j → bit n j ≡ 1
unfolding bit
bit-top n j h l = let e : n / 2 ^ j ≡ 1 = div-eq_of_lt-le (2 ^ j) (omega arith) (omega (arith, pow-suc 2 j)) in ap (λ (m : ℕ). m % 2) e

pub leading : (n r : ℕ) → 0 < n → n < 2 ^ 64 → r ≡ 63 - count_leading_zeros 64 n → Greatest (bit n) 64 r
leading n r p h e =
    let t = leading_top 64 n p h in
    let s : r ≡ t.0 = omega (arith, t.1) in
    subst (λ (i : ℕ). Greatest (bit n) 64 i) (sym s)
    (record { below = omega (arith, t.1); set = bit-top n t.0 t.2 t.3; after = λ j a b. bit-above n j (lt_of_lt_of_le t.3 (pow_mono a)) })

pub leading_lt : (n : ℕ) → 0 < n → n < 2 ^ 64 → count_leading_zeros 64 n ≤ 63
leading_lt n p h = let t = leading_top 64 n p h in omega (arith, t.1)
