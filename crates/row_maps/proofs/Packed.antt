-- The bits of a packed number are those that it was made of.
-- Assumes nothing.
use mathlib.Core.Path.{◌≡◌, sym, ap, ◌∙◌}
use mathlib.Core.Logic.{◌⊎◌, inl, inr}
use Prim.Native.Nat.{ℕ, zero, suc, ◌+◌, ◌*◌, ◌/◌, ◌%◌, ◌^◌, ◌≤◌, ◌<◌}
use native.Mathlib.Nat.{eq-or-lt_of_le, mul-le-mul_right, pow-suc, mod-eq_of_lt, lt_of_lt_of_le, add_comm, add-zero, zero-mul, mul_comm, mul_assoc, add-mul}
use native.Mathlib.Omega.{arith}
use lib.Pow.{high, low, pow-add, pow_mono}
use Rattle.words.specs.Bits.{bit}
use Rattle.words.proofs.Parts.{bit-low}
use Rattle.row_maps.specs.Making.{packed}

-- the lowest m bits, and those above
pub packed_join : (f : ℕ → ℕ) (m n : ℕ) → packed f (m + n) ≡ packed f m + packed (λ k. f (m + k)) n * 2 ^ m
unfolding packed
packed_join f m zero = ap (packed f) (add-zero m) ∙ sym (ap (λ (x : ℕ). packed f m + x) (zero-mul (2 ^ m)) ∙ add-zero (packed f m))
packed_join f m (suc n) =
    let e : m + suc n ≡ suc (m + n) = omega arith in
    let g : ℕ → ℕ = λ k. f (m + k) in
    let p : f (m + n) * 2 ^ (m + n) ≡ f (m + n) * 2 ^ n * 2 ^ m =
    ap (λ (x : ℕ). f (m + n) * x) (pow-add 2 m n ∙ mul_comm (2 ^ m) (2 ^ n)) ∙ sym (mul_assoc (f (m + n)) (2 ^ n) (2 ^ m)) in
    ap (packed f) e ∙ omega (arith, packed_join f m n, p, add-mul (packed g n) (f (m + n) * 2 ^ n) (2 ^ m))

-- 64 bits of two halves
pub two-halves : (f g : ℕ → ℕ) → ((k : ℕ) → g k ≡ f (32 + k)) → (low high : ℕ) → high < 2 ^ 32 → low ≡ packed f 32 → high ≡ packed g 32
    → low + (high * 2 ^ 32) % 2 ^ 64 ≡ packed f 64
two-halves f g e low high b p q =
    let h : packed g 32 ≡ packed (λ k. f (32 + k)) 32 = λ x. packed (λ k. e k x) 32 in
    let exact : (high * 2 ^ 32) % 2 ^ 64 ≡ high * 2 ^ 32 = mod-eq_of_lt (omega arith) in
    let j : packed f 64 ≡ packed f 32 + packed (λ k. f (32 + k)) 32 * 2 ^ 32 = packed_join f 32 32 in
    omega arith

module _ (f : ℕ → ℕ) (bits : (i : ℕ) → f i ≤ 1) where
  packed-one : (n : ℕ) → packed f (n + 1) ≡ packed f n + f n * 2 ^ n
  unfolding packed
  packed-one n = let e : n + 1 ≡ suc n = omega arith in ap (packed f) e

  pub packed_lt : (n : ℕ) → packed f n < 2 ^ n
  unfolding packed
  packed_lt zero = omega arith
  packed_lt (suc n) = omega (arith, packed_lt n, mul-le-mul_right (2 ^ n) (bits n), pow-suc 2 n)

  -- the number as its highest bit and the rest
  split : (n : ℕ) → packed f (suc n) ≡ f n * 2 ^ n + packed f n
  unfolding packed
  split n = add_comm (packed f n) (f n * 2 ^ n)

  highest : (n : ℕ) → bit (packed f (suc n)) n ≡ f n
  unfolding bit
  highest n =
      ap (λ (m : ℕ). m / 2 ^ n % 2) (split n) ∙ ap (λ (m : ℕ). m % 2) (high (f n) n (packed_lt n))
      ∙ mod-eq_of_lt (omega (arith, bits n))

  rest : (n : ℕ) → packed f (suc n) % 2 ^ n ≡ packed f n
  rest n = ap (λ (m : ℕ). m % 2 ^ n) (split n) ∙ low (f n) n (packed_lt n)

  pub bit-packed : (n j : ℕ) → j < n → bit (packed f n) j ≡ f j
  bit-packed zero j h = absurd (omega arith)
  bit-packed (suc n) j h = let l : j ≤ n = omega arith in by (eq-or-lt_of_le l) (bit-packed n j)
    where
      by : (j ≡ n) ⊎ (j < n) → (j < n → bit (packed f n) j ≡ f j) → bit (packed f (suc n)) j ≡ f j
      by (inl e) before = ap (bit (packed f (suc n))) e ∙ highest n ∙ ap f (sym e)
      by (inr l) before = sym (bit-low (packed f (suc n)) n j l) ∙ ap (λ (m : ℕ). bit m j) (rest n) ∙ before l

  -- one bit more, in w bits
  pub packed-grown : (w k v b : ℕ) → k < w → v ≡ packed f k → b ≡ f k → (v + (b * 2 ^ k) % 2 ^ w ≡ packed f (k + 1)) × (packed f (k + 1) < 2 ^ w)
  packed-grown w k v b h e d =
      let small : packed f (k + 1) < 2 ^ w = lt_of_lt_of_le (packed_lt (k + 1)) (pow_mono {i = k + 1} {j = w} (omega arith)) in
      let one = packed-one k in
      let p = ap (λ (n : ℕ). n * 2 ^ k) d in
      let exact : (b * 2 ^ k) % 2 ^ w ≡ b * 2 ^ k = mod-eq_of_lt (omega (arith, one, p, small)) in
      (omega (arith, exact, one, p, e), small)
