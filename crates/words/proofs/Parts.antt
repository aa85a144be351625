-- The bits of a word that is shifted down, and of its lowest bits alone.
-- Assumes nothing.
use mathlib.Core.Path.{◌≡◌, sym, ap, ◌∙◌}
use Prim.Native.Nat.{ℕ, suc, ◌+◌, ◌-◌, ◌/◌, ◌%◌, ◌^◌, ◌≤◌, ◌<◌}
use native.Mathlib.Nat.{mod-lt, lt_of_lt_of_le}
use native.Mathlib.Omega.{arith}
use native.Mathlib.Decide.{dec_lt}
use lib.Pow.{pow_pos, pow_mono, shr-shr, field, mod-mod-pow}
use Rattle.words.specs.Bits.{bit}
use Rattle.words.specs.Places.{Least, Greatest}
use Rattle.words.proofs.Zeros.{bit-above}

pub bit-none : (k : ℕ) → bit 0 k ≡ 0
bit-none k = bit-above 0 k (pow_pos k)

-- a set bit of a number below 2 ^ n stands below n
pub bit_below : (w n j : ℕ) → w < 2 ^ n → bit w j ≡ 1 → j < n
bit_below w n j h e = by (dec_lt j n)
  where
    by : Dec (j < n) → j < n
    by (yes k) = k
    by (no k) = let l : n ≤ j = omega arith in absurd (omega (arith, bit-above w j (lt_of_lt_of_le h (pow_mono l))))

-- ---- shifted down
pub bit-shr : (w k j : ℕ) → bit (w / 2 ^ k) j ≡ bit w (k + j)
unfolding bit
bit-shr w k j = ap (λ (n : ℕ). n % 2) (shr-shr w k j)

pub least-shr : (w k r : ℕ) → Least (bit (w / 2 ^ k)) 0 r → Least (bit w) k (k + r)
least-shr w k r l = record {
  from = omega arith;
  set = sym (bit-shr w k r) ∙ l.set;
  before = λ j a b. let e : k + (j - k) ≡ j = omega arith in ap (bit w) (sym e) ∙ sym (bit-shr w k (j - k)) ∙ l.before (j - k) (omega arith) (omega arith);
}

-- where nothing is left, no bit from k on is set
pub clear_shr : (w k : ℕ) → w / 2 ^ k ≡ 0 → (j : ℕ) → k ≤ j → bit w j ≡ 0
clear_shr w k e j l =
    let s : k + (j - k) ≡ j = omega arith in
    ap (bit w) (sym s) ∙ sym (bit-shr w k (j - k)) ∙ ap (λ (n : ℕ). bit n (j - k)) e ∙ bit-none (j - k)

-- ---- the k lowest bits
pub bit-low : (w k j : ℕ) → j < k → bit (w % 2 ^ k) j ≡ bit w j
unfolding bit
bit-low w k j l =
    let m = k - suc j in
    let e : k ≡ (m + 1) + j = omega arith in
    ap (λ (n : ℕ). w % 2 ^ n / 2 ^ j % 2) e ∙ ap (λ (n : ℕ). n % 2) (field w (m + 1) j) ∙ mod-mod-pow (w / 2 ^ j) m 1

pub greatest-low : (w k r : ℕ) → Greatest (bit (w % 2 ^ k)) 64 r → k ≤ 64 → Greatest (bit w) k r
greatest-low w k r g h =
    let l : r < k = bit_below (w % 2 ^ k) k r (mod-lt w (pow_pos k)) g.set in
    record {
      below = l;
      set = sym (bit-low w k r l) ∙ g.set;
      after = λ j a b. sym (bit-low w k j b) ∙ g.after j a (omega arith);
    }

-- where they are 0, no bit below k is set
pub clear-low : (w k : ℕ) → w % 2 ^ k ≡ 0 → (j : ℕ) → j < k → bit w j ≡ 0
clear-low w k e j l = sym (bit-low w k j l) ∙ ap (λ (n : ℕ). bit n j) e ∙ bit-none j
