-- The machine's count of ones is the tally of a word's bits, and of a remainder by 2 ^ k that of its k lowest.
-- Assumes nothing.
use mathlib.Core.Path.{◌≡◌, refl, sym, ap, ◌∙◌}
use Prim.Native.Nat.{ℕ, zero, suc, ◌+◌, ◌*◌, ◌/◌, ◌%◌, ◌^◌, ◌≤◌, ◌<◌}
use native.Mathlib.Nat.{mod-lt, mod-one, mod-eq_of_lt}
use native.Mathlib.Omega.{arith}
use lib.Dec.{lit<}
use lib.Pow.{pow_pos, mod-pow-add, shl_exact}
use lib.Count.{ones, ones_cat}
use Rattle.words.specs.Bits.{bit, tally}

-- a bit is 0 or 1
pub bit_le : (w k : ℕ) → bit w k ≤ 1
unfolding bit
bit_le w k = omega (arith, mod-lt (w / 2 ^ k) {m = 2} (lit< tt))

ones_bit : (b : ℕ) → b ≤ 1 → ones b ≡ b
unfolding ones
ones_bit zero h = refl
ones_bit (suc zero) h = refl
ones_bit (suc (suc b)) h = absurd (omega arith)

-- one more digit of w
pub digit : (w k : ℕ) → w % 2 ^ suc k ≡ bit w k * 2 ^ k + w % 2 ^ k
unfolding bit
digit w k = let e : suc k ≡ 1 + k = omega arith in ap (λ (n : ℕ). w % 2 ^ n) e ∙ mod-pow-add w 1 k

pub ones_low : (w k : ℕ) → ones (w % 2 ^ k) ≡ tally (bit w) k
unfolding tally
ones_low w zero = ap ones (mod-one w) ∙ ones_bit 0 (omega arith)
ones_low w (suc k) =
    ap ones (digit w k) ∙ ones_cat k (bit w k) (w % 2 ^ k) (mod-lt w (pow_pos k))
    ∙ omega (arith, ones_bit (bit w k) (bit_le w k), ones_low w k)

pub ones-whole : (w : ℕ) → w < 2 ^ 64 → ones w ≡ tally (bit w) 64
ones-whole w h = ap ones (sym (mod-eq_of_lt h)) ∙ ones_low w 64

-- 1 << k
pub one_shl : (k : ℕ) → k < 64 → (1 * 2 ^ k) % 2 ^ 64 ≡ 2 ^ k
one_shl k h = shl_exact 1 k 64 (lit< tt) (omega arith) ∙ omega arith
