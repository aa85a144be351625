-- `bitmaps::bits_in` meets its contract. The loop's invariant: where no bit is found, the words from i up to m are zero.
-- Assumes nothing.
use Rattle.bitmaps.specs.Zeros.{BitsIn, SomeWord}
use Rattle.bitmaps.proofs.Words.{clear-more}
use Prim.Native.Nat.{ℕ, ◌+◌, ◌≤◌, ◌<◌}
use mathlib.Core.Path.{◌≡◌, ap, ◌∙◌}
use mathlib.Core.List.{List}
use native.Mathlib.Omega.{arith}
use native.Mathlib.Decide.{dec_lt}
use lib.Bits.{bit_or, or_add_and, or_zero_l, and_le_l, and_le_r}
use lib.ListN.{get_or}
use Rattle.bitmaps.proofs.bits_in.Goals as goal

-- two words that together have no bit
neither : (a b : ℕ) → bit_or a b ≡ 0 → (a ≡ 0) × (b ≡ 0)
neither a b e = (omega (arith, or_add_and a b, and_le_r a b), omega (arith, or_add_and a b, and_le_l a b))

-- one word more
more : (words : List ℕ) (i m bits : ℕ) → i ≤ m → BitsIn words i m bits → BitsIn words i (m + 1) (bit_or bits (get_or words m 0))
more words i m bits low b = record { none = λ e. let n = neither _ _ e in clear-more _ _ _ (b.none n.0) n.1; some = λ h. by (dec_lt 0 bits) h }
  where
    by : Dec (0 < bits) → 0 < bit_or bits (get_or words m 0) → SomeWord words i (m + 1)
    by (yes k) h = let s = b.some k in (s.0, s.1, omega (arith, s.2), s.3)
    by (no k) h =
        let z : bits ≡ 0 = omega arith in
        let e = ap (λ (n : ℕ). bit_or n (get_or words m 0)) z ∙ or_zero_l (get_or words m 0) in
        (m, low, omega arith, omega (arith, e))

pub loop-m-preserved : goal.loop-m-preserved
loop-m-preserved c = more _ _ _ _ c.loop-m.auto.m c.loop-m.invariant
