-- Numbers of a heading and of an entry, as the machine casts them.
-- Assumes nothing.
use mathlib.Core.Path.{◌≡◌}
use Prim.Native.Nat.{ℕ, ◌^◌, ◌≤◌, ◌<◌}
use native.Mathlib.Omega.{arith}
use lib.Dec.{T}
use lib.IntN.{ℤ, pos, negsuc, nat_abs}
use lib.Signed.{◌≤ℤ◌, non_neg}
use mir.Syntax.{w32, w64}
use mir.Val.{Fits, SFits, to_z}
use mir.ValLaws.{to_z_pos}
use Rattle.integers.proofs.Linear.{ints}
use Rattle.integers.proofs.Machine.{plain}
use Rattle.calendar.specs.Limits.{pool_limit}

pub cast-number : {z : ℤ} → pos 0 ≤ℤ z → z ≤ℤ pos pool_limit → T (non_neg z) × Fits w32 (nat_abs z)
cast-number {z = pos n} h k = (tt, omega (arith, simp ints at k))
cast-number {z = negsuc n} h k = absurd h.le

pub cast-wide : {z : ℤ} → SFits w64 z → pos 0 ≤ℤ z → T (non_neg z) × Fits w64 (nat_abs z)
cast-wide {z = pos n} f h = (tt, omega (arith, simp ints at f))
cast-wide {z = negsuc n} f h = absurd h.le

-- a number of 32 bits, read from 64
pub wide-number : (n : ℕ) → Fits w32 n → SFits w64 (pos n) × (to_z w64 n ≡ pos n)
wide-number n f = let h : n < 2 ^ 63 = omega arith in (simp ints (omega arith), to_z_pos w64 n h)

-- a natural up to the pool's limit, as a signed number
pub number-limits : (n : ℕ) → n ≤ pool_limit → (pos 0 ≤ℤ to_z w64 n) × (to_z w64 n ≤ℤ pos pool_limit)
number-limits n h = let u : n < 2 ^ 63 = omega arith in simp plain (simp ints (omega arith), simp ints (omega arith))
