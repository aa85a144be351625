-- A number from 0 on, as the machine casts it.
-- Assumes nothing.
use mathlib.Core.Path.{◌≡◌, refl}
use Prim.Native.Nat.{ℕ, ◌≤◌}
use native.Mathlib.Omega.{arith}
use lib.Dec.{T}
use lib.IntN.{ℤ, pos, negsuc, nat_abs}
use lib.Signed.{◌≤ℤ◌, non_neg}
use mir.Syntax.{w32, w64}
use mir.Val.{Fits, SFits}
use Rattle.integers.specs.Parts.{up}
use Rattle.integers.proofs.Linear.{ints}

pub cast-natural : {z : ℤ} → SFits w32 z → pos 0 ≤ℤ z → T (non_neg z) × Fits w64 (nat_abs z)
cast-natural {z = pos n} f h = (tt, omega (arith, simp ints at f))
cast-natural {z = negsuc n} f h = absurd h.le

pub nat_abs-up : {z : ℤ} → pos 0 ≤ℤ z → nat_abs z ≡ up z
nat_abs-up {z = pos n} h = refl
nat_abs-up {z = negsuc n} h = absurd h.le

pub up_le : {z : ℤ} {n : ℕ} → z ≤ℤ pos n → up z ≤ n
up_le {z = pos m} h = omega (arith, simp ints at h)
up_le {z = negsuc m} h = omega arith
