-- A number from 0 on, as the machine casts it.
-- Assumes nothing.
use mathlib.Core.Path.{◌≡◌}
use Prim.Native.Nat.{◌≤◌, ◌<◌}
use native.Mathlib.Omega.{arith}
use lib.Dec.{T}
use lib.IntN.{ℤ, pos, negsuc, nat_abs}
use lib.Signed.{◌≤ℤ◌, ◌<ℤ◌, non_neg}
use mir.Syntax.{w64}
use mir.Val.{Fits, SFits, of_z, to_z}
use Rattle.integers.specs.Parts.{up}
use Rattle.integers.proofs.Linear.{ints, ◌∴◌}
use Rattle.integers.proofs.Machine.{plain}
use Rattle.calendar.specs.Limits.{pool_limit}
use Rattle.sizes.specs.Stored.{Stored}
use Rattle.alignment.specs.Pass.{Limited}
use Rattle.operand_checks.specs.Shared.{turn_for}

pub record Natural (z : ℤ) : Type 0 where
  pub cast : T (non_neg (to_z w64 (of_z w64 z))) × Fits w64 (nat_abs (to_z w64 (of_z w64 z)))
  pub is : nat_abs (to_z w64 (of_z w64 z)) ≡ up z

pub natural : {z : ℤ} → SFits w64 z → pos 0 ≤ℤ z → Natural z
natural {z = pos n} f h = record { cast = simp plain (tt, omega (arith, f.sfits)); is = simp plain }
natural {z = negsuc n} f h = absurd h.le

-- what an integer has above zero is in its order
pub up-mono : {y z : ℤ} → y ≤ℤ z → up y ≤ up z
up-mono {y = pos m} {z = pos n} h = omega (arith, simp ints at h)
up-mono {y = pos m} {z = negsuc n} h = absurd h.le
up-mono {y = negsuc m} h = omega arith

pub past : {y z : ℤ} → pos 0 ≤ℤ y → y <ℤ z → up y < up z
past {y = pos m} {z = pos n} h k = omega (arith, simp ints at k)
past {y = pos m} {z = negsuc n} h k = absurd k.lt
past {y = negsuc m} h k = absurd h.le

-- ---- a row's period and distance

module _ {period distance : ℤ} (l : Limited period distance) where
  pub period-natural : SFits w64 period → Natural period
  period-natural f = natural f (l.low ∴ l.middle ∴ simp ints (omega arith))

  pub distance-natural : SFits w64 distance → Natural distance
  distance-natural f = natural f (l.low ∴ simp ints (omega arith))

  pub stored : Stored (turn_for period distance)
  stored = record {
    positive = up-mono l.low;
    distance-at-most = up-mono l.middle;
    period-at-most = omega (arith, up-mono l.high);
  }

  pub distance-limit : up distance ≤ pool_limit
  distance-limit = omega (arith, up-mono l.middle, up-mono l.high)
