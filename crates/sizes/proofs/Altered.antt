-- Alter's working period and its distance: they are those of `Size.alter_turn`, and how the code computes them.
use mathlib.Core.Path.{◌≡◌, refl}
use Prim.Native.Nat.{ℕ, ◌*◌, ◌/◌, ◌≤◌}
use native.Mathlib.Nat.{div-le_self, le_trans, mul-le-mul}
use native.Mathlib.Omega.{arith}
use lib.Dec.{T}
use lib.IntN.{ℤ, pos, negsuc, nat_abs}
use lib.Signed.{◌≤ℤ◌, non_neg}
use mir.Syntax.{w64}
use mir.Val.{Fits, SFits, of_z, to_z}
use Rattle.integers.specs.Parts.{up}
use Rattle.integers.specs.Gcd.{gcd}
use Rattle.integers.proofs.Linear.{ints}
use Rattle.integers.proofs.Machine.{plain}
use Rattle.calendar.specs.Size.{Turn, coarse, fine, alter_turn}
use Rattle.algebra.proofs.AlterSize.{period-turns}
use Rattle.sizes.specs.Stored.{longest, most_coarse}
use Rattle.sizes.specs.Altered.{alter_period, alter_distance}

pub alter-turn-is : (a b : Turn) (x : ℕ) (z : ℤ) → alter_turn a b x z ≡ record { period = alter_period a (fine a b x z); distance = alter_distance a (coarse a b x) (fine a b x z) }
unfolding alter_turn alter_period alter_distance
alter-turn-is a b x z = refl

pub alter-period-is : (a : Turn) (D : ℤ) → 1 ≤ up D → 1 ≤ a.distance → alter_period a D ≡ a.period * (up D / gcd (up D) a.distance)
unfolding alter_period
alter-period-is a D h k = period-turns (up D) a.distance h k a.period

-- the product is below 2^64, as 4,194,304 · 4,194,304 · 1,000,000 is
pub distance-fits : (N g n : ℕ) → N ≤ longest → n ≤ most_coarse → Fits w64 (N / g * n)
distance-fits N g n h k = omega (arith, mul-le-mul (le_trans (div-le_self N g) h) k)

-- D, read back from its bits and cast to a natural number
pub record Natural (D : ℤ) : Type 0 where
  pub positive : 1 ≤ up D
  pub cast : T (non_neg (to_z w64 (of_z w64 D))) × Fits w64 (nat_abs (to_z w64 (of_z w64 D)))
  pub is : nat_abs (to_z w64 (of_z w64 D)) ≡ up D

pub natural : {D : ℤ} → SFits w64 D → pos 1 ≤ℤ D → Natural D
natural {D = pos d} f h = record { positive = omega (arith, simp ints at h); cast = simp plain (tt, omega (arith, f.sfits)); is = simp plain }
natural {D = negsuc d} f h = absurd h.le
