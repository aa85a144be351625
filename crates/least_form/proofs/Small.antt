-- The numbers of a sound row and of its least row are from 1 to pool_limit, so that their products fit 64 bits.
-- Assumes nothing.
use mathlib.Core.Path.{◌≡◌}
use mathlib.Core.List.{List}
use Prim.Native.Nat.{◌≤◌}
use native.Mathlib.Nat.{mul-le-mul}
use native.Mathlib.Omega.{arith}
use lib.IntN.{ℤ, pos, negsuc, ◌*ℤ◌}
use lib.Signed.{◌≤ℤ◌, ◌<ℤ◌}
use mir.Syntax.{w64}
use mir.Val.{SFits}
use Rattle.integers.specs.Parts.{up}
use Rattle.integers.proofs.Linear.{ints, ◌∴◌}
use Rattle.calendar.specs.Limits.{pool_limit}
use Rattle.calendar.specs.Granules.{granules}
use Rattle.calendar.specs.Least.{least}
use Rattle.calendar.specs.Questions.{given}
use Rattle.granules.specs.Valid.{Valid}
use Rattle.granules.proofs.Numbers.{Numbers, numbers}
use Rattle.granules.proofs.Sound.{sound-valid}
use Rattle.granules.proofs.Count.{granules-positive, granules-at-most}
use Rattle.granules.proofs.Least.{least-row, least-shorter}
use Rattle.least_form.specs.Row.{IsLeast}

pub record Small (z : ℤ) : Type 0 where
  pub low : pos 1 ≤ℤ z
  pub high : z ≤ℤ pos pool_limit

pub small_pos : {z : ℤ} → Small z → pos 0 <ℤ z
small_pos {z} h = h.low ∴ simp ints (omega arith)

pub product-fits : {y z : ℤ} → Small y → Small z → SFits w64 (y *ℤ z)
product-fits {y = pos m} {z = pos n} h k =
    let a : m ≤ pool_limit = omega (arith, simp ints at h.high) in
    let b : n ≤ pool_limit = omega (arith, simp ints at k.high) in
    simp ints (omega (arith, mul-le-mul a b))
product-fits {y = pos m} {z = negsuc n} h k = absurd k.low.le
product-fits {y = negsuc m} {z} h k = absurd h.low.le

-- ---- the numbers of the row
module _ (period distance q : ℤ) (cells : List ℤ) (h : IsLeast period distance q cells) where
  pub known : Numbers period distance cells
  known = numbers period distance cells h.passed

  pub small-period : Small period
  small-period = record {
    low = known.period-is ∴ known.low ∴ known.middle ∴ simp ints (omega arith);
    high = known.period-is ∴ known.high ∴ simp ints (omega arith);
  }

  pub small-distance : Small distance
  small-distance = record {
    low = known.distance_is ∴ known.low ∴ simp ints (omega arith);
    high = known.distance_is ∴ known.middle ∴ known.high ∴ simp ints (omega arith);
  }

  pub valid : Valid (given period distance cells)
  valid = sound-valid (given period distance cells) h.passed

  pub small_least : Small q
  small_least =
      let l : 1 ≤ (least (given period distance cells)).period = (least-row (given period distance cells) valid).positive.0 in
      let u : (least (given period distance cells)).period ≤ up period = least-shorter (given period distance cells) valid in
      record { low = h.is ∴ l ∴ simp ints (omega arith); high = h.is ∴ u ∴ known.high ∴ simp ints (omega arith) }

  -- R is at least 1, and at most N
  pub small-granules : {z : ℤ} → z ≡ pos (granules (given period distance cells)) → Small z
  small-granules {z} e =
      let l = granules-positive (given period distance cells) valid in
      let u = granules-at-most (given period distance cells) in
      record { low = e ∴ l ∴ simp ints (omega arith); high = e ∴ u ∴ known.middle ∴ known.high ∴ simp ints (omega arith) }
