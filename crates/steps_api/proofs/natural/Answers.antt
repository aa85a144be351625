-- `steps_api::natural` meets its contract.
-- Assumes nothing.
use mathlib.Core.Path.{◌≡◌, refl}
use lib.IntN.{ℤ, pos, negsuc, nat_abs}
use lib.Signed.{◌≤ℤ◌, ◌<ℤ◌}
use Rattle.integers.specs.Parts.{up}
use native.Mathlib.Omega.{arith}
use Rattle.integers.proofs.Linear.{ints}
use Rattle.integers.proofs.Machine.{plain}
use Rattle.row_entry.proofs.Numbers.{cast-wide}
use Rattle.steps_api.proofs.natural.Goals as goal
use Rattle.steps_api.proofs.natural.Goals.{Else-z-lt0}

low : (c : Else-z-lt0) → pos 0 ≤ℤ c.args.z
low c = let f = c.ranges.z in simp plain at c.if-z-lt0.false

pub overflow_cast-result : goal.overflow_cast-result
overflow_cast-result c = let f = c.ranges.z in simp plain (cast-wide f (low c))

pub returns-then-z-lt0 : goal.returns-then-z-lt0
returns-then-z-lt0 c = let f = c.ranges.z in none c.args.z (simp plain at c.if-z-lt0.true)
  where
    none : (z : ℤ) → z <ℤ pos 0 → 0 ≡ up z
    none (pos n) h = absurd (omega (arith, simp ints at h))
    none (negsuc n) h = refl

pub returns-else-z-lt0 : goal.returns-else-z-lt0
returns-else-z-lt0 c = let f = c.ranges.z in simp plain (same c.args.z (low c))
  where
    same : (z : ℤ) → pos 0 ≤ℤ z → nat_abs z ≡ up z
    same (pos n) h = refl
    same (negsuc n) h = absurd h.le
