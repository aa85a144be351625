-- What is left of a pass.
-- Assumes nothing.
use Prim.Native.Nat.{◌<◌}
use native.Mathlib.Omega.{arith}
use lib.IntN.{ℤ, ◌-ℤ◌}
use lib.Signed.{◌<ℤ◌}
use Rattle.integers.specs.Parts.{up}
use Rattle.integers.proofs.Linear.{ints, ◌∴◌}
use Rattle.integers.proofs.Order.{up-less}

-- it falls with each step toward e
pub left_less : (e t t' : ℤ) → t <ℤ t' → t <ℤ e → up (e -ℤ t') < up (e -ℤ t)
left_less e t t' step h = up-less (e -ℤ t') (e -ℤ t) (step ∴ simp ints (omega arith)) (h ∴ simp ints (omega arith))
