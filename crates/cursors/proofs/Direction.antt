-- How far an instant is from another in a direction.
-- Assumes nothing.
use mathlib.Core.Path.{◌≡◌}
use mathlib.Core.Bool.{Bool, true, false}
use Prim.Native.Nat.{ℕ, ◌≤◌, ◌^◌}
use native.Mathlib.Omega.{arith}
use lib.IntN.{ℤ, pos, ◌+ℤ◌}
use lib.Signed.{◌≤ℤ◌, ◌<ℤ◌}
use Rattle.integers.proofs.Linear.{ints, ◌∴◌}
use Rattle.calendar.specs.Limits.{pool_limit}
use Rattle.cursors.specs.Found.{Within, Near}
use Rattle.cursors.specs.Direction.{stepped, away}

pub away-self : (back : Bool) (t : ℤ) → away back t t ≡ pos 0
away-self true t = simp ints (omega arith)
away-self false t = simp ints (omega arith)

-- a step goes one farther
pub away-step : (back : Bool) (t u u' : ℤ) → u' ≡ stepped back u → away back t u' ≡ away back t u +ℤ pos 1
away-step true t u u' e = e ∴ simp ints (omega arith)
away-step false t u u' e = e ∴ simp ints (omega arith)

pub away-inj : (back : Bool) (t x y : ℤ) → away back t x ≡ away back t y → x ≡ y
away-inj true t x y e = e ∴ simp ints (omega arith)
away-inj false t x y e = e ∴ simp ints (omega arith)

-- a walk of less than a turn from an instant with room stays near, and so does its next step
pub away-near : (back : Bool) (t u : ℤ) (P : ℕ) → Within (2 ^ 59) t → P ≤ pool_limit → pos 0 ≤ℤ away back t u → away back t u <ℤ pos P → Near u × Near (stepped back u)
away-near true t u P n p h k = n ∴ p ∴ h ∴ k ∴ simp ints (omega arith)
away-near false t u P n p h k = n ∴ p ∴ h ∴ k ∴ simp ints (omega arith)
