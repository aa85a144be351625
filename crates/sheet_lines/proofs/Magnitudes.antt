-- The magnitude of a 32-bit number, by the machine.
use mathlib.Core.Path.{◌≡◌, ◌∙◌}
use Prim.Native.Nat.{ℕ, ◌+◌, ◌<◌}
use native.Mathlib.Numerals.{add-one}
use native.Mathlib.Omega.{arith}
use lib.Dec.{T}
use lib.IntN.{ℤ, pos, negsuc, nat_abs, ◌-ℤ◌}
use lib.Signed.{◌≤ℤ◌, ◌<ℤ◌, non_neg}
use mir.Syntax.{w32, w64}
use mir.Val.{SFits, Fits, to_z, of_z}
use mir.ValLaws.{to_z-of_z}
use Rattle.integers.proofs.Linear.{ints}
use Rattle.integers.proofs.Machine.{widened}

module _ (v : ℤ) (f : SFits w32 v) where
  -- the number as it is read back, in 32 and in 64 bits
  abbrev pub narrow : ℤ
  narrow = to_z w32 (of_z w32 v)

  abbrev pub wide : ℤ
  wide = to_z w64 (of_z w64 narrow)

  pub narrow-is : narrow ≡ v
  narrow-is = to_z-of_z w32 v f

  pub wide_fits : SFits w64 narrow
  wide_fits = rw narrow-is (widened f)

  pub wide_is : wide ≡ v
  wide_is = to_z-of_z w64 narrow wide_fits ∙ narrow-is

module _ (n : ℕ) (f : SFits w32 (negsuc n)) where
  below : n < 2147483648
  below = omega (arith, simp ints at f)

  difference : negsuc 0 -ℤ wide (negsuc n) f ≡ pos n
  difference = rw (wide_is (negsuc n) f) (simp ints (omega arith))

  pub difference-fits : SFits w64 (negsuc 0 -ℤ wide (negsuc n) f)
  difference-fits = rw difference (let b = below in simp ints (omega arith))

  pub back : to_z w64 (of_z w64 (negsuc 0 -ℤ wide (negsuc n) f)) ≡ pos n
  back = to_z-of_z w64 (negsuc 0 -ℤ wide (negsuc n) f) difference-fits ∙ difference

  pub back_fits : T (non_neg (to_z w64 (of_z w64 (negsuc 0 -ℤ wide (negsuc n) f)))) × Fits w64 (nat_abs (to_z w64 (of_z w64 (negsuc 0 -ℤ wide (negsuc n) f))))
  back_fits = rw back (tt, (let b = below in omega arith))

  pub sum_fits : Fits w64 (nat_abs (to_z w64 (of_z w64 (negsuc 0 -ℤ wide (negsuc n) f))) + 1)
  sum_fits = rw back (let b = below in omega arith)

  pub sum_is : nat_abs (to_z w64 (of_z w64 (negsuc 0 -ℤ wide (negsuc n) f))) + 1 ≡ nat_abs (negsuc n)
  sum_is = rw back (add-one n)

-- by cases on the sign
pub by-negative : (P : ℤ → Type 0) → ((n : ℕ) → P (negsuc n)) → (v : ℤ) → v <ℤ pos 0 → P v
by-negative P g (pos n) h = absurd (omega (arith, simp ints at h))
by-negative P g (negsuc n) h = g n

pub by-positive : (P : ℤ → Type 0) → ((n : ℕ) → P (pos n)) → (v : ℤ) → pos 0 ≤ℤ v → P v
by-positive P g (pos n) h = g n
by-positive P g (negsuc n) h = absurd (omega (arith, simp ints at h))

pub natural-fits : (n : ℕ) → SFits w32 (pos n) → T (non_neg (to_z w32 (of_z w32 (pos n)))) × Fits w64 (nat_abs (to_z w32 (of_z w32 (pos n))))
natural-fits n f = rw (narrow-is (pos n) f) (tt, omega (arith, simp ints at f))
