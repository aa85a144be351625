-- The periods of a function on the integers: their multiples and common divisors are periods, and the least divides all.
-- Assumes nothing.
use mathlib.Core.Path.{◌≡◌, sym, ◌∙◌, ap, subst}
use Prim.Native.Nat.{ℕ, zero, suc, ◌<◌, ◌≤◌, ◌∣◌}
use native.Mathlib.Nat.{le_of_dvd}
use native.Mathlib.Omega.{arith}
use lib.IntN.{ℤ, pos, negsuc, ◌+ℤ◌, ◌*ℤ◌}
use Rattle.integers.proofs.Linear.{ints}
use Rattle.integers.proofs.Divisors.{gcd-dvd, gcd-pos, bezout}
use Rattle.integers.specs.Gcd.{gcd}

module _ {X : Type 0} (f : ℤ → X) where
  unfoldable pub Period : ℕ → Type 0
  Period P = (t : ℤ) → f (t +ℤ pos P) ≡ f t

  pub period-zero : Period 0
  unfolding Period
  period-zero t = ap f (simp ints (omega arith))

  forward : (P : ℕ) → Period P → (n : ℕ) (t : ℤ) → f (t +ℤ pos P *ℤ pos n) ≡ f t
  unfolding Period
  forward P h zero t = ap f (simp ints (omega arith))
  forward P h (suc n) t = ap f (simp ints (omega arith)) ∙ h (t +ℤ pos P *ℤ pos n) ∙ forward P h n t

  -- any number of periods, forward or back
  pub period-many : (P : ℕ) → Period P → (k t : ℤ) → f (t +ℤ pos P *ℤ k) ≡ f t
  period-many P h (pos n) t = forward P h n t
  period-many P h (negsuc n) t = sym (forward P h (suc n) (t +ℤ pos P *ℤ negsuc n)) ∙ ap f (simp ints (omega arith))

  pub period-gcd : (P Q : ℕ) → Period P → Period Q → Period (gcd P Q)
  unfolding Period
  period-gcd P Q h k t =
      let w = bezout P Q in
      ap (λ (g : ℤ). f (t +ℤ g)) w.sum ∙ ap f (simp ints (omega arith)) ∙ period-many Q k w.y (t +ℤ pos P *ℤ w.x) ∙ period-many P h w.x t

  -- the least period divides every other
  pub period-least : (P : ℕ) → 0 < P → Period P → ((Q : ℕ) → 0 < Q → Period Q → P ≤ Q) → (Q : ℕ) → Period Q → P ∣ Q
  period-least P above h least Q k =
      let g : gcd P Q ≡ P = omega (arith, least (gcd P Q) (gcd-pos P Q above) (period-gcd P Q h k), le_of_dvd above (gcd-dvd P Q).0) in
      subst (λ (n : ℕ). n ∣ Q) g (gcd-dvd P Q).1
