-- A turn that is a whole number of turns.
-- Assumes nothing.
use mathlib.Core.Path.{◌≡◌, sym, ◌∙◌, ap}
use Prim.Native.Nat.{ℕ, ◌*◌, ◌/◌, ◌≤◌}
use native.Mathlib.Nat.{mul_comm, mul-le-mul_left, div-mul-le_self, div-eq_of_eq-mul_right}
use native.Mathlib.Omega.{arith}
use Rattle.checking.specs.Weighing.{Multiple}

module _ (period distance p n : ℕ) (above : 1 ≤ p) (dense : n ≤ p) where
  -- neither product is above the period
  pub product-fits : period / p * p ≤ period
  product-fits = div-mul-le_self period p

  pub other_fits : period / p * n ≤ period
  other_fits = omega (arith, mul-le-mul_left (period / p) dense, product-fits)

  pub multiple-of : period / p * p ≡ period → period / p * n ≡ distance → Multiple period distance p n
  multiple-of e f = (period / p, sym e ∙ mul_comm (period / p) p, sym f ∙ mul_comm (period / p) n)

  times-is : (m : Multiple period distance p n) → period / p ≡ m.0
  times-is (c, e, f) = div-eq_of_eq-mul_right {n = p} {m = period} {k = c} (omega arith) e

  pub multiple-period : Multiple period distance p n → period / p * p ≡ period
  multiple-period m = ap (λ (c : ℕ). c * p) (times-is m) ∙ mul_comm m.0 p ∙ sym m.1

  pub multiple-distance : Multiple period distance p n → period / p * n ≡ distance
  multiple-distance m = ap (λ (c : ℕ). c * n) (times-is m) ∙ mul_comm m.0 n ∙ sym m.2
