-- A share is known by its 256ths: n / 256 is exact, and v is a share if it is not above the greatest that is not above v.
use mathlib.Core.Path.{◌≡◌, refl, sym, ap, ◌∙◌, subst}
use mathlib.Core.Bool.{true, false}
use Prim.Native.Nat.{ℕ, suc, ◌*◌, ◌/◌, ◌%◌, ◌≤◌, ◌<◌}
use native.Mathlib.Nat.{one-mul, div-mul_cancel, dvd_of_mod-eq-zero, mod-eq-zero_of_dvd, dvd-mul_left, lt_of_mul-lt-mul_right}
use native.Mathlib.Omega.{arith}
use lib.Dec.{T, leb, eqb, lit≤}
use borrow.Author.Tests.{le-leb, lt-leb, eq-eqb, ne_eqb}
use lib.Ieee.{Float, binary64, mul, le}
use lib.Ieee.Exact.{HasValue}
use lib.Ieee.Positive.{num, den, den_pos}
use Rattle.floats.specs.Near.{float, limit}
use Rattle.floats.specs.Allowance.{amount, share}
use Rattle.floats.specs.Parts.{WholeParts}
use Rattle.floats.proofs.Whole.{float_value}
use Rattle.floats.proofs.Compare.{le-fractions, trichotomy}
use Rattle.floats.proofs.Product.{mul-exact}
use Rattle.floats.proofs.Words.{unit, sign, amount-value, negative-zero}

pub share-value : (n : ℕ) → n ≤ limit → HasValue (mul binary64 unit (float n)) false n 256
share-value n h =
    subst (λ (z : ℕ). HasValue (mul binary64 unit (float n)) false z 256) (one-mul n)
    (mul-exact binary64 unit (float n) false 1 256 n 8 1 (lit≤ tt) (refl, refl) (float_value n (omega arith)) refl (lit≤ tt) (omega arith))

-- the order of n / 256 and an amount
module _ (v r : Float) (n : ℕ) (a : T (amount v)) (h : HasValue r false n 256) where
  pub not-above : le r v ≡ leb (n * den v) (num v * 256)
  not-above = le-fractions r v false (sign v) n 256 (num v) (den v) (lit≤ tt) (den_pos v) h (amount-value v a) absurd (negative-zero v a)

  pub not-below : le v r ≡ leb (num v * 256) (n * den v)
  not-below = le-fractions v r (sign v) false (num v) (den v) n 256 (den_pos v) (lit≤ tt) (amount-value v a) h (negative-zero v a) absurd

-- a number from n · d on and below (n + 1) · d is a multiple of d if it is not above n · d
multiple : (a d n : ℕ) → 0 < d → n * d ≤ a → a < suc n * d → eqb (a % d) 0 ≡ leb a (n * d)
multiple a d n D l m =
    trichotomy a (n * d)
    (λ e. eq-eqb (a % d) 0 (ap (λ (z : ℕ). z % d) e ∙ mod-eq-zero_of_dvd d (dvd-mul_left d n)) ∙ sym (le-leb a (n * d) (omega arith)))
    (λ k. absurd (omega arith))
    (λ k. ne_eqb (a % d) 0 (λ z. between k (a / d) (div-mul_cancel d (dvd_of_mod-eq-zero d z))) ∙ sym (lt-leb a (n * d) k))
  where
    between : n * d < a → (q : ℕ) → q * d ≡ a → ⊥
    between k q e =
        let above : n < q = lt_of_mul-lt-mul_right d (omega arith) in
        let below : q < suc n = lt_of_mul-lt-mul_right d (omega arith) in
        omega arith

pub share-by-parts : (v : Float) (n : ℕ) → amount v ≡ true → leb (num v) (den v) ≡ true → WholeParts v n
    → share v ≡ leb (num v * 256) (n * den v)
unfolding share
share-by-parts v n a l w = rw (a, l) (multiple (num v * 256) (den v) n (den_pos v) w.least w.most)

pub share-amount : (v : Float) → amount v ≡ false → share v ≡ false
unfolding share
share-amount v a = rw a

pub share-small : (v : Float) → amount v ≡ true → leb (num v) (den v) ≡ false → share v ≡ false
unfolding share
share-small v a l = rw (a, l)
