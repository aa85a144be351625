-- Alter's n = lcm(A, x) and D = (n/A)·B + z·n/x, as the code computes them: with g = gcd(A, x), n is (A/g)·x, n/A is x/g, and n/x is A/g.
-- A and B are at most the span, so n is below 2^42 and D within ±2^43.
use mathlib.Core.Path.{◌≡◌, refl, sym, ◌∙◌, ap, ap₂}
use Prim.Native.Nat.{ℕ, ◌*◌, ◌/◌, ◌≤◌, ◌<◌}
use native.Mathlib.Nat.{div-le_self, le_trans, mul-le-mul, mul-pos, mul-div_cancel, le-div_iff_mul-le, le_of_dvd}
use native.Mathlib.Omega.{arith}
use lib.IntN.{ℤ, pos, neg_ℤ, ◌+ℤ◌, ◌*ℤ◌}
use lib.Signed.{◌≤ℤ◌}
use mir.Syntax.{w64}
use mir.Val.{SFits}
use Rattle.integers.specs.Gcd.{gcd, lcm}
use Rattle.integers.proofs.Linear.{ints, ◌∴◌}
use Rattle.integers.proofs.Order.{mul_mono}
use Rattle.integers.proofs.Divisors.{gcd-comm, gcd-pos, lcm-comm, lcm-dvd, lcm-pos}
use Rattle.calendar.specs.Size as Size
use Rattle.sizes.specs.declared.Turn.{Turn}
use Rattle.sizes.specs.Stored.{turn_of, Alterable, longest, most_coarse}
use Rattle.algebra.proofs.Span.{rise-at-most}

-- ---- the quotients of a least common multiple

lcm-over-right : (A x : ℕ) → 1 ≤ x → lcm A x / x ≡ A / gcd A x
unfolding lcm
lcm-over-right A x h = mul-div_cancel (A / gcd A x) h

lcm-over-left : (A x : ℕ) → 1 ≤ A → lcm A x / A ≡ x / gcd A x
lcm-over-left A x h = ap (λ (n : ℕ). n / A) (lcm-comm A x) ∙ lcm-over-right x A h ∙ ap (λ (g : ℕ). x / g) (gcd-comm x A)

-- ---- n and D

-- over the span, labels rise by one at least
rise-positive : (a b : Size.Turn) → 1 ≤ a.period → 1 ≤ b.period → 1 ≤ b.distance → 1 ≤ Size.rise b (Size.span_of a b)
unfolding Size.span_of
rise-positive a b h k d =
    mul-pos d ((le-div_iff_mul-le k).1 (omega (arith, le_of_dvd (lcm-pos a.period b.period h k) (lcm-dvd a.period b.period).1)))

module _ (a b : Size.Turn) (x A B : ℕ) (e : A ≡ Size.rise b (Size.span_of a b)) (f : B ≡ Size.rise a (Size.span_of a b)) where
  coarse-is : A / gcd A x * x ≡ Size.coarse a b x
  unfolding Size.coarse lcm
  coarse-is = ap (λ (A : ℕ). A / gcd A x * x) e

  fine-is : (z : ℤ) → 1 ≤ A → 1 ≤ x → pos (x / gcd A x * B) +ℤ z *ℤ pos (A / gcd A x) ≡ Size.fine a b x z
  unfolding Size.fine Size.coarse
  fine-is z h k =
      ap₂ (λ (m n : ℕ). pos (m * B) +ℤ z *ℤ pos n) (sym (lcm-over-left A x h)) (sym (lcm-over-right A x k))
      ∙ ap₂ (λ (A B : ℕ). pos (lcm A x / A * B) +ℤ z *ℤ pos (lcm A x / x)) e f

-- ---- what the code computes

pub record Computed (a b : Turn) (x : ℕ) (z : ℤ) (A B g : ℕ) : Type 0 where
  pub divisor : 0 < g
  pub coarse : A / g * x ≡ Size.coarse (turn_of a) (turn_of b) x
  pub fine : pos (x / g * B) +ℤ z *ℤ pos (A / g) ≡ Size.fine (turn_of a) (turn_of b) x z
  pub coarse-at-most : A / g * x ≤ most_coarse
  pub spans-at-most : x / g * B ≤ most_coarse
  pub changes-at-most : A / g ≤ longest
  pub changed-fits : SFits w64 (z *ℤ pos (A / g))
  pub fine-low : neg_ℤ (pos (2 * most_coarse)) ≤ℤ (pos (x / g * B) +ℤ z *ℤ pos (A / g))
  pub fine-high : (pos (x / g * B) +ℤ z *ℤ pos (A / g)) ≤ℤ pos (2 * most_coarse)

pub fine-fits : {a b : Turn} {x : ℕ} {z : ℤ} {A B g : ℕ} → Computed a b x z A B g → SFits w64 (pos (x / g * B) +ℤ z *ℤ pos (A / g))
fine-fits c = c.fine-low ∴ c.fine-high ∴ simp ints (omega arith)

module _ {a b : Turn} {x : ℕ} {z : ℤ} {s : ℕ} (p : Alterable a b x z s) (A B : ℕ) (e : A ≡ Size.rise (turn_of b) s) (f : B ≡ Size.rise (turn_of a) s) where
  e-span : A ≡ Size.rise (turn_of b) (Size.span_of (turn_of a) (turn_of b))
  e-span = e ∙ ap (Size.rise (turn_of b)) p.spanned

  f-span : B ≡ Size.rise (turn_of a) (Size.span_of (turn_of a) (turn_of b))
  f-span = f ∙ ap (Size.rise (turn_of a)) p.spanned

  A-positive : 1 ≤ A
  A-positive =
      let l = p.fine in
      let k = p.coarse in
      rw e-span (rise-positive (turn_of a) (turn_of b) (omega arith) (omega arith) k.positive)

  pub computed : (g : ℕ) → g ≡ gcd A x → Computed a b x z A B g
  computed g d =
      let i = rise-at-most (turn_of b) s p.coarse.distance-at-most in
      let j = rise-at-most (turn_of a) s p.fine.distance-at-most in
      let changes : A / g ≤ longest = omega (arith, div-le_self A g) in
      let B-at-most : B ≤ longest = omega arith in
      let spans : x / g * B ≤ most_coarse = omega (arith, mul-le-mul (le_trans (div-le_self x g) p.x-at-most) B-at-most) in
      let low = mul_mono (A / g) p.low in
      let high = mul_mono (A / g) p.high in
      record {
        divisor = omega (arith, gcd-pos A x A-positive);
        coarse = ap (λ (g : ℕ). A / g * x) d ∙ coarse-is (turn_of a) (turn_of b) x A B e-span f-span;
        fine =
            ap (λ (g : ℕ). pos (x / g * B) +ℤ z *ℤ pos (A / g)) d
            ∙ fine-is (turn_of a) (turn_of b) x A B e-span f-span z A-positive p.positive;
        coarse-at-most = mul-le-mul changes p.x-at-most;
        spans-at-most = spans;
        changes-at-most = changes;
        changed-fits = changes ∴ low ∴ high ∴ simp ints (omega arith);
        fine-low = changes ∴ low ∴ simp ints (omega arith);
        fine-high = changes ∴ spans ∴ high ∴ simp ints (omega arith);
      }

-- ---- so n is at most 4,194,304,000,000, and D within twice that

module _ {a b : Turn} {x : ℕ} {z : ℤ} {s : ℕ} (p : Alterable a b x z s) where
  all : Computed a b x z (Size.rise (turn_of b) s) (Size.rise (turn_of a) s) (gcd (Size.rise (turn_of b) s) x)
  all = computed p (Size.rise (turn_of b) s) (Size.rise (turn_of a) s) refl refl (gcd (Size.rise (turn_of b) s) x) refl

  pub fine-limits : (neg_ℤ (pos (2 * most_coarse)) ≤ℤ Size.fine (turn_of a) (turn_of b) x z) × (Size.fine (turn_of a) (turn_of b) x z ≤ℤ pos (2 * most_coarse))
  fine-limits = rw (← all.fine) (all.fine-low, all.fine-high)
