-- How large n and D are, and how far the walk over b goes: b's labels rise by A every span, n is a multiple of A, and n/A is at most x.
-- Assumes nothing.
use mathlib.Core.Path.{◌≡◌}
use mathlib.Core.Logic.{◌⊎◌, inl, inr}
use mathlib.Core.Option.{some}
use Prim.Native.Nat.{ℕ, ◌+◌, ◌*◌, ◌/◌, ◌^◌, ◌≤◌, ◌∣◌}
use native.Mathlib.Nat.{div-le_self, div-le_of_le-mul, mul-le-mul, mul-le-mul_right, mul-div_cancel'}
use native.Mathlib.Omega.{arith}
use lib.IntN.{ℤ, pos, negsuc, neg_ℤ, ◌+ℤ◌, ◌*ℤ◌}
use lib.Signed.{◌≤ℤ◌, ◌<ℤ◌}
use Rattle.integers.specs.Parts.{up}
use Rattle.integers.specs.Gcd.{gcd, lcm}
use Rattle.integers.proofs.Linear.{ints, ◌∴◌}
use Rattle.integers.proofs.Order.{le-or-lt, mul_mono, up_le}
use Rattle.integers.proofs.Divisors.{lcm-dvd}
use Rattle.calendar.specs.Limits.{pool_limit}
use Rattle.calendar.specs.Meaning.{Row, meant}
use Rattle.calendar.specs.Size.{turn, span_of, coarse}
use Rattle.granules.proofs.Calendars.{label-moved}
use Rattle.algebra.proofs.Span.{rise-at-most, repeats-right, rise-positive-right}
use Rattle.algebra.proofs.Fine.{rise_coarse, rise_fine}
use Rattle.algebra.proofs.Altered.{coarse-is, fine-is}
use Rattle.kinds.specs.declared.Alteration.{Alteration}
use Rattle.alter_granules.specs.declared.Repeat.{Repeat}
use Rattle.alter_granules.specs.Given.{Alterable}
use Rattle.alter_granules.specs.Follows.{Altering, turn_coarse, turn_fine}
use Rattle.alter_granules.proofs.Tiled.{known, coarse-low, fine-low}

-- ---- n and D

lcm-at-most : (m n : ℕ) → lcm m n ≤ m * n
unfolding lcm
lcm-at-most m n = mul-le-mul_right n (div-le_self m (gcd m n))

fine-sum : (m c : ℕ) (z d : ℤ) → d ≡ pos m +ℤ z *ℤ pos c → m ≤ 1000000 * pool_limit → c ≤ pool_limit → (pos c *ℤ z) ≤ℤ (pos c *ℤ pos 1000000) → d ≤ℤ pos 8388608000000
fine-sum m c z d e h k l = e ∴ h ∴ k ∴ l ∴ simp ints (omega arith)

reached : (S A m n : ℕ) (t i u k : ℤ) → pos 0 ≤ℤ t → t ≤ℤ pos pool_limit → i ≤ℤ k → k ≤ℤ (i +ℤ pos 4 *ℤ pos n)
    → 1 ≤ A → A * m ≡ n → S ≤ pool_limit → m ≤ 1000000
    → ((i +ℤ pos A *ℤ negsuc 0) <ℤ k → (t +ℤ pos S *ℤ negsuc 0) <ℤ u)
    → (k <ℤ (i +ℤ pos A *ℤ pos (4 * m + 1)) → u <ℤ (t +ℤ pos S *ℤ pos (4 * m + 1)))
    → (neg_ℤ (pos pool_limit) ≤ℤ u) × (u ≤ℤ pos 33554432000000)
reached S A m n t i u k lo hi h g above whole s r low high =
    let few : 4 * m + 1 ≤ 4000001 = omega arith in
    let l = low (h ∴ above ∴ simp ints (omega arith)) in
    let p = high (g ∴ above ∴ whole ∴ simp ints (omega arith)) in
    (l ∴ lo ∴ s ∴ simp ints (omega arith), p ∴ hi ∴ mul-le-mul s few ∴ simp ints (omega arith))

module _ (by : Alteration) (a b : Row) (given : Altering by a b) (dense-a : a.distance ≤ a.period) (dense-b : b.distance ≤ b.period) where
  x-high : up by.x ≤ 1000000
  x-high = up_le given.1.limits.x-high

  coarse-at-most : coarse (turn a) (turn b) (up by.x) ≤ rise_coarse a b * up by.x
  coarse-at-most = rw (coarse-is a b (up by.x)) (lcm-at-most (rise_coarse a b) (up by.x))

  A-high : rise_coarse a b ≤ pool_limit
  A-high = omega (arith, rise-at-most (turn b) (span_of (turn a) (turn b)) dense-b, given.1.at-most)

  B-high : rise_fine a b ≤ pool_limit
  B-high = omega (arith, rise-at-most (turn a) (span_of (turn a) (turn b)) dense-a, given.1.at-most)

  -- n/A
  turns-high : coarse (turn a) (turn b) (up by.x) / rise_coarse a b ≤ 1000000
  turns-high = omega (arith, div-le_of_le-mul (rise_coarse a b) coarse-at-most, x-high)

  pub coarse-high : turn_coarse by a b ≤ℤ pos 4194304000000
  coarse-high = coarse-at-most ∴ mul-le-mul A-high x-high ∴ simp ints (omega arith)

  pub fine-high : turn_fine by a b ≤ℤ pos 8388608000000
  fine-high =
      let n = coarse (turn a) (turn b) (up by.x) in
      let c : n / up by.x ≤ rise_coarse a b = div-le_of_le-mul (up by.x) (omega (arith, coarse-at-most)) in
      fine-sum (n / rise_coarse a b * rise_fine a b) (n / up by.x) by.z (turn_fine by a b) (fine-is a b (up by.x) by.z)
      (mul-le-mul turns-high B-high) (omega (arith, c, A-high)) (mul_mono (n / up by.x) given.1.limits.z-high)

  -- ---- the instants of b's granules

  -- q spans on, the label has risen by A·q
  label-on : (q t i : ℤ) → meant b t ≡ some i → meant b (t +ℤ pos (span_of (turn a) (turn b)) *ℤ q) ≡ some (i +ℤ pos (rise_coarse a b) *ℤ q)
  label-on = let v = (known by a b given).valid in label-moved (meant b) (span_of (turn a) (turn b)) (rise_coarse a b) (repeats-right a b v.0 v.1)

  before-spans : (q t i u k : ℤ) → meant b t ≡ some i → meant b u ≡ some k → k <ℤ (i +ℤ pos (rise_coarse a b) *ℤ q) → u <ℤ (t +ℤ pos (span_of (turn a) (turn b)) *ℤ q)
  before-spans q t i u k e f h = go (le-or-lt (t +ℤ pos (span_of (turn a) (turn b)) *ℤ q) u)
    where
      s : ℤ
      s = t +ℤ pos (span_of (turn a) (turn b)) *ℤ q

      go : (s ≤ℤ u) ⊎ (u <ℤ s) → u <ℤ s
      go (inl l) = absurd ((known by a b given).valid.1.ordered s u _ k l (label-on q t i e) f ∴ h ∴ simp ints (omega arith))
      go (inr l) = l

  behind-spans : (q t i u k : ℤ) → meant b t ≡ some i → meant b u ≡ some k → (i +ℤ pos (rise_coarse a b) *ℤ q) <ℤ k → (t +ℤ pos (span_of (turn a) (turn b)) *ℤ q) <ℤ u
  behind-spans q t i u k e f h = go (le-or-lt u (t +ℤ pos (span_of (turn a) (turn b)) *ℤ q))
    where
      s : ℤ
      s = t +ℤ pos (span_of (turn a) (turn b)) *ℤ q

      go : (u ≤ℤ s) ⊎ (s <ℤ u) → s <ℤ u
      go (inl l) = absurd ((known by a b given).valid.1.ordered u s k _ l f (label-on q t i e) ∴ h ∴ simp ints (omega arith))
      go (inr l) = l

  -- at most m·n granules on from t, where m is at most 4
  pub instant-reach : (t i u k : ℤ) → pos 0 ≤ℤ t → t ≤ℤ pos pool_limit → meant b t ≡ some i → meant b u ≡ some k
      → i ≤ℤ k → k ≤ℤ (i +ℤ pos 4 *ℤ turn_coarse by a b) → (neg_ℤ (pos pool_limit) ≤ℤ u) × (u ≤ℤ pos 33554432000000)
  instant-reach t i u k lo hi e f h g =
      let S = span_of (turn a) (turn b) in
      let A = rise_coarse a b in
      let n = coarse (turn a) (turn b) (up by.x) in
      let v = (known by a b given).valid in
      let d : A ∣ n = rw (coarse-is a b (up by.x)) (lcm-dvd A (up by.x)).0 in
      let r = rise-positive-right a b v.0 v.1 in
      reached S A (n / A) n t i u k lo hi h g r (mul-div_cancel' A d) given.1.at-most turns-high
      (behind-spans (negsuc 0) t i u k e f) (before-spans (pos (4 * (n / A) + 1)) t i u k e f)

-- n and D as the code has them
pub record Turns (repeat : Repeat) : Type 0 where
  pub coarse-low : pos 1 ≤ℤ repeat.coarse
  pub middle : repeat.coarse ≤ℤ repeat.fine
  pub fine-high : repeat.fine ≤ℤ pos (2 ^ 43)

pub turns_near : (by : Alteration) (repeat : Repeat) (a b : Row) → Alterable by repeat a b → a.distance ≤ a.period → b.distance ≤ b.period → Turns repeat
turns_near by repeat a b g dense-a dense-b = record {
  coarse-low = coarse-low by a b (repeat, g) ∴ g.coarse ∴ simp ints (omega arith);
  middle = fine-low by a b (repeat, g) ∴ g.coarse ∴ g.fine ∴ simp ints (omega arith);
  fine-high = fine-high by a b (repeat, g) dense-a dense-b ∴ g.fine ∴ simp ints (omega arith);
}
