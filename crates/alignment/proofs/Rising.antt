-- The labels of two rows rise alike over their span exactly if their distances are in the proportion of their periods.
-- Assumes nothing.
use mathlib.Core.Path.{◌≡◌, refl, sym, ◌∙◌, ap, ap₂}
use mathlib.Core.Logic.{◌↔◌}
use mathlib.Core.Bool.{Bool, true, false, ◌&&◌}
use mathlib.Core.List.{List}
use Prim.Native.Nat.{ℕ, ◌*◌, ◌/◌, ◌≤◌}
use native.Mathlib.Nat.{mul_comm, mul-mul-mul_comm, mul-pos, mul-le-mul, eq_of_mul-eq-mul_right}
use native.Mathlib.Omega.{arith}
use lib.IntN.{ℤ, pos, negsuc, ◌*ℤ◌}
use lib.Signed.{◌≤ℤ◌}
use mir.Syntax.{w64}
use mir.Val.{SFits}
use Rattle.integers.specs.Parts.{up}
use Rattle.integers.proofs.Linear.{ints, ◌∴◌}
use Rattle.calendar.specs.Limits.{pool_limit}
use Rattle.calendar.specs.Meaning.{Row}
use Rattle.calendar.specs.Operation.{Alignment}
use Rattle.calendar.specs.Operation.Alignment.{free, partition, subcalendar, compatible}
use Rattle.calendar.specs.Lists.{equal}
use Rattle.calendar.specs.Checks.{rise_alike, aligned_as, everywhere, is_subcalendar, agrees}
use Rattle.calendar.specs.Questions.{given}
use Rattle.calendar.specs.Size.{turn, span_of, rise}
use Rattle.granules.specs.Valid.{Valid}
use Rattle.granules.proofs.Tests.{true≢false, eqb-iff, equal-iff, false-iff}
use Rattle.algebra.proofs.Span.{span-positive, span_left, span_right}
use Rattle.cursors.specs.Found.{Sound}
use Rattle.cursors.proofs.Numbers.{numbers, valid}
use Rattle.alignment.specs.Pass.{is_free, asks_rise, RiseAlike, Limited}

-- n·(s/p), scaled by p·q
scaled : (n p q k s : ℕ) → p * k ≡ s → n * q * s ≡ n * k * (q * p)
scaled n p q k s e = ap (λ (z : ℕ). n * q * z) (sym e ∙ mul_comm p k) ∙ mul-mul-mul_comm n q k p

proportional : (n p k m q l s : ℕ) → 1 ≤ p → 1 ≤ q → 1 ≤ s → p * k ≡ s → q * l ≡ s → (n * k ≡ m * l) ↔ (n * q ≡ m * p)
proportional n p k m q l s pp qp sp e f =
    let x = scaled n p q k s e in
    let y = scaled m q p l s f ∙ ap (λ (z : ℕ). m * l * z) (mul_comm p q) in (
      λ h. eq_of_mul-eq-mul_right s sp (n * q) (m * p) (x ∙ ap (λ (z : ℕ). z * (q * p)) h ∙ sym y),
      λ h. eq_of_mul-eq-mul_right (q * p) (mul-pos qp pp) (n * k) (m * l) (sym x ∙ ap (λ (z : ℕ). z * s) h ∙ y),
    )

rise-iff : (a b : Row) → Valid a → Valid b
    → (rise (turn a) (span_of (turn a) (turn b)) ≡ rise (turn b) (span_of (turn a) (turn b))) ↔ (a.distance * b.period ≡ b.distance * a.period)
rise-iff a b va vb =
    let S = span_of (turn a) (turn b) in
    proportional a.distance a.period (S / a.period) b.distance b.period (S / b.period) S va.positive.0 vb.positive.0 (span-positive a b va vb)
    (span_left a b va vb) (span_right a b va vb)

pub limited : (period distance : ℤ) (cells : List ℤ) → Sound period distance cells → Limited period distance
limited period distance cells s =
    let n = numbers period distance cells s in
    record {
      low = n.distance_is ∴ n.low ∴ simp ints (omega arith);
      middle = n.distance_is ∴ n.period-is ∴ n.middle ∴ simp ints (omega arith);
      high = n.period-is ∴ n.high ∴ simp ints (omega arith);
    }

-- no product of such numbers wraps
product : (x y : ℤ) → pos 1 ≤ℤ x → x ≤ℤ pos pool_limit → pos 1 ≤ℤ y → y ≤ℤ pos pool_limit → SFits w64 (x *ℤ y)
product (pos x) (pos y) h k l m = let b = mul-le-mul {n₁ = x} {m₁ = y} {n₂ = pool_limit} {m₂ = pool_limit} (simp ints at k ∴ omega arith) (simp ints at m ∴ omega arith) in simp ints (omega arith)
product (pos x) (negsuc y) h k l m = absurd l.le
product (negsuc x) y h k l m = absurd h.le

pub product-fits : (p n q m : ℤ) → Limited p n → Limited q m → SFits w64 (n *ℤ q)
product-fits p n q m a b =
    product n q a.low (a.middle ∴ a.high ∴ simp ints (omega arith)) (b.low ∴ b.middle ∴ simp ints (omega arith)) b.high

-- ---- the alignments apart

pub free-aligned : (k : Alignment) (a b : Row) → is_free k ≡ true → aligned_as k a b ≡ true
free-aligned free a b h = refl
free-aligned partition a b h = absurd (true≢false h refl)
free-aligned subcalendar a b h = absurd (true≢false h refl)
free-aligned compatible a b h = absurd (true≢false h refl)

pub is-partition : (k : Alignment) → is_free k ≡ false → asks_rise k ≡ false → k ≡ partition
is-partition free h g = absurd (true≢false refl h)
is-partition partition h g = refl
is-partition subcalendar h g = absurd (true≢false refl g)
is-partition compatible h g = absurd (true≢false refl g)

-- ---- rows that are handed in
module _ (p n q m : ℤ) (c d : List ℤ) (sa : Sound p n c) (sb : Sound q m d) where
  abbrev a : Row
  a = given p n c

  abbrev b : Row
  b = given q m d

  rise-test : (equal (n *ℤ q) (m *ℤ p) ≡ true) ↔ (rise (turn a) (span_of (turn a) (turn b)) ≡ rise (turn b) (span_of (turn a) (turn b)))
  rise-test =
      let na = numbers p n c sa in
      let nb = numbers q m d sb in
      let r = rise-iff a b (valid p n c sa) (valid q m d sb) in
      let x : n *ℤ q ≡ pos (up n) *ℤ pos (up q) = ap₂ (λ (y z : ℤ). y *ℤ z) na.distance_is nb.period-is in
      let y : m *ℤ p ≡ pos (up m) *ℤ pos (up p) = ap₂ (λ (y z : ℤ). y *ℤ z) nb.distance_is na.period-is in (
        λ e. r.1 (let h = sym x ∙ (equal-iff (n *ℤ q) (m *ℤ p)).0 e ∙ y in omega (arith, simp ints at h)),
        λ e. (equal-iff (n *ℤ q) (m *ℤ p)).1 (x ∙ ap pos (r.0 e) ∙ sym y),
      )

  -- labels that rise apart
  apart : equal (n *ℤ q) (m *ℤ p) ≡ false → rise_alike a b ≡ false
  apart e =
      let S = span_of (turn a) (turn b) in
      (false-iff (eqb-iff (rise (turn a) S) (rise (turn b) S))).1 ((false-iff rise-test).0 e)

  pub unlike : (k : Alignment) → asks_rise k ≡ true → equal (n *ℤ q) (m *ℤ p) ≡ false → aligned_as k a b ≡ false
  unlike free h e = absurd (true≢false h refl)
  unlike partition h e = absurd (true≢false h refl)
  unlike subcalendar h e = ap (λ (z : Bool). z && everywhere a b (is_subcalendar a b)) (apart e)
  unlike compatible h e = ap (λ (z : Bool). z && everywhere a b (agrees a b)) (apart e)

  pub alike : (k : Alignment) → equal (n *ℤ q) (m *ℤ p) ≡ true → RiseAlike k a b
  alike free e = tt
  alike partition e = tt
  alike subcalendar e = rise-test.0 e
  alike compatible e = rise-test.0 e
