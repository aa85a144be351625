-- The altered granules f(i) to l(i): one behind the other, and repeating after n coarse granules and D fine ones.
--     h(i + 1) is h(i) + 1 if i + 1 − y is a multiple of x, and h(i) if not. So what f(i + 1) adds to p(i + 1) is h(i)·z, as l(i) adds to q(i); and
--     p(i + 1) is q(i) + 1.
--     n is a multiple of A and of x. Over n coarse granules p and q rise by (n/A)·B, and h by n/x: so f and l rise by D = (n/A)·B + z·n/x.
use mathlib.Core.Path.{◌≡◌, refl, sym, ◌∙◌, ap, ap₂}
use mathlib.Core.Logic.{◌↔◌, ◌⊎◌, inl, inr}
use mathlib.Core.Bool.{Bool, true, false, cond}
use Prim.Native.Nat.{ℕ, ◌-◌, ◌*◌, ◌/◌, ◌≤◌, ◌∣◌}
use native.Mathlib.Nat.{mul-div_cancel'}
use native.Mathlib.Omega.{arith}
use lib.Dec.{eqb}
use lib.IntN.{ℤ, pos, ◌+ℤ◌, ◌-ℤ◌, ◌*ℤ◌}
use lib.Signed.{◌≤ℤ◌, ◌<ℤ◌}
use Rattle.integers.specs.Floor.{floor_div, floor_mod}
use Rattle.integers.specs.Gcd.{lcm}
use Rattle.integers.proofs.Linear.{ints, ◌∴◌}
use Rattle.integers.proofs.Order.{le-or-lt}
use Rattle.integers.proofs.Floor.{floor-eq, floor-lt, floor-unique, floor_div-shift, floor_mod-shift}
use Rattle.integers.proofs.Divisors.{lcm-dvd, lcm-pos}
use Rattle.calendar.specs.Meaning.{Row, meant}
use Rattle.calendar.specs.Algebra.{Spans, EmptiedBy, changes, altered_first, altered_last}
use Rattle.calendar.specs.Operation.Binary.{alter}
use Rattle.calendar.specs.Size.{coarse, fine}
use Rattle.calendar.specs.Compute.{first_fine, last_fine}
use Rattle.granules.proofs.Tests.{eqb-iff, false-iff}
use Rattle.algebra.proofs.Span.{rise-positive-right}
use Rattle.algebra.proofs.Tiles.{Tiling, rises-many}
use Rattle.algebra.proofs.AlterSize.{coarse_of, fine_of}
use Rattle.algebra.proofs.Fine.{Partitioned, rise_coarse, rise_fine, low, high, spans-unique, low-spans, low-next, low_turn, high-turn}

-- ---- how often z is added

-- one less where the remainder is 0
abbrev less_at : ℕ → ℤ → ℤ
less_at m h = cond (eqb m 0) (h -ℤ pos 1) h

less_at-sum : (m : ℕ) (h k : ℤ) → less_at m (h +ℤ k) ≡ less_at m h +ℤ k
less_at-sum m h k = by (eqb m 0)
  where
    by : (c : Bool) → cond c (h +ℤ k -ℤ pos 1) (h +ℤ k) ≡ cond c (h -ℤ pos 1) h +ℤ k
    by true = simp ints (omega arith)
    by false = simp ints (omega arith)

-- to p(i): h − 1 times where i − y is a multiple of x, else h times
abbrev pub before : ℕ → ℕ → ℤ → ℤ
before x y i = less_at (floor_mod (i -ℤ pos y) x) (changes x y i)

-- s from s + 1, by the remainder of s + 1
from-multiple : (s q : ℤ) (x m : ℕ) → 1 ≤ x → s +ℤ pos 1 ≡ pos x *ℤ q +ℤ pos m → m ≡ 0 → s ≡ pos x *ℤ (q -ℤ pos 1) +ℤ pos (x - 1)
from-multiple s q x m = simp ints (omega arith)

from-other : (s q : ℤ) (x m : ℕ) → s +ℤ pos 1 ≡ pos x *ℤ q +ℤ pos m → ¬ (m ≡ 0) → s ≡ pos x *ℤ q +ℤ pos (m - 1)
from-other s q x m = simp ints (omega arith)

module _ (x : ℕ) (above : 1 ≤ x) where
  -- the quotient of s is that of s + 1, or one less where s + 1 is a multiple
  pub quotient-before : (s : ℤ) → less_at (floor_mod (s +ℤ pos 1) x) (floor_div (s +ℤ pos 1) x) ≡ floor_div s x
  quotient-before s = by (eqb m 0) refl
    where
      q : ℤ
      q = floor_div (s +ℤ pos 1) x

      m : ℕ
      m = floor_mod (s +ℤ pos 1) x

      by : (c : Bool) → eqb m 0 ≡ c → cond c (q -ℤ pos 1) q ≡ floor_div s x
      by true e = sym (floor-unique x above s (q -ℤ pos 1) (x - 1) (from-multiple s q x m above (floor-eq x above (s +ℤ pos 1)) ((eqb-iff m 0).0 e)) (omega arith)).0
      by false e =
          let l = floor-lt x above (s +ℤ pos 1) in
          sym (floor-unique x above s q (m - 1) (from-other s q x m (floor-eq x above (s +ℤ pos 1)) ((false-iff (eqb-iff m 0)).0 e)) (omega arith)).0

  module _ (y : ℕ) where
    -- the granule i + 1 begins with the changes up to i
    pub before-next : (i : ℤ) → before x y (i +ℤ pos 1) ≡ changes x y i
    before-next i =
        ap (λ (t : ℤ). less_at (floor_mod t x) (floor_div t x +ℤ pos 1)) {x = i +ℤ pos 1 -ℤ pos y} {y = i -ℤ pos y +ℤ pos 1} (simp ints (omega arith))
        ∙ less_at-sum (floor_mod (i -ℤ pos y +ℤ pos 1) x) (floor_div (i -ℤ pos y +ℤ pos 1) x) (pos 1)
        ∙ ap (λ (q : ℤ). q +ℤ pos 1) (quotient-before (i -ℤ pos y))

    apart : (i k : ℤ) → i +ℤ pos x *ℤ k -ℤ pos y ≡ i -ℤ pos y +ℤ pos x *ℤ k
    apart i k = simp ints (omega arith)

    pub changes-turn : (i k : ℤ) → changes x y (i +ℤ pos x *ℤ k) ≡ changes x y i +ℤ k
    changes-turn i k = ap (λ (t : ℤ). floor_div t x +ℤ pos 1) (apart i k) ∴ floor_div-shift x above (i -ℤ pos y) k ∴ simp ints (omega arith)

    before-turn : (i k : ℤ) → before x y (i +ℤ pos x *ℤ k) ≡ before x y i +ℤ k
    before-turn i k =
        ap₂ less_at (ap (λ (t : ℤ). floor_mod t x) (apart i k) ∙ floor_mod-shift x above (i -ℤ pos y) k) (changes-turn i k)
        ∙ less_at-sum (floor_mod (i -ℤ pos y) x) (changes x y i) k

-- ---- the altered granules

-- the sums that make f and l: to one step on, and to n on
sum-next : (P Q b c z : ℤ) → P ≡ Q +ℤ pos 1 → b ≡ c → P +ℤ b *ℤ z ≡ Q +ℤ c *ℤ z +ℤ pos 1
sum-next P Q b c z p e = ap₂ (λ (P b : ℤ). P +ℤ b *ℤ z) p e ∙ simp ints (omega arith)

sum-turn : (P P' b b' z : ℤ) (B k m : ℕ) → P' ≡ P +ℤ pos B *ℤ pos k → b' ≡ b +ℤ pos m → P' +ℤ b' *ℤ z ≡ P +ℤ b *ℤ z +ℤ (pos (k * B) +ℤ z *ℤ pos m)
sum-turn P P' b b' z B k m p e = ap₂ (λ (P b : ℤ). P +ℤ b *ℤ z) p e ∙ simp ints (omega arith)

pub first_fine-is : (a b : Row) (x y : ℕ) (z i : ℤ) → first_fine a b x y z i ≡ low a b i +ℤ before x y i *ℤ z
unfolding first_fine
first_fine-is a b x y z i = refl

pub last_fine-is : (a b : Row) (x y : ℕ) (z i : ℤ) → last_fine a b x y z i ≡ high a b i +ℤ changes x y i *ℤ z
unfolding last_fine
last_fine-is a b x y z i = refl

pub coarse-is : (a b : Row) (x : ℕ) → coarse_of x a b ≡ lcm (rise_coarse a b) x
unfolding coarse
coarse-is a b x = refl

pub fine-is : (a b : Row) (x : ℕ) (z : ℤ)
    → fine_of x z a b ≡ pos (coarse_of x a b / rise_coarse a b * rise_fine a b) +ℤ z *ℤ pos (coarse_of x a b / x)
unfolding fine
fine-is a b x z = refl

module _ (a b : Row) (known : Partitioned a b) (x y : ℕ) (z : ℤ) (above : 1 ≤ x) where
  -- f(i + 1) is l(i) + 1
  fine-next : (i : ℤ) → first_fine a b x y z (i +ℤ pos 1) ≡ last_fine a b x y z i +ℤ pos 1
  fine-next i =
      first_fine-is a b x y z (i +ℤ pos 1)
      ∙ sum-next (low a b (i +ℤ pos 1)) (high a b i) (before x y (i +ℤ pos 1)) (changes x y i) z (low-next a b known i) (before-next x above y i)
      ∙ ap (λ (t : ℤ). t +ℤ pos 1) (sym (last_fine-is a b x y z i))

  pub coarse-positive : 1 ≤ coarse_of x a b
  coarse-positive = rw (coarse-is a b x) (lcm-pos (rise_coarse a b) x (rise-positive-right a b known.valid.0 known.valid.1) above)

  -- n is a multiple of A and of x
  by-rise : (i : ℤ) → i +ℤ pos (coarse_of x a b) ≡ i +ℤ pos (rise_coarse a b) *ℤ pos (coarse_of x a b / rise_coarse a b)
  by-rise i =
      let d : rise_coarse a b ∣ coarse_of x a b = rw (coarse-is a b x) (lcm-dvd (rise_coarse a b) x).0 in
      ap (λ (n : ℕ). i +ℤ pos n) (sym (mul-div_cancel' (rise_coarse a b) d))

  by-factor : (i : ℤ) → i +ℤ pos (coarse_of x a b) ≡ i +ℤ pos x *ℤ pos (coarse_of x a b / x)
  by-factor i =
      let d : x ∣ coarse_of x a b = rw (coarse-is a b x) (lcm-dvd (rise_coarse a b) x).1 in
      ap (λ (n : ℕ). i +ℤ pos n) (sym (mul-div_cancel' x d))

  -- what rises by B after A coarse granules, with z added as often as c says, which rises by k after x·k of them, rises by D after n
  rises-fine : (p c : ℤ → ℤ) → ((i : ℤ) → p (i +ℤ pos (rise_coarse a b)) ≡ p i +ℤ pos (rise_fine a b)) → ((i k : ℤ) → c (i +ℤ pos x *ℤ k) ≡ c i +ℤ k)
      → (i : ℤ) → p (i +ℤ pos (coarse_of x a b)) +ℤ c (i +ℤ pos (coarse_of x a b)) *ℤ z ≡ p i +ℤ c i *ℤ z +ℤ fine_of x z a b
  rises-fine p c h g i =
      let n = coarse_of x a b in
      sum-turn (p i) (p (i +ℤ pos n)) (c i) (c (i +ℤ pos n)) z (rise_fine a b) (n / rise_coarse a b) (n / x)
      (ap p (by-rise i) ∙ rises-many p (rise_coarse a b) (rise_fine a b) h (pos (n / rise_coarse a b)) i)
      (ap c (by-factor i) ∙ g i (pos (n / x)))
      ∙ ap (λ (d : ℤ). p i +ℤ c i *ℤ z +ℤ d) (sym (fine-is a b x z))

  -- f(i + n) is f(i) + D, and l(i + n) is l(i) + D
  pub first-turn : (i : ℤ) → first_fine a b x y z (i +ℤ pos (coarse_of x a b)) ≡ first_fine a b x y z i +ℤ fine_of x z a b
  first-turn i =
      first_fine-is a b x y z (i +ℤ pos (coarse_of x a b))
      ∙ rises-fine (low a b) (before x y) (low_turn a b known) (before-turn x above y) i
      ∙ ap (λ (t : ℤ). t +ℤ fine_of x z a b) (sym (first_fine-is a b x y z i))

  pub last_turn : (i : ℤ) → last_fine a b x y z (i +ℤ pos (coarse_of x a b)) ≡ last_fine a b x y z i +ℤ fine_of x z a b
  last_turn i =
      last_fine-is a b x y z (i +ℤ pos (coarse_of x a b))
      ∙ rises-fine (high a b) (changes x y) (high-turn a b known) (changes-turn x above y) i
      ∙ ap (λ (t : ℤ). t +ℤ fine_of x z a b) (sym (last_fine-is a b x y z i))

  -- whatever p and q b's granule i is of, altered they are f(i) and l(i)
  pub fine-spans : (i p q : ℤ) → Spans (meant a) (meant b) i p q → (altered_first x y z i p ≡ first_fine a b x y z i) × (altered_last x y z i q ≡ last_fine a b x y z i)
  fine-spans i p q s =
      let e = spans-unique (meant a) (meant b) known.full.0 i p q (low a b i) (high a b i) s (low-spans a b known i) in
      (ap (altered_first x y z i) e.0 ∙ sym (first_fine-is a b x y z i), ap (altered_last x y z i) e.1 ∙ sym (last_fine-is a b x y z i))

  -- so some granule is emptied exactly where l(i) is below f(i)
  pub emptied-at : EmptiedBy (alter x y z) (meant a) (meant b) ↔ ((i : ℤ) × (last_fine a b x y z i <ℤ first_fine a b x y z i))
  emptied-at = (
    λ h. let e = fine-spans h.0 h.1 h.2 h.3 in (h.0, e.0 ∴ e.1 ∴ h.4 ∴ simp ints (omega arith)),
    λ h. let i = h.0 in
        (i, low a b i, high a b i, low-spans a b known i, first_fine-is a b x y z i ∴ last_fine-is a b x y z i ∴ h.1 ∴ simp ints (omega arith)),
  )

  -- and if none is, they tile the integers
  pub altered-tiling : ¬ (EmptiedBy (alter x y z) (meant a) (meant b)) → Tiling (first_fine a b x y z) (last_fine a b x y z)
  altered-tiling kept = record { next = fine-next; nonempty = λ i. by i (le-or-lt (first_fine a b x y z i) (last_fine a b x y z i)) }
    where
      by : (i : ℤ) → (first_fine a b x y z i ≤ℤ last_fine a b x y z i) ⊎ (last_fine a b x y z i <ℤ first_fine a b x y z i)
          → first_fine a b x y z i ≤ℤ last_fine a b x y z i
      by i (inl h) = h
      by i (inr h) = absurd (kept (emptied-at.1 (i, h)))
