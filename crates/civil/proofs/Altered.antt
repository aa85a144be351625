-- Alter of the days by a calendar whose granules begin at s(i). With h(i) = floor((i − y)/x) + 1 the altered granule
-- i is the days from s(i) + h(i − 1)·z to s(i + 1) − 1 + h(i)·z: so the altered granules begin at s(i) + h(i − 1)·z.
--     h(i) is h(i − 1) or one more. So a granule of at least m days keeps m or m + z.
--     Over n granules, a multiple of N and of x, s rises by P·n/N and h by n/x.
use mathlib.Core.Path.{◌≡◌, refl, sym, ◌∙◌, ap, ap₂}
use mathlib.Core.Logic.{◌⊎◌, inl, inr}
use mathlib.Core.Option.{some}
use Prim.Native.Nat.{ℕ, ◌+◌, ◌*◌, ◌-◌, ◌≤◌}
use native.Mathlib.Omega.{arith}
use lib.IntN.{ℤ, pos, negsuc, ◌+ℤ◌, ◌-ℤ◌, ◌*ℤ◌}
use lib.Signed.{◌≤ℤ◌, ◌<ℤ◌}
use Rattle.integers.specs.Parts.{up, dn}
use Rattle.integers.proofs.Linear.{ints, ◌∴◌}
use Rattle.integers.proofs.Order.{le-or-lt, ≤ℤ-antisym}
use Rattle.integers.proofs.Floor.{floor-mono, floor-unique, floor_div-shift}
use Rattle.calendar.specs.Meaning.{Calendar}
use Rattle.calendar.specs.Operation.Binary.{alter}
use Rattle.calendar.specs.Operation.Operation.{binary}
use Rattle.calendar.specs.Algebra.{Spans, Partition, EmptiedBy, Result, changes, altered_first, altered_last}
use Rattle.granules.proofs.Tests.{some_inj}
use Rattle.algebra.proofs.Tiles.{rises-many}
use Rattle.algebra.proofs.Fine.{spans-unique}
use Rattle.algebra.proofs.Altered.{before, before-next, changes-turn}
use Rattle.civil.proofs.Tilings.{Starts, Tiled, ends, tiling, label-at}

-- bottom: each instant its own label
abbrev pub days : Calendar
days t = some t

-- where the altered granules begin
unfoldable pub altered : ℕ → ℕ → ℤ → (ℤ → ℤ) → ℤ → ℤ
altered x y z s i = s i +ℤ changes x y (i -ℤ pos 1) *ℤ z

-- the numbers of an alter: y from 1 to x; n granules are a turns of s and b of the altering, and D days; granules of
-- m days keep k
pub record Alters (x y : ℕ) (z : ℤ) (P N m D n k a b : ℕ) : Type 0 where
  pub factor : (1 ≤ y) × (y ≤ x)
  pub turns : (n ≡ N * a) × (n ≡ x * b)
  pub rise : D + b * dn z ≡ P * a + b * up z
  pub positive : (1 ≤ n) × (1 ≤ k)
  pub keeps : (k ≤ m) × (k + dn z ≤ m + up z)

-- ---- how often z is added

module _ (x y : ℕ) (above : 1 ≤ x) where
  -- up to i as often as up to i − 1, or once more
  changes-step : (i : ℤ)
      → (changes x y (i -ℤ pos 1) ≡ changes x y i) ⊎ (changes x y (i -ℤ pos 1) +ℤ pos 1 ≡ changes x y i)
  changes-step i = by (le-or-lt (changes x y i) (changes x y (i -ℤ pos 1)))
    where
      u : ℤ
      u = i -ℤ pos 1 -ℤ pos y

      at-least : changes x y (i -ℤ pos 1) ≤ℤ changes x y i
      at-least = floor-mono x above {s = u} {t = i -ℤ pos y} (simp ints (omega arith)) ∴ simp ints (omega arith)

      at-most : changes x y i ≤ℤ (changes x y (i -ℤ pos 1) +ℤ pos 1)
      at-most =
          (rw (floor_div-shift x above u (pos 1)) at (floor-mono x above {s = i -ℤ pos y} {t = u +ℤ pos x *ℤ pos 1} (simp ints (omega arith))))
          ∴ simp ints (omega arith)

      by : (changes x y i ≤ℤ changes x y (i -ℤ pos 1)) ⊎ (changes x y (i -ℤ pos 1) <ℤ changes x y i)
          → (changes x y (i -ℤ pos 1) ≡ changes x y i) ⊎ (changes x y (i -ℤ pos 1) +ℤ pos 1 ≡ changes x y i)
      by (inl h) = inl (≤ℤ-antisym at-least h)
      by (inr h) = inr (at-most ∴ h ∴ simp ints (omega arith))

  -- not at all up to 0
  changes-origin : 1 ≤ y → y ≤ x → changes x y (pos 0) ≡ pos 0
  changes-origin h k =
      ap (λ (q : ℤ). q +ℤ pos 1) (floor-unique x above (pos 0 -ℤ pos y) (negsuc 0) (x - y) (simp ints (omega arith)) (omega arith)).0

-- ---- the altered granules

module _ {s : ℤ → ℤ} {P N m : ℕ} (starts : Starts s P N m) {x y : ℕ} {z : ℤ} {D n k a b : ℕ} (numbers : Alters x y z P N m D n k a b) where
  above : 1 ≤ x
  above = omega (arith, numbers.factor)

  -- the granule i + 1 begins with the changes up to i
  next_start : (i : ℤ) → altered x y z s (i +ℤ pos 1) ≡ s (i +ℤ pos 1) +ℤ changes x y i *ℤ z
  unfolding altered
  next_start i =
      ap (λ (j : ℤ). s (i +ℤ pos 1) +ℤ changes x y j *ℤ z) {x = i +ℤ pos 1 -ℤ pos 1} {y = i} (simp ints (omega arith))

  altered-length : (i : ℤ) → (altered x y z s i +ℤ pos k) ≤ℤ altered x y z s (i +ℤ pos 1)
  unfolding altered
  altered-length i = by (changes-step x y above i)
    where
      by : (changes x y (i -ℤ pos 1) ≡ changes x y i) ⊎ (changes x y (i -ℤ pos 1) +ℤ pos 1 ≡ changes x y i)
          → (altered x y z s i +ℤ pos k) ≤ℤ altered x y z s (i +ℤ pos 1)
      by (inl e) =
          ap (λ (h : ℤ). h *ℤ z) e ∴ next_start i ∴ starts.length i ∴ numbers.keeps.0 ∴ simp ints (omega arith)
      by (inr e) =
          ap (λ (h : ℤ). h *ℤ z) e ∴ next_start i ∴ starts.length i ∴ numbers.keeps.1 ∴ simp ints (omega arith)

  altered-turn : (i : ℤ) → altered x y z s (i +ℤ pos n) ≡ altered x y z s i +ℤ pos D
  unfolding altered
  altered-turn i =
      let e : s (i +ℤ pos n) ≡ s i +ℤ pos P *ℤ pos a =
      ap (λ (n : ℕ). s (i +ℤ pos n)) numbers.turns.0 ∙ rises-many s N P starts.turn (pos a) i in
      let f : changes x y (i +ℤ pos n -ℤ pos 1) ≡ changes x y (i -ℤ pos 1) +ℤ pos b =
      ap (changes x y) {x = i +ℤ pos n -ℤ pos 1} {y = i -ℤ pos 1 +ℤ pos x *ℤ pos b} (ap pos numbers.turns.1 ∴ simp ints (omega arith))
      ∙ changes-turn x above y (i -ℤ pos 1) (pos b) in
      ap₂ (λ (p h : ℤ). p +ℤ h *ℤ z) e f ∙ (numbers.rise ∴ simp ints (omega arith))

  pub altered-starts : Starts (altered x y z s) D n k
  unfolding altered
  altered-starts = record {
    turn = altered-turn;
    length = altered-length;
    origin = ap (λ (h : ℤ). s (pos 1) +ℤ h *ℤ z) (changes-origin x y above numbers.factor.0 numbers.factor.1) ∙ (starts.origin ∴ simp ints (omega arith));
    positive = numbers.positive;
  }

  module _ {c : Calendar} (tiled : Tiled c s) where
    -- c's granule i is the days s(i) to s(i + 1) − 1
    spans : (i : ℤ) → Spans days c i (s i) (ends s i)
    spans i = (
      (tiling starts).nonempty i,
      λ u. (
        λ e. let (h, k) = (tiled u i).0 e in (u, refl, h, k),
        λ (j, e, h, k). (tiled u i).1 (some_inj e ∴ h ∴ simp ints (omega arith), some_inj e ∴ k ∴ simp ints (omega arith)),
      ),
    )

    pub days-partition : Partition days c
    days-partition = record {
      labelled = λ t. (λ _. label-at starts tiled t, λ _. (t, refl));
      holder = λ j _. let (i, e) = label-at starts tiled j in (i, λ u f. ap c (some_inj f) ∙ e);
    }

    first-is : (i : ℤ) → altered_first x y z i (s i) ≡ altered x y z s i
    unfolding altered
    first-is i =
        let e : i -ℤ pos 1 +ℤ pos 1 ≡ i = simp ints (omega arith) in
        ap (λ (h : ℤ). s i +ℤ h *ℤ z) (ap (before x y) (sym e) ∙ before-next x above y (i -ℤ pos 1))

    last-is : (i : ℤ) → altered_last x y z i (ends s i) ≡ ends (altered x y z s) i
    last-is i = next_start i ∴ simp ints (omega arith)

    altered-ends : (i p q : ℤ) → Spans days c i p q
        → (altered_first x y z i p ≡ altered x y z s i) × (altered_last x y z i q ≡ ends (altered x y z s) i)
    altered-ends i p q h =
        let e = spans-unique days c (λ j. (j, refl)) i p q (s i) (ends s i) h (spans i) in
        (ap (altered_first x y z i) e.0 ∙ first-is i, ap (altered_last x y z i) e.1 ∙ last-is i)

    pub none-emptied : ¬ (EmptiedBy (alter x y z) days c)
    none-emptied (i, p, q, h, l) =
        let e = altered-ends i p q h in e ∴ l ∴ (tiling altered-starts).nonempty i ∴ simp ints (omega arith)

    pub altered-result : {d : Calendar} → Tiled d (altered x y z s) → Result (binary (alter x y z) days c) d
    altered-result tiled' t i = (
      λ e. let (h, k) = (tiled' t i).0 e in
          (t, refl, (s i, ends s i, spans i, first-is i ∴ h ∴ simp ints (omega arith), last-is i ∴ k ∴ simp ints (omega arith))),
      λ (j, e, (p, q, h, k, l)). let f = altered-ends i p q h in
          (tiled' t i).1 (f ∴ some_inj e ∴ k ∴ simp ints (omega arith), f ∴ some_inj e ∴ l ∴ simp ints (omega arith)),
    )
