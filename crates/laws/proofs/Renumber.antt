-- The law of renumber: a renumbered calendar is full, so another renumbering shifts it.
use mathlib.Core.Path.{◌≡◌, ◌∙◌, ap, subst}
use mathlib.Core.Logic.Iff
use mathlib.Core.Logic.{◌↔◌, ◌⊎◌, inl, inr}
use mathlib.Core.Option.{some}
use Prim.Native.Nat.{ℕ, ◌+◌}
use native.Mathlib.Omega.{arith}
use lib.IntN.{ℤ, pos, ◌+ℤ◌, ◌-ℤ◌}
use lib.Signed.{◌≤ℤ◌, ◌<ℤ◌}
use Rattle.integers.proofs.Linear.{ints, ◌∴◌}
use Rattle.integers.proofs.Order.{le-or-lt, <ℤ→≤ℤ}
use Rattle.calendar.specs.Meaning.{Calendar, Has, Full, Same, IsCalendar}
use Rattle.calendar.specs.Operation.Unary.{shift, renumber}
use Rattle.calendar.specs.Operation.Operation.{unary}
use Rattle.calendar.specs.Algebra.{Renumbered, Result}
use Rattle.granules.proofs.Lists.{lists-as}
use Rattle.laws.proofs.Count.{Between, between, count, count-is, count_none, count-full, count-sum, count-label, label-counted, label-above, label-below}
use Rattle.laws.proofs.Intermediate.{Reached, reached}
use Rattle.laws.proofs.Pointwise.{Maps, maps-same}

module _ (c : Calendar) (is : IsCalendar c) (x : ℤ) where
  -- how many labels stand from x up to z, counted negative below x
  rank : ℤ → ℤ
  rank z = pos (count c is x z) -ℤ pos (count c is z x)

  rank-next : (z : ℤ) → rank (z +ℤ pos 1) ≡ rank z +ℤ pos (count c is z (z +ℤ pos 1))
  unfolding rank
  rank-next z = by (le-or-lt x z)
    where
      by : (x ≤ℤ z) ⊎ (z <ℤ x) → rank (z +ℤ pos 1) ≡ rank z +ℤ pos (count c is z (z +ℤ pos 1))
      by (inl o) =
          let s = count-sum c is x z (z +ℤ pos 1) o (simp ints (omega arith)) in
          let u = count_none c is z x o in
          let w = count_none c is (z +ℤ pos 1) x (o ∴ simp ints (omega arith)) in
          simp ints (omega arith)
      by (inr o) =
          let s = count-sum c is z (z +ℤ pos 1) x (simp ints (omega arith)) (o ∴ simp ints (omega arith)) in
          let u = count_none c is x z (<ℤ→≤ℤ o) in
          let w = count_none c is x (z +ℤ pos 1) (o ∴ simp ints (omega arith)) in
          simp ints (omega arith)

  -- a label's new number is one more than its rank
  number_is : (j i : ℤ) → Has c j → Renumbered c x j i ↔ (i ≡ rank j +ℤ pos 1)
  unfolding rank
  number_is j i h = (there, back (le-or-lt x j))
    where
      one : (k : ℤ) → (Has c k × (x ≤ℤ k) × (k ≤ℤ j)) ↔ Between c x (j +ℤ pos 1) k
      one k = (λ h. (h.0, h.1, h.2 ∴ simp ints (omega arith)), λ h. (h.0, h.1, h.2 ∴ simp ints (omega arith)))

      up_to : x ≤ℤ j → (count c is x (j +ℤ pos 1) ≡ count c is x j + 1) × (count c is j x ≡ 0)
      up_to o = (count-sum c is x j (j +ℤ pos 1) o (simp ints (omega arith)) ∙ ap (λ (n : ℕ). count c is x j + n) (count-label c is j h), count_none c is j x o)

      there : Renumbered c x j i → i ≡ rank j +ℤ pos 1
      there (inl (o, (l, L, e))) =
          let n = count-is c is x (j +ℤ pos 1) l (lists-as (λ k. Has c k × (x ≤ℤ k) × (k ≤ℤ j)) (Between c x (j +ℤ pos 1)) l one L) in
          let u = up_to o in
          e ∴ simp ints (omega arith)
      there (inr (o, (l, L, e))) =
          let n = count-is c is j x l L in
          let u = count_none c is x j (<ℤ→≤ℤ o) in
          e ∴ simp ints (omega arith)

      back : (x ≤ℤ j) ⊎ (j <ℤ x) → i ≡ rank j +ℤ pos 1 → Renumbered c x j i
      back (inl o) e =
          let (l, L) = between c is x (j +ℤ pos 1) in
          let n = count-is c is x (j +ℤ pos 1) l L in
          let u = up_to o in
          inl (o, (l, lists-as (Between c x (j +ℤ pos 1)) (λ k. Has c k × (x ≤ℤ k) × (k ≤ℤ j)) l (λ k. Iff.symm (one k)) L, e ∴ simp ints (omega arith)))
      back (inr o) e =
          let (l, L) = between c is j x in
          let n = count-is c is j x l L in
          let u = count_none c is x j (<ℤ→≤ℤ o) in
          inr (o, (l, L, e ∴ simp ints (omega arith)))

  -- the ranks of a full calendar are the numbers from x on
  rank-full : Full c → (j : ℤ) → rank j ≡ j -ℤ x
  unfolding rank
  rank-full full j = by (le-or-lt x j)
    where
      by : (x ≤ℤ j) ⊎ (j <ℤ x) → rank j ≡ j -ℤ x
      by (inl o) = count-full c is full x j o ∴ count_none c is j x o ∴ simp ints (omega arith)
      by (inr o) = count-full c is full j x (<ℤ→≤ℤ o) ∴ count_none c is x j (<ℤ→≤ℤ o) ∴ simp ints (omega arith)

module _ (x : ℤ) (a c : Calendar) (is_a : IsCalendar a) (is_c : IsCalendar c) (C : Result (unary (renumber x) a) c) where
  -- a label of c is one more than the rank of a label of a
  ranked : (t i : ℤ) → c t ≡ some i → (j : ℤ) × (a t ≡ some j) × (i ≡ rank a is_a x j +ℤ pos 1)
  ranked t i e =
      let (j, f, r) = (C t i).0 e in
      (j, f, (number_is a is_a x j i (t, f)).0 r)

  -- where the rank grows to i stands the label that is numbered i
  grown : (p i : ℤ) → Reached (rank a is_a x) i p → Has c i
  grown p i r =
      let e : p ≡ p -ℤ pos 1 +ℤ pos 1 = simp ints (omega arith) in
      by (p -ℤ pos 1) r.0 (subst (λ (z : ℤ). i ≤ℤ rank a is_a x z) e r.1)
    where
      by : (z : ℤ) → rank a is_a x z <ℤ i → i ≤ℤ rank a is_a x (z +ℤ pos 1) → Has c i
      by z l g =
          let n = rank-next a is_a x z in
          let h = label-counted a is_a z (n ∴ l ∴ g ∴ simp ints (omega arith)) in
          let o = count-label a is_a z h in
          (h.0, (C h.0 i).1 (z, h.1, (number_is a is_a x z i h).1 (n ∴ o ∴ l ∴ g ∴ simp ints (omega arith))))

  pub renumbered-full : Full c
  renumbered-full i =
      let (s, k, e, l) = label-below c is_c i in
      let (t, m, f, g) = label-above c is_c i in
      by s t k m e f l g (ranked s k e) (ranked t m f)
    where
      by : (s t k m : ℤ) → c s ≡ some k → c t ≡ some m → k <ℤ i → i ≤ℤ m
          → (j : ℤ) × (a s ≡ some j) × (k ≡ rank a is_a x j +ℤ pos 1) → (j : ℤ) × (a t ≡ some j) × (m ≡ rank a is_a x j +ℤ pos 1) → Has c i
      by s t k m e f l g (j, ej, nj) (h, eh, nh) =
          let (p, r) = reached (rank a is_a x) i j (h +ℤ pos 1) (order (le-or-lt s t))
          (l ∴ nj ∴ simp ints (omega arith))
          (g ∴ nh ∴ rank-next a is_a x h ∴ count-label a is_a h (t, eh) ∴ simp ints (omega arith)) in
          grown p i r
        where
          order : (s ≤ℤ t) ⊎ (t <ℤ s) → j ≤ℤ (h +ℤ pos 1)
          order (inl o) = is_a.ordered s t j h o ej eh ∴ simp ints (omega arith)
          order (inr o) = absurd (is_c.ordered t s m k (<ℤ→≤ℤ o) f e ∴ l ∴ g ∴ simp ints (omega arith))

pub renumber-renumber : (x y : ℤ) (a r b c : Calendar) → IsCalendar a → IsCalendar r → Result (unary (renumber x) a) r → Result (unary (renumber y) r) b
    → Result (unary (shift (pos 1 -ℤ y)) r) c → Same b c
renumber-renumber x y a r b c is_a is_r R B C = maps-same (λ j. rank r is_r y j +ℤ pos 1) (λ j. j +ℤ (pos 1 -ℤ y)) r b c B' C
    (λ j. rank-full r is_r y (renumbered-full x a r is_a is_r R) j ∴ simp ints (omega arith))
  where
    B' : Maps (λ j. rank r is_r y j +ℤ pos 1) r b
    B' t i = (
      λ e. let (j, f, n) = (B t i).0 e in (j, f, (number_is r is_r y j i (t, f)).0 n),
      λ h. (B t i).1 (h.0, h.1, (number_is r is_r y h.0 i (t, h.1)).1 h.2),
    )
