-- Alignment with a row of one cell, where labels rise alike: the other row has its labels, or none.
-- Assumes nothing.
use mathlib.Core.Path.{◌≡◌, refl, sym, ◌∙◌, ap}
use mathlib.Core.Logic.{◌↔◌}
use mathlib.Core.Option.{some}
use mathlib.Core.Bool.{true}
use mathlib.Core.List.{List}
use native.Mathlib.Omega.{arith}
use lib.IntN.{ℤ, pos, ◌+ℤ◌, ◌*ℤ◌}
use lib.ListN.{get_or}
use Rattle.integers.specs.Parts.{up}
use Rattle.integers.proofs.Linear.{ints, ◌∴◌}
use Rattle.calendar.specs.Meaning.{Row, Calendar, meant, empty}
use Rattle.calendar.specs.Operation.{Alignment}
use Rattle.calendar.specs.Operation.Alignment.{free, partition, subcalendar, compatible}
use Rattle.calendar.specs.Algebra.{Compatible, Subcalendar}
use Rattle.calendar.specs.Lists.{equal}
use Rattle.calendar.specs.Checks.{aligned_as}
use Rattle.calendar.specs.Questions.{given}
use Rattle.granules.proofs.Tests.{true≢false, some_inj, equal-iff}
use Rattle.cursors.specs.Found.{Sound}
use Rattle.cursors.proofs.Numbers.{numbers, valid}
use Rattle.one_cell.specs.Along.{Along}
use Rattle.one_cell.proofs.Labels.{distance-one, one-meant}
use Rattle.one_cell.proofs.Along.{meant-along, along-meant}
use Rattle.alignment.specs.Pass.{asks_rise, is_compatible}
use Rattle.alignment.proofs.Passes.{aligned-test}

-- each label of y is that of the instant in x
abbrev Has-own : ℤ → Calendar → Type 0
Has-own c y = (t j : ℤ) → y t ≡ some j → j ≡ c +ℤ t

-- two that have such labels
compatible-both : (c : ℤ) (x y : Calendar) → Has-own c x → Has-own c y → Compatible x y
compatible-both c x y f h = record {
  shared = λ j u v t. (λ p. at y v.0 t j (h v.0 j v.1) v.1 (f t j p), λ p. at x u.0 t j (f u.0 j u.1) u.1 (h t j p));
  single = λ t i j p q. f t i p ∙ sym (h t j q);
  ordered = λ s t i j l. (
    λ p q. l ∴ f s i p ∴ h t j q ∴ simp ints (omega arith),
    λ p q. l ∴ h s i p ∴ f t j q ∴ simp ints (omega arith),
  );
}
  where
    -- the instant of a label is the same in both
    at : (z : Calendar) (u t j : ℤ) → j ≡ c +ℤ u → z u ≡ some j → j ≡ c +ℤ t → z t ≡ some j
    at z u t j e p g = let i : u ≡ t = e ∴ g ∴ simp ints (omega arith) in ap z (sym i) ∙ p

module _ (c : ℤ) (x y : Calendar) (own : (t : ℤ) → x t ≡ some (c +ℤ t)) where
  label-own : (t j : ℤ) → x t ≡ some j → j ≡ c +ℤ t
  label-own t j e = some_inj (sym e ∙ own t)

  -- a label of y is one of x, at the same instants
  module _ (h : Has-own c y) where
    shared-own : (j : ℤ) → ((u : ℤ) × (y u ≡ some j)) → (t : ℤ) → (x t ≡ some j) ↔ (y t ≡ some j)
    shared-own j u t = (
      λ e. let z : u.0 ≡ t = label-own t j e ∴ h u.0 j u.1 ∴ simp ints (omega arith) in ap y (sym z) ∙ u.1,
      λ e. own t ∙ ap some (sym (h t j e)),
    )

  subcalendar-own : Has-own c y ↔ Subcalendar x y
  subcalendar-own = (
    λ h j u t. (λ e. (shared-own h j u t).1 e, λ e. (shared-own h j u t).0 e),
    λ s t j e. label-own t j ((s j (t, e) t).0 e),
  )

  compatible-own : Has-own c y ↔ Compatible x y
  compatible-own = (
    λ h. record {
      shared = λ j a u t. shared-own h j u t;
      single = λ t i j p q. label-own t i p ∙ sym (h t j q);
      ordered = λ s t i j l. (
        λ p q. l ∴ label-own s i p ∴ h t j q ∴ simp ints (omega arith),
        λ p q. l ∴ h s i p ∴ label-own t j q ∴ simp ints (omega arith),
      );
    },
    λ s t j e. sym (s.single t (c +ℤ t) j (own t) e),
  )

  turned : Compatible x y ↔ Compatible y x
  turned = (λ s. turn x y s, λ s. turn y x s)
    where
      turn : (x y : Calendar) → Compatible x y → Compatible y x
      turn x y s = record {
        shared = λ j p q t. ((s.shared j q p t).1, (s.shared j q p t).0);
        single = λ t i j p q. sym (s.single t j i q p);
        ordered = λ u t i j l. ((s.ordered u t i j l).1, (s.ordered u t i j l).0);
      }

-- ---- rows that are handed in
module _ (p n q m : ℤ) (c d : List ℤ) (sa : Sound p n c) (sb : Sound q m d) (rises : equal (n *ℤ q) (m *ℤ p) ≡ true) where
  abbrev a : Row
  a = given p n c

  abbrev b : Row
  b = given q m d

  module _ (one : p ≡ pos 1) where
    even : up m ≡ up q
    even =
        let x = (equal-iff (n *ℤ q) (m *ℤ p)).0 rises in
        let na = numbers p n c sa in
        let nb = numbers q m d sb in
        let e : n ≡ pos 1 = na.distance_is ∙ ap pos (distance-one p n c sa one) in
        let f : pos (up q) ≡ pos (up m) = sym nb.period-is ∙ sym (simp ints (omega arith)) ∙ ap (λ (z : ℤ). z *ℤ q) (sym e) ∙ x ∙ ap (λ (z : ℤ). m *ℤ z) one ∙ simp ints (omega arith) ∙ nb.distance_is in
        omega (arith, simp ints at f)

    labels : Along (get_or c 0 empty) d ↔ Has-own (get_or c 0 empty) (meant b)
    labels = (λ h. meant-along q m d sb (get_or c 0 empty) h even, λ h. along-meant q m d sb (get_or c 0 empty) h)

    own : (t : ℤ) → meant a t ≡ some (get_or c 0 empty +ℤ t)
    own = one-meant p n c sa one

    -- a has one cell
    pub first-own : (k : Alignment) → asks_rise k ≡ true → Along (get_or c 0 empty) d ↔ (aligned_as k a b ≡ true)
    first-own free h = absurd (true≢false h refl)
    first-own partition h = absurd (true≢false h refl)
    first-own subcalendar h =
        let t = aligned-test subcalendar a b (valid p n c sa) (valid q m d sb) in
        let s = subcalendar-own (get_or c 0 empty) (meant a) (meant b) own in
        (λ l. t.1 (s.0 (labels.0 l)), λ l. labels.1 (s.1 (t.0 l)))
    first-own compatible h =
        let t = aligned-test compatible a b (valid p n c sa) (valid q m d sb) in
        let s = compatible-own (get_or c 0 empty) (meant a) (meant b) own in
        (λ l. t.1 (s.0 (labels.0 l)), λ l. labels.1 (s.1 (t.0 l)))

    -- a has one cell, and is the second
    pub second-own : Along (get_or c 0 empty) d ↔ (aligned_as compatible b a ≡ true)
    second-own =
        let t = aligned-test compatible b a (valid q m d sb) (valid p n c sa) in
        let s = compatible-own (get_or c 0 empty) (meant a) (meant b) own in
        let r = turned (get_or c 0 empty) (meant a) (meant b) own in
        (λ l. t.1 (r.0 (s.0 (labels.0 l))), λ l. labels.1 (s.1 (r.1 (t.0 l))))

-- both have the labels of one row of one cell
pub both_own : (p n q m : ℤ) (c d : List ℤ) (sa : Sound p n c) (sb : Sound q m d) (z : ℤ) → n ≡ p → m ≡ q → Along z c → Along z d → aligned_as compatible (given p n c) (given q m d) ≡ true
both_own p n q m c d sa sb z e f g h =
    (aligned-test compatible (given p n c) (given q m d) (valid p n c sa) (valid q m d sb)).1
    (compatible-both z (meant (given p n c)) (meant (given q m d)) (meant-along p n c sa z g (ap up e)) (meant-along q m d sb z h (ap up f)))

pub is-compatible : (k : Alignment) → is_compatible k ≡ true → k ≡ compatible
is-compatible free h = absurd (true≢false h refl)
is-compatible partition h = absurd (true≢false h refl)
is-compatible subcalendar h = absurd (true≢false h refl)
is-compatible compatible h = refl
