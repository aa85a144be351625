-- The test of an instant and the labelled one before it decides what the alignment says of the two.
-- Assumes nothing.
use mathlib.Core.Path.{◌≡◌, refl, sym, ◌∙◌, ap}
use mathlib.Core.Logic.Iff
use mathlib.Core.Logic.{◌↔◌, inl, inr, ⊎_elim}
use mathlib.Core.Option.{Option, some}
use mathlib.Core.Bool.{Bool, true, false, not, ◌&&◌, ◌||◌, cond}
use native.Mathlib.Omega.{arith}
use lib.IntN.{ℤ}
use lib.Signed.{◌≤ℤ◌, ◌<ℤ◌, lt_z}
use Rattle.integers.proofs.Linear.{ints, ◌∴◌}
use Rattle.integers.proofs.Order.{le-or-lt, ≤ℤ-antisym}
use Rattle.calendar.specs.Meaning.{Calendar}
use Rattle.calendar.specs.Operation.{Alignment}
use Rattle.calendar.specs.Operation.Alignment.{free, partition, subcalendar, compatible}
use Rattle.calendar.specs.Lists.{equal, is, is_some, if_label}
use Rattle.granules.proofs.Tests.{true≢false, true-or-false, or-iff, both_iff, implies-iff, not_iff, false-iff, equal-iff, lt_z-iff, is_some-iff, is-iff, same_label-iff, labelled-iff}
use Rattle.alignment.specs.Fits.{fits, fits_partition, fits_subcalendar, crosses}
use Rattle.alignment.proofs.Pairs.{Pair, Pairs}

-- ---- tests in one

fails : {a : Bool} {A : Type 0} → (a ≡ true) ↔ A → (not a ≡ true) ↔ (A → ⊥)
fails {a} f = Iff.trans (not_iff a) (false-iff f)

-- one test where a passes, another where it fails
by-case : {a b c : Bool} {A B C : Type 0} → (a ≡ true) ↔ A → (b ≡ true) ↔ B → (c ≡ true) ↔ C → (cond a b c ≡ true) ↔ ((A → B) × ((A → ⊥) → C))
by-case {a = true} f g h = (λ e. (λ x. g.0 e, λ n. absurd (n (f.0 refl))), λ p. g.1 (p.0 (f.0 refl)))
by-case {a = false} f g h = (λ e. (λ x. absurd (true≢false (f.1 x) refl), λ n. h.0 e), λ p. h.1 (p.1 (λ x. true≢false (f.1 x) refl)))

abbrev Some : Option ℤ → Type 0
Some o = (j : ℤ) × (o ≡ some j)

-- ---- what the tests say

partition-says : (o p x y : Option ℤ) → (fits_partition o p x y ≡ true) ↔ ((Some x → Some y × (o ≡ x → p ≡ y)) × ((Some x → ⊥) → (Some y → ⊥)))
partition-says o p x y = by-case (is_some-iff x) (both_iff (is_some-iff y) (implies-iff (same_label-iff o x) (same_label-iff p y))) (fails (is_some-iff y))

subcalendar-says : (o p x y : Option ℤ) → (fits_subcalendar o p x y ≡ true) ↔ ((Some y → (x ≡ y) × (o ≡ x → Some p)) × ((Some y → ⊥) → Some x → o ≡ x → (Some p → ⊥)))
subcalendar-says o p x y =
    by-case (is_some-iff y) (both_iff (same_label-iff x y) (implies-iff (same_label-iff o x) (is_some-iff p)))
    (implies-iff (is_some-iff x) (implies-iff (same_label-iff o x) (fails (is_some-iff p))))

crosses-says : (o p x y : Option ℤ) → (crosses o p x y ≡ true) ↔ ((i : ℤ) → o ≡ some i → (j : ℤ) → y ≡ some j → (i ≤ℤ j) × (i ≡ j → (p ≡ some i) × (x ≡ some i)))
crosses-says o p x y = labelled-iff o (λ i. if_label y (test i)) (λ i. labelled-iff y (test i) (decides i))
  where
    test : ℤ → ℤ → Bool
    test i j = lt_z i j || (equal i j && (is i p && is i x))

    decides : (i j : ℤ) → (test i j ≡ true) ↔ ((i ≤ℤ j) × (i ≡ j → (p ≡ some i) × (x ≡ some i)))
    decides i j =
        let alike = both_iff (equal-iff i j) (both_iff (is-iff i p) (is-iff i x)) in
        let whole = or-iff (lt_z i j) (equal i j && (is i p && is i x)) in (
          λ e. ⊎_elim
              (λ l. ((lt_z-iff i j).0 l ∴ simp ints (omega arith), λ q. absurd ((lt_z-iff i j).0 l ∴ q ∴ simp ints (omega arith))))
              (λ l. let w = alike.0 l in (w.0 ∴ simp ints (omega arith), λ q. w.1))
              (whole.0 e),
          λ h. whole.1 (⊎_elim (λ l. inr (let q : i ≡ j = l ∴ h.0 ∴ simp ints (omega arith) in alike.1 (q, h.1 q))) (λ l. inl ((lt_z-iff i j).1 l)) (le-or-lt j i)),
        )

-- ---- the instant t and the labelled one before, v

module _ (c d : Calendar) (v t : ℤ) where
  abbrev PartitionSays : Type 0
  PartitionSays = (Some (c t) → Some (d t) × (c v ≡ c t → d v ≡ d t)) × ((Some (c t) → ⊥) → (Some (d t) → ⊥))

  abbrev SubcalendarSays : Type 0
  SubcalendarSays = (Some (d t) → (c t ≡ d t) × (c v ≡ c t → Some (d v))) × ((Some (d t) → ⊥) → Some (c t) → c v ≡ c t → (Some (d v) → ⊥))

  -- a's label at v and b's at t, and the other way round
  abbrev CompatibleSays : Type 0
  CompatibleSays =
      ((i : ℤ) → c t ≡ some i → (j : ℤ) → d t ≡ some j → i ≡ j)
      × (((i : ℤ) → c v ≡ some i → (j : ℤ) → d t ≡ some j → (i ≤ℤ j) × (i ≡ j → (d v ≡ some i) × (c t ≡ some i)))
      × ((i : ℤ) → d v ≡ some i → (j : ℤ) → c t ≡ some j → (i ≤ℤ j) × (i ≡ j → (c v ≡ some i) × (d t ≡ some i))))

  abbrev Says : Alignment → Type 0
  Says free = Unit {0}
  Says partition = PartitionSays
  Says subcalendar = SubcalendarSays
  Says compatible = CompatibleSays

  says-iff : (k : Alignment) → (fits k (c v) (d v) (c t) (d t) ≡ true) ↔ Says k
  unfolding fits
  says-iff free = (λ e. tt, λ h. refl)
  says-iff partition = partition-says (c v) (d v) (c t) (d t)
  says-iff subcalendar = subcalendar-says (c v) (d v) (c t) (d t)
  says-iff compatible =
      both_iff (labelled-iff (c t) (λ i. if_label (d t) (equal i)) (λ i. labelled-iff (d t) (equal i) (equal-iff i)))
      (both_iff (crosses-says (c v) (d v) (c t) (d t)) (crosses-says (d v) (c v) (d t) (c t)))

  -- of t alone
  own : (k : Alignment) → Says k → Pair k c d t t
  own free h = tt
  own partition h = record {
    labelled = (
      λ x. (h.0 x).0,
      λ y. ⊎_elim (λ x. (is_some-iff (c t)).0 x) (λ x. absurd (h.1 ((false-iff (is_some-iff (c t))).0 x) y)) (true-or-false (is_some (c t))),
    );
    together = λ j p q. refl;
  }
  own subcalendar h = λ j p. record { here = (h.0 (j, p)).0 ∙ p; there = λ q. p }
  own compatible h = λ i p j q.
      let e = h.0 i p j q in
      record { before = λ _. e ∴ simp ints (omega arith); behind = λ _. e ∴ simp ints (omega arith); shared = λ _. (q ∙ ap some (sym e), p) }

  -- of v and t
  there : v <ℤ t → (k : Alignment) → Pair k c d v v → Says k → Pair k c d v t
  there l free o h = tt
  there l partition o h = record { labelled = o.labelled; together = λ j p q. (h.0 (j, q)).1 (p ∙ sym q) }
  there l subcalendar o h = λ j p. record {
    here = (o j p).here;
    there = λ q. ⊎_elim
        (λ x. sym (h.0 ((is_some-iff (d t)).0 x)).0 ∙ q)
        (λ x. absurd (h.1 ((false-iff (is_some-iff (d t))).0 x) (j, q) ((o j p).here ∙ sym q) (j, p)))
        (true-or-false (is_some (d t)));
  }
  there l compatible o h = λ i p j q.
      let w = h.1.0 i p j q in
      record { before = λ _. w.0; behind = λ m. absurd (l ∴ m ∴ simp ints (omega arith)); shared = w.1 }

  back : v <ℤ t → (k : Alignment) → Pair k c d v v → Says k → Pair k c d t v
  back l free o h = tt
  back l partition o h = record { labelled = (own partition h).labelled; together = λ j q p. sym ((h.0 (j, q)).1 (p ∙ sym q)) }
  back l subcalendar o h = λ j p.
      let e = (h.0 (j, p)).0 ∙ p in
      record { here = e; there = λ q. let w = (h.0 (j, p)).1 (q ∙ sym e) in w.1 ∙ sym (o w.0 w.1).here ∙ q }
  back l compatible o h = λ i p j q.
      let w = h.1.1 j q i p in
      record {
        before = λ m. absurd (l ∴ m ∴ simp ints (omega arith));
        behind = λ _. w.0;
        shared = λ e. let x = w.1 (sym e) in (x.1 ∙ ap some (sym e), x.0 ∙ ap some (sym e));
      }

  said : v ≤ℤ t → (k : Alignment) → Pairs k c d v t → Says k
  said l free h = tt
  said l partition h = (λ x. (h.other.labelled.0 x, λ e. h.there.together x.0 (e ∙ x.1) x.1), λ n y. n (h.other.labelled.1 y))
  said l subcalendar h = (
    λ y. let w = (h.other y.0 y.1).here in (w ∙ sym y.1, λ e. (y.0, (h.back y.0 y.1).there (e ∙ w))),
    λ n x e p. n (p.0, (h.there p.0 p.1).there (sym e ∙ (h.one p.0 p.1).here)),
  )
  said l compatible h = (
    λ i p j q. let w = h.other i p j q in ≤ℤ-antisym (w.before (simp ints (omega arith))) (w.behind (simp ints (omega arith))),
    (
      λ i p j q. let w = h.there i p j q in (w.before l, w.shared),
      λ j q i p. let w = h.back i p j q in (w.behind l, λ e. let x = w.shared (sym e) in (x.1 ∙ ap some (sym e), x.0 ∙ ap some (sym e))),
    ),
  )

  pub fits-own : (k : Alignment) → fits k (c v) (d v) (c t) (d t) ≡ true → Pair k c d t t
  fits-own k e = own k ((says-iff k).0 e)

  pub fits-pairs : v <ℤ t → (k : Alignment) → Pair k c d v v → fits k (c v) (d v) (c t) (d t) ≡ true → Pairs k c d v t
  fits-pairs l k o e =
      let h = (says-iff k).0 e in
      record { there = there l k o h; back = back l k o h; one = o; other = own k h }

  pub pairs-fit : v ≤ℤ t → (k : Alignment) → Pairs k c d v t → fits k (c v) (d v) (c t) (d t) ≡ true
  pairs-fit l k h = (says-iff k).1 (said l k h)
