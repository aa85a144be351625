-- Two calendars that repeat with one period: an alignment told by the pairs of instants of one period, each by way of a labelled one.
-- Assumes nothing.
use mathlib.Core.Path.{◌≡◌, sym, ◌∙◌, ap, subst, subst₂}
use mathlib.Core.Logic.{◌↔◌, ◌⊎◌, inl, inr}
use mathlib.Core.Option.{none, some}
use Prim.Native.Nat.{ℕ, ◌≤◌}
use native.Mathlib.Omega.{arith}
use lib.IntN.{ℤ, pos, ◌+ℤ◌, ◌-ℤ◌, ◌*ℤ◌}
use lib.Signed.{◌≤ℤ◌, ◌<ℤ◌}
use Rattle.integers.specs.Floor.{floor_div}
use Rattle.integers.proofs.Linear.{ints, ◌∴◌}
use Rattle.integers.proofs.Order.{le-or-lt, ≤ℤ-antisym, <ℤ→≤ℤ}
use Rattle.integers.proofs.Floor.{floor-eq, floor-lt}
use Rattle.calendar.specs.Meaning.{Calendar, Ordered, Repeats}
use Rattle.calendar.specs.Operation.{Alignment}
use Rattle.calendar.specs.Operation.Alignment.{free, partition, subcalendar, compatible}
use Rattle.calendar.specs.Algebra.{AlignedAs}
use Rattle.granules.proofs.Tests.{none≢some}
use Rattle.granules.proofs.Calendars.{label-moved}
use Rattle.algebra.proofs.Everywhere.{Near}
use Rattle.algebra.proofs.Alignments.{PartitionAt, SubcalendarPair, CompatibleAt, CompatiblePair, partition-moves, subcalendar-moves, compatible-moves, partition-iff, subcalendar-iff, compatible-iff}

-- what an alignment says of two instants
abbrev pub Pair : Alignment → Calendar → Calendar → ℤ → ℤ → Type 0
Pair free c d t u = Unit {0}
Pair partition c d t u = PartitionAt c d t u
Pair subcalendar c d t u = SubcalendarPair c d t u
Pair compatible c d t u = CompatiblePair c d t u

-- of both, either way and each with itself
pub record Pairs (k : Alignment) (c d : Calendar) (t u : ℤ) : Type 0 where
  pub there : Pair k c d t u
  pub back : Pair k c d u t
  pub one : Pair k c d t t
  pub other : Pair k c d u u

-- the labels rise alike, where an alignment asks it
abbrev pub Alike : Alignment → ℕ → ℕ → Type 0
Alike free A B = Unit {0}
Alike partition A B = Unit {0}
Alike subcalendar A B = A ≡ B
Alike compatible A B = A ≡ B

-- an instant that has a label in one of the two, and one that has none
abbrev pub Labelled : Calendar → Calendar → ℤ → Type 0
Labelled c d t = ((j : ℤ) × (c t ≡ some j)) ⊎ ((j : ℤ) × (d t ≡ some j))

abbrev pub Unlabelled : Calendar → Calendar → ℤ → Type 0
Unlabelled c d t = (c t ≡ none) × (d t ≡ none)

-- ---- an instant without a label

module _ (c d : Calendar) (t u : ℤ) (e : Unlabelled c d u) where
  unlabelled-there : (k : Alignment) → Pair k c d t t → Pair k c d t u
  unlabelled-there free h = tt
  unlabelled-there partition h = record { labelled = h.labelled; together = λ j p q. absurd (none≢some (sym e.0 ∙ q)) }
  unlabelled-there subcalendar h = λ j p. record { here = (h j p).here; there = λ q. absurd (none≢some (sym e.0 ∙ q)) }
  unlabelled-there compatible h = λ i p j q. absurd (none≢some (sym e.1 ∙ q))

  unlabelled-back : (k : Alignment) → Pair k c d u t
  unlabelled-back free = tt
  unlabelled-back partition = record {
    labelled = (λ p. absurd (none≢some (sym e.0 ∙ p.1)), λ p. absurd (none≢some (sym e.1 ∙ p.1)));
    together = λ j p q. absurd (none≢some (sym e.0 ∙ p));
  }
  unlabelled-back subcalendar = λ j p. absurd (none≢some (sym e.1 ∙ p))
  unlabelled-back compatible = λ i p j q. absurd (none≢some (sym e.0 ∙ p))

pub pairs-unlabelled : (k : Alignment) (c d : Calendar) (t u : ℤ) → Unlabelled c d u → Pair k c d t t → Pairs k c d t u
pairs-unlabelled k c d t u e h = record {
  there = unlabelled-there c d t u e k h;
  back = unlabelled-back c d t u e k;
  one = h;
  other = unlabelled-back c d u u e k;
}

pub pairs-turned : (k : Alignment) (c d : Calendar) (t u : ℤ) → Pairs k c d t u → Pairs k c d u t
pairs-turned k c d t u h = record { there = h.back; back = h.there; one = h.other; other = h.one }

-- ---- by way of a labelled instant v

-- where t and u have one label of c, v has it
abbrev Amid : Calendar → ℤ → ℤ → ℤ → Type 0
Amid c t v u = (i j : ℤ) → c t ≡ some j → c v ≡ some i → c u ≡ some j → i ≡ j

module _ (c d : Calendar) (t v u : ℤ) (m : Amid c t v u) (l : Labelled c d v) where
  partition-through : PartitionAt c d t v → PartitionAt c d v u → PartitionAt c d t u
  partition-through h g = record { labelled = h.labelled; together = λ j p q. by j p q l }
    where
      along : (j i : ℤ) → c t ≡ some j → c u ≡ some j → c v ≡ some i → d t ≡ d u
      along j i p q r =
          let w : c v ≡ some j = r ∙ ap some (m i j p r q) in
          h.together j p w ∙ g.together j w q

      by : (j : ℤ) → c t ≡ some j → c u ≡ some j → Labelled c d v → d t ≡ d u
      by j p q (inl r) = along j r.0 p q r.1
      by j p q (inr r) = let w = g.labelled.1 r in along j w.0 p q w.1

  subcalendar-through : SubcalendarPair c d t v → SubcalendarPair c d v v → SubcalendarPair c d v u → SubcalendarPair c d t u
  subcalendar-through h o g j p = record { here = (h j p).here; there = λ q. by q l }
    where
      along : (i : ℤ) → c u ≡ some j → c v ≡ some i → d u ≡ some j
      along i q r =
          let w : c v ≡ some j = r ∙ ap some (m i j (h j p).here r q) in
          (g j ((h j p).there w)).there q

      by : c u ≡ some j → Labelled c d v → d u ≡ some j
      by q (inl r) = along r.0 q r.1
      by q (inr r) = along r.0 q (o r.0 r.1).here

-- from t through v to u, in this order
module _ (c d : Calendar) (oc : Ordered c) (od : Ordered d) (t v u : ℤ) (tv : t ≤ℤ v) (vu : v ≤ℤ u) (tu : t <ℤ u) (l : Labelled c d v) where
  compatible-through : CompatiblePair c d t v → CompatiblePair c d v u → CompatiblePair c d t u
  compatible-through h g i p j q = by l
    where
      by : Labelled c d v → CompatibleAt c d t u i j
      by (inl r) =
          let low : i ≤ℤ r.0 = oc t v i r.0 tv p r.1 in
          let w = g r.0 r.1 j q in
          let high : r.0 ≤ℤ j = w.before vu in
          record {
            before = λ _. low ∴ high ∴ simp ints (omega arith);
            behind = λ y. absurd (y ∴ tu ∴ simp ints (omega arith));
            shared = λ e.
                let s : r.0 ≡ j = low ∴ high ∴ e ∴ simp ints (omega arith) in
                let x = w.shared s in
                let y = (h i p r.0 x.0).shared (e ∙ sym s) in
                (y.0, x.1 ∙ ap some (s ∙ sym e));
          }
      by (inr r) =
          let w = h i p r.0 r.1 in
          let low : i ≤ℤ r.0 = w.before tv in
          let high : r.0 ≤ℤ j = od v u r.0 j vu r.1 q in
          record {
            before = λ _. low ∴ high ∴ simp ints (omega arith);
            behind = λ y. absurd (y ∴ tu ∴ simp ints (omega arith));
            shared = λ e.
                let s : i ≡ r.0 = low ∴ high ∴ e ∴ simp ints (omega arith) in
                let x = w.shared s in
                let y = (g i x.1 j q).shared e in
                (x.0, y.1);
          }

compatible-turned : (c d : Calendar) (t u : ℤ) → CompatiblePair c d t u → CompatiblePair d c u t
compatible-turned c d t u h j q i p =
    let w = h i p j q in
    record {
      before = w.behind;
      behind = w.before;
      shared = λ e. let x = w.shared (sym e) in (x.1 ∙ ap some (sym e), x.0 ∙ ap some (sym e));
    }

module _ (c d : Calendar) (oc : Ordered c) (od : Ordered d) (t v u : ℤ) (tv : t ≤ℤ v) (vu : v ≤ℤ u) (tu : t <ℤ u) (l : Labelled c d v) where
  amid : Amid c t v u
  amid i j p r q = ≤ℤ-antisym (oc v u i j vu r q) (oc t v j i tv p r)

  amid-back : Amid c u v t
  amid-back i j q r p = amid i j p r q

  turned : Labelled d c v
  turned = by l
    where
      by : Labelled c d v → Labelled d c v
      by (inl r) = inr r
      by (inr r) = inl r

  through : (k : Alignment) → Pairs k c d t v → Pairs k c d v u → Pair k c d t u × Pair k c d u t
  through free h g = (tt, tt)
  through partition h g = (partition-through c d t v u amid l h.there g.there, partition-through c d u v t amid-back l g.back h.back)
  through subcalendar h g = (
    subcalendar-through c d t v u amid l h.there h.other g.there,
    subcalendar-through c d u v t amid-back l g.back h.other h.back,
  )
  through compatible h g = (
    compatible-through c d oc od t v u tv vu tu l h.there g.there,
    compatible-turned d c t u (compatible-through d c od oc t v u tv vu tu turned (compatible-turned c d v t h.back) (compatible-turned c d u v g.back)),
  )

  pub pairs-through : (k : Alignment) → Pairs k c d t v → Pairs k c d v u → Pairs k c d t u
  pairs-through k h g = let p = through k h g in record { there = p.0; back = p.1; one = h.one; other = g.other }

-- ---- whole periods

module _ (c d : Calendar) (S A B : ℕ) (rc : Repeats S A c) (rd : Repeats S B d) where
  pair-moves : (k : Alignment) → Alike k A B → (n t u : ℤ) → Pair k c d t u → Pair k c d (t +ℤ pos S *ℤ n) (u +ℤ pos S *ℤ n)
  pair-moves free a n t u h = tt
  pair-moves partition a n t u h = partition-moves c d S A B rc rd n t u h
  pair-moves subcalendar a n t u h = subcalendar-moves c d S A rc (subst (λ (m : ℕ). Repeats S m d) (sym a) rd) n t u h
  pair-moves compatible a n t u h = compatible-moves c d S A rc (subst (λ (m : ℕ). Repeats S m d) (sym a) rd) n t u h

  pairs-move : (k : Alignment) → Alike k A B → (n t u : ℤ) → Pairs k c d t u → Pairs k c d (t +ℤ pos S *ℤ n) (u +ℤ pos S *ℤ n)
  pairs-move k a n t u h = record {
    there = pair-moves k a n t u h.there;
    back = pair-moves k a n u t h.back;
    one = pair-moves k a n t t h.one;
    other = pair-moves k a n u u h.other;
  }

  labelled-moves : (n t : ℤ) → Labelled c d t → Labelled c d (t +ℤ pos S *ℤ n)
  labelled-moves n t (inl p) = inl (p.0 +ℤ pos A *ℤ n, label-moved c S A rc n t p.0 p.1)
  labelled-moves n t (inr p) = inr (p.0 +ℤ pos B *ℤ n, label-moved d S B rd n t p.0 p.1)

  -- ---- all instants

  -- pairs of near instants tell the alignment
  pub aligned-iff-near : 1 ≤ S → 1 ≤ A → Ordered c → (k : Alignment) → Alike k A B → ((t u : ℤ) → Near S t u → Pair k c d t u) ↔ AlignedAs k c d
  aligned-iff-near above rises oc free a = (λ h. tt, λ h t u n. tt)
  aligned-iff-near above rises oc partition a = partition-iff c d S A rises rc oc
  aligned-iff-near above rises oc subcalendar a = subcalendar-iff c d S A rises rc oc
  aligned-iff-near above rises oc compatible a = compatible-iff c d S A above rises rc (subst (λ (m : ℕ). Repeats S m d) (sym a) rd)

  -- the pairs from a labelled instant f to f + S tell all near pairs
  module _ (above : 1 ≤ S) (oc : Ordered c) (od : Ordered d) (k : Alignment) (a : Alike k A B) (f : ℤ) (l : Labelled c d f)
      (h : (t u : ℤ) → f ≤ℤ t → t ≤ℤ u → u ≤ℤ (f +ℤ pos S) → Pairs k c d t u) where
    -- the first within the period
    from_first : (t u : ℤ) → f ≤ℤ t → t <ℤ (f +ℤ pos S) → t ≤ℤ u → u ≤ℤ (t +ℤ pos S) → Pairs k c d t u
    from_first t u low high tu near = by (le-or-lt u (f +ℤ pos S))
      where
        by : (u ≤ℤ (f +ℤ pos S)) ⊎ ((f +ℤ pos S) <ℤ u) → Pairs k c d t u
        by (inl q) = h t u low tu q
        by (inr q) =
            let v = f +ℤ pos S *ℤ pos 1 in
            let e : v ≡ f +ℤ pos S = simp ints (omega arith) in
            let w = u -ℤ pos S in
            let first = h t v low (e ∴ high ∴ simp ints (omega arith)) (e ∴ simp ints (omega arith)) in
            let second = pairs-move k a (pos 1) f w (h f w (simp ints (omega arith)) (q ∴ simp ints (omega arith)) (near ∴ high ∴ simp ints (omega arith))) in
            pairs-through c d oc od t v u (e ∴ high ∴ simp ints (omega arith)) (e ∴ q ∴ simp ints (omega arith)) (high ∴ q ∴ simp ints (omega arith)) (labelled-moves (pos 1) f l) k first
            (subst (λ (z : ℤ). Pairs k c d v z) (simp ints (omega arith)) second)

    rising : (t u : ℤ) → t ≤ℤ u → u ≤ℤ (t +ℤ pos S) → Pairs k c d t u
    rising t u tu near =
        let n = floor_div (t -ℤ f) S in
        let e = floor-eq S above (t -ℤ f) in
        let b = floor-lt S above (t -ℤ f) in
        let t₀ = t -ℤ pos S *ℤ n in
        let u₀ = u -ℤ pos S *ℤ n in
        let first = from_first t₀ u₀ (e ∴ simp ints (omega arith)) (e ∴ b ∴ simp ints (omega arith)) (tu ∴ simp ints (omega arith)) (near ∴ simp ints (omega arith)) in
        subst₂ (Pairs k c d) (simp ints (omega arith)) (simp ints (omega arith)) (pairs-move k a n t₀ u₀ first)

    pub near-pairs : (t u : ℤ) → Near S t u → Pair k c d t u
    near-pairs t u near = by (le-or-lt t u)
      where
        by : (t ≤ℤ u) ⊎ (u <ℤ t) → Pair k c d t u
        by (inl q) = (rising t u q near.1).there
        by (inr q) = (rising u t (<ℤ→≤ℤ q) (near.0 ∴ simp ints (omega arith))).back
