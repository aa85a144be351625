-- Two calendars that repeat with one period: how they are aligned, told by pairs of instants at most a period apart.
use mathlib.Core.Path.{◌≡◌, refl, sym, ◌∙◌, ap}
use mathlib.Core.Logic.{◌↔◌, ◌⊎◌, inl, inr}
use mathlib.Core.Option.{some}
use Prim.Native.Nat.{ℕ, ◌≤◌}
use native.Mathlib.Omega.{arith}
use lib.IntN.{ℤ, pos, neg_ℤ, ◌+ℤ◌, ◌-ℤ◌, ◌*ℤ◌}
use lib.Signed.{◌≤ℤ◌, ◌<ℤ◌}
use Rattle.integers.specs.Floor.{floor_div}
use Rattle.integers.proofs.Linear.{ints, ◌∴◌}
use Rattle.integers.proofs.Order.{le-or-lt, ≤ℤ-antisym, mul-nonneg}
use Rattle.integers.proofs.Floor.{floor-eq, floor-lt, le-floor}
use Rattle.calendar.specs.Meaning.{Calendar, Ordered, Repeats, raise}
use Rattle.calendar.specs.Algebra.{Partition, Subcalendar, Compatible}
use Rattle.granules.proofs.Calendars.{raise-some, repeats_many, label-moved, granule-near}
use Rattle.algebra.proofs.Everywhere.{Near}

-- ---- what each alignment says of two instants

pub record PartitionAt (c d : Calendar) (t u : ℤ) : Type 0 where
  pub labelled : ((j : ℤ) × (c t ≡ some j)) ↔ ((i : ℤ) × (d t ≡ some i))
  pub together : (j : ℤ) → c t ≡ some j → c u ≡ some j → d t ≡ d u

pub record SubcalendarAt (c d : Calendar) (t u j : ℤ) : Type 0 where
  pub here : c t ≡ some j
  pub there : c u ≡ some j → d u ≡ some j

-- c has the label i at t, and d the label j at u
pub record CompatibleAt (c d : Calendar) (t u i j : ℤ) : Type 0 where
  pub before : t ≤ℤ u → i ≤ℤ j
  pub behind : u ≤ℤ t → j ≤ℤ i
  pub shared : i ≡ j → (d t ≡ some i) × (c u ≡ some i)

abbrev pub SubcalendarPair : Calendar → Calendar → ℤ → ℤ → Type 0
SubcalendarPair c d t u = (j : ℤ) → d t ≡ some j → SubcalendarAt c d t u j

abbrev pub CompatiblePair : Calendar → Calendar → ℤ → ℤ → Type 0
CompatiblePair c d t u = (i : ℤ) → c t ≡ some i → (j : ℤ) → d u ≡ some j → CompatibleAt c d t u i j

-- ---- moved by whole periods

-- a label, k periods on
moved-iff : (c : Calendar) (S N : ℕ) → Repeats S N c → (k t j : ℤ) → (c (t +ℤ pos S *ℤ k) ≡ some j) ↔ (c t ≡ some (j -ℤ pos N *ℤ k))
moved-iff c S N r k t j =
    let p = raise-some (pos N *ℤ k) j (c t) in
    (λ e. p.0 (sym (repeats_many c S N r k t) ∙ e), λ e. repeats_many c S N r k t ∙ p.1 e)

pub partition-moves : (c d : Calendar) (S A B : ℕ) → Repeats S A c → Repeats S B d
    → (k t u : ℤ) → PartitionAt c d t u → PartitionAt c d (t +ℤ pos S *ℤ k) (u +ℤ pos S *ℤ k)
partition-moves c d S A B rc rd k t u h = record {
  labelled = (
    λ p. let q = h.labelled.0 (p.0 -ℤ pos A *ℤ k, (moved-iff c S A rc k t p.0).0 p.1) in
        (q.0 +ℤ pos B *ℤ k, label-moved d S B rd k t q.0 q.1),
    λ p. let q = h.labelled.1 (p.0 -ℤ pos B *ℤ k, (moved-iff d S B rd k t p.0).0 p.1) in
        (q.0 +ℤ pos A *ℤ k, label-moved c S A rc k t q.0 q.1),
  );
  together = λ j e f.
      repeats_many d S B rd k t
      ∙ ap (raise (pos B *ℤ k)) (h.together (j -ℤ pos A *ℤ k) ((moved-iff c S A rc k t j).0 e) ((moved-iff c S A rc k u j).0 f))
      ∙ sym (repeats_many d S B rd k u);
}

-- ---- where the labels rise alike

module _ (c d : Calendar) (S N : ℕ) (rc : Repeats S N c) (rd : Repeats S N d) where
  pub subcalendar-moves : (k t u : ℤ) → SubcalendarPair c d t u → SubcalendarPair c d (t +ℤ pos S *ℤ k) (u +ℤ pos S *ℤ k)
  subcalendar-moves k t u h j e =
      let p = h (j -ℤ pos N *ℤ k) ((moved-iff d S N rd k t j).0 e) in
      record {
        here = (moved-iff c S N rc k t j).1 p.here;
        there = λ f. (moved-iff d S N rd k u j).1 (p.there ((moved-iff c S N rc k u j).0 f));
      }

  pub compatible-moves : (k t u : ℤ) → CompatiblePair c d t u → CompatiblePair c d (t +ℤ pos S *ℤ k) (u +ℤ pos S *ℤ k)
  compatible-moves k t u h i e j f =
      let p = h (i -ℤ pos N *ℤ k) ((moved-iff c S N rc k t i).0 e) (j -ℤ pos N *ℤ k) ((moved-iff d S N rd k u j).0 f) in
      record {
        before = λ l. p.before (l ∴ simp ints (omega arith)) ∴ simp ints (omega arith);
        behind = λ l. p.behind (l ∴ simp ints (omega arith)) ∴ simp ints (omega arith);
        shared = λ q.
            let s = p.shared (ap (λ (z : ℤ). z -ℤ pos N *ℤ k) q) in
            ((moved-iff d S N rd k t i).1 s.0, (moved-iff c S N rc k u i).1 s.1);
      }

-- ---- all instants

-- two instants of one granule are near
granule-pair : (c : Calendar) (S N : ℕ) → 1 ≤ N → Repeats S N c → Ordered c → (t u j : ℤ) → c t ≡ some j → c u ≡ some j → Near S t u
granule-pair c S N above r o t u j e f =
    granule-near c S N r above o t u j e f ∴ granule-near c S N r above o u t j f e ∴ simp ints (omega arith)

pub partition-iff : (c d : Calendar) (S N : ℕ) → 1 ≤ N → Repeats S N c → Ordered c → ((t u : ℤ) → Near S t u → PartitionAt c d t u) ↔ Partition c d
partition-iff c d S N above r o = (
  λ h. record {
    labelled = λ t. (h t t (simp ints (omega arith))).labelled;
    holder = λ j p.
        let q = (h p.0 p.0 (simp ints (omega arith))).labelled.0 (j, p.1) in
        (q.0, λ u e. sym ((h p.0 u (granule-pair c S N above r o p.0 u j p.1 e)).together j p.1 e) ∙ q.1);
  },
  λ h t u n. record {
    labelled = h.labelled t;
    together = λ j e f. let p = h.holder j (t, e) in p.1 t e ∙ sym (p.1 u f);
  },
)

pub subcalendar-iff : (c d : Calendar) (S N : ℕ) → 1 ≤ N → Repeats S N c → Ordered c → ((t u : ℤ) → Near S t u → SubcalendarPair c d t u) ↔ Subcalendar c d
subcalendar-iff c d S N above r o = (there, λ h t u n j e. record { here = (h j (t, e) t).0 e; there = (h j (t, e) u).1 })
  where
    there : ((t u : ℤ) → Near S t u → SubcalendarPair c d t u) → Subcalendar c d
    there h j p t = (
      λ e. (h t t (simp ints (omega arith)) j e).here,
      λ e.
          let first = (h p.0 p.0 (simp ints (omega arith)) j p.1).here in
          (h p.0 t (granule-pair c S N above r o p.0 t j first e) j p.1).there e,
    )

-- a later instant, less whole periods, is at most a period later; and its label there is no higher
module _ (c : Calendar) (S N : ℕ) (above : 1 ≤ S) (r : Repeats S N c) where
  earlier-copy : (s t j : ℤ) → s ≤ℤ t → c t ≡ some j → (u : ℤ) × (i : ℤ) × (s ≤ℤ u) × (u ≤ℤ (s +ℤ pos S)) × (c u ≡ some i) × (i ≤ℤ j)
  earlier-copy s t j l e =
      let k = floor_div (t -ℤ s) S in
      let q = floor-eq S above (t -ℤ s) in
      let m = mul-nonneg {a = pos N} (simp ints (omega arith)) ((le-floor S above (pos 0) (t -ℤ s)).1 (l ∴ simp ints (omega arith))) in (
        t +ℤ pos S *ℤ neg_ℤ k,
        j +ℤ pos N *ℤ neg_ℤ k,
        q ∴ simp ints (omega arith),
        q ∴ floor-lt S above (t -ℤ s) ∴ simp ints (omega arith),
        label-moved c S N r (neg_ℤ k) t j e,
        m ∴ simp ints (omega arith),
      )

module _ (c d : Calendar) (S N : ℕ) (above : 1 ≤ S) (rises : 1 ≤ N) (rc : Repeats S N c) (rd : Repeats S N d) where
  module _ (h : (t u : ℤ) → Near S t u → CompatiblePair c d t u) where
    -- all labels of both together never fall
    in_order : (s t i j : ℤ) → s ≤ℤ t → c s ≡ some i → d t ≡ some j → i ≤ℤ j
    in_order s t i j l e f =
        let p = earlier-copy d S N above rd s t j l f in
        (h s p.0 (p.2 ∴ p.3 ∴ simp ints (omega arith)) i e p.1 p.4).before p.2 ∴ p.5 ∴ simp ints (omega arith)

    in-order-back : (s t i j : ℤ) → s ≤ℤ t → d s ≡ some i → c t ≡ some j → i ≤ℤ j
    in-order-back s t i j l e f =
        let p = earlier-copy c S N above rc s t j l f in
        (h p.0 s (p.2 ∴ p.3 ∴ simp ints (omega arith)) p.1 p.4 i e).behind p.2 ∴ p.5 ∴ simp ints (omega arith)

    -- instants of a shared label are near
    shared-near : (t u j : ℤ) → c t ≡ some j → d u ≡ some j → Near S t u
    shared-near t u j e f = by (le-or-lt (t +ℤ pos S) u) (le-or-lt (u +ℤ pos S) t)
      where
        by : ((t +ℤ pos S) ≤ℤ u) ⊎ (u <ℤ (t +ℤ pos S)) → ((u +ℤ pos S) ≤ℤ t) ⊎ (t <ℤ (u +ℤ pos S)) → Near S t u
        by (inl l) q = absurd (in_order (t +ℤ pos S) u (j +ℤ pos N) j l (rc t ∙ ap (raise (pos N)) e) f ∴ rises ∴ simp ints (omega arith))
        by (inr l) (inl m) = absurd (in-order-back (u +ℤ pos S) t (j +ℤ pos N) j m (rd u ∙ ap (raise (pos N)) f) e ∴ rises ∴ simp ints (omega arith))
        by (inr l) (inr m) = l ∴ m ∴ simp ints (omega arith)

    shares : (t u j : ℤ) → c t ≡ some j → d u ≡ some j → (d t ≡ some j) × (c u ≡ some j)
    shares t u j e f = (h t u (shared-near t u j e f) j e j f).shared refl

  pub compatible-iff : ((t u : ℤ) → Near S t u → CompatiblePair c d t u) ↔ Compatible c d
  compatible-iff = (
    λ h. record {
      shared = λ j p q t. (λ e. (shares h t q.0 j e q.1).0, λ e. (shares h p.0 t j p.1 e).1);
      single = λ t i j e f. ≤ℤ-antisym (in_order h t t i j (simp ints (omega arith)) e f) (in-order-back h t t j i (simp ints (omega arith)) f e);
      ordered = λ s t i j l. (in_order h s t i j l, in-order-back h s t i j l);
    },
    λ h t u n i e j f. record {
      before = λ l. (h.ordered t u i j l).0 e f;
      behind = λ l. (h.ordered u t j i l).1 f e;
      shared = λ q. let g = f ∙ ap some (sym q) in ((h.shared i (t, e) (u, g) t).0 e, (h.shared i (t, e) (u, g) u).1 g);
    },
  )
