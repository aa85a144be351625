-- Laws of alter.
use mathlib.Core.Path.{◌≡◌, sym, ◌∙◌, ap, subst, subst₂}
use mathlib.Core.Logic.Iff
use mathlib.Core.Logic.{◌↔◌, ◌⊎◌, inl, inr}
use mathlib.Core.Option.{Option, some}
use Prim.Native.Nat.{ℕ}
use native.Mathlib.Omega.{arith}
use lib.IntN.{ℤ, pos, neg_ℤ}
use lib.Signed.{◌≤ℤ◌, ◌<ℤ◌}
use Rattle.integers.proofs.Linear.{ints, ◌∴◌}
use Rattle.integers.proofs.Order.{le-or-lt, ≤ℤ-antisym, <ℤ→≤ℤ}
use Rattle.calendar.specs.Meaning.{Calendar, Full, Same, Ordered}
use Rattle.calendar.specs.Operation.Binary.{alter}
use Rattle.calendar.specs.Operation.Operation.{binary}
use Rattle.calendar.specs.Algebra.{Spans, altered_first, altered_last, Result, Partition, Emptied}
use Rattle.granules.proofs.Tests.{some_inj, label-ext}
use Rattle.algebra.proofs.Fine.{spans-unique}
use Rattle.laws.proofs.Intermediate.{level}

-- ---- the granules of a in a granule of b

module _ (a b : Calendar) (full : Full a) (over : Partition a b) where
  -- the label of b's granule that holds a's granule j
  abbrev holding : ℤ → ℤ
  holding j = (over.holder j (full j)).0

  held : (t j : ℤ) → a t ≡ some j → b t ≡ some (holding j)
  held t j = (over.holder j (full j)).1 t

  holding-is : (t i : ℤ) → b t ≡ some i → (j : ℤ) × (a t ≡ some j) × (holding j ≡ i)
  holding-is t i e =
      let h = (over.labelled t).1 (i, e) in
      (h.0, h.1, some_inj (sym (held t h.0 h.1) ∙ e))

  holding-mono : Ordered a → Ordered b → (j k : ℤ) → j ≤ℤ k → holding j ≤ℤ holding k
  holding-mono oa ob j k l = by (le-or-lt s t)
    where
      s : ℤ
      s = (full j).0

      t : ℤ
      t = (full k).0

      by : (s ≤ℤ t) ⊎ (t <ℤ s) → holding j ≤ℤ holding k
      by (inl o) = ob s t (holding j) (holding k) o (held s j (full j).1) (held t k (full k).1)
      by (inr o) =
          let e = ≤ℤ-antisym l (oa t s k j (<ℤ→≤ℤ o) (full k).1 (full j).1) in
          ap holding e ∴ simp ints (omega arith)

  -- each granule of b is some granules of a in a row
  pub spans-exist : Ordered a → Ordered b → Full b → (i : ℤ) → (p : ℤ) × (q : ℤ) × Spans a b i p q
  spans-exist oa ob fb i = (
    l.0,
    l.1,
    (
      l.2,
      λ u. (
        λ e. let h = holding-is u i e in
            let k = (l.3 h.0).0 h.2 in
            (h.0, h.1, k.0, k.1),
        λ h. held u h.0 h.1 ∙ ap {B = Option ℤ} some ((l.3 h.0).1 (h.2, h.3)),
      ),
    ),
  )
    where
      onto : (k : ℤ) → (j : ℤ) × (holding j ≡ k)
      onto k = let h = holding-is (fb k).0 k (fb k).1 in (h.0, h.2)

      l : (p : ℤ) × (q : ℤ) × (p ≤ℤ q) × ((j : ℤ) → (holding j ≡ i) ↔ ((p ≤ℤ j) × (j ≤ℤ q)))
      l = level holding (holding-mono oa ob) onto i

-- ---- the ends of an altered granule

first-zero : (x y : ℕ) (i p : ℤ) → altered_first x y (pos 0) i p ≡ p
first-zero x y i p = simp ints (omega arith)

last-zero : (x y : ℕ) (i q : ℤ) → altered_last x y (pos 0) i q ≡ q
last-zero x y i q = simp ints (omega arith)

first_back : (x y : ℕ) (z i p : ℤ) → altered_first x y (neg_ℤ z) i (altered_first x y z i p) ≡ p
first_back x y z i p = simp ints (omega arith)

last-back : (x y : ℕ) (z i q : ℤ) → altered_last x y (neg_ℤ z) i (altered_last x y z i q) ≡ q
last-back x y z i q = simp ints (omega arith)

module _ (x y : ℕ) (z : ℤ) (a b c : Calendar) (full : Full a) (C : Result (binary (alter x y z) a b) c) where
  -- the instants of the altered granule i
  pub altered : (i p q : ℤ) → Spans a b i p q → (t : ℤ)
      → (c t ≡ some i) ↔ ((j : ℤ) × (a t ≡ some j) × (altered_first x y z i p ≤ℤ j) × (j ≤ℤ altered_last x y z i q))
  altered i p q S t = (there, λ h. (C t i).1 (h.0, h.1, (p, q, S, h.2, h.3)))
    where
      there : c t ≡ some i → (j : ℤ) × (a t ≡ some j) × (altered_first x y z i p ≤ℤ j) × (j ≤ℤ altered_last x y z i q)
      there e =
          let (j, f, (p', q', T, l, m)) = (C t i).0 e in
          let u = spans-unique a b full i p' q' p q T S in
          (j, f, subst (λ (k : ℤ). altered_first x y z i k ≤ℤ j) u.0 l, subst (λ (k : ℤ). j ≤ℤ altered_last x y z i k) u.1 m)

  -- the result is the calendar whose granules have the altered ends
  pub altered-same : (d : Calendar) → ((i : ℤ) → (p : ℤ) × (q : ℤ) × Spans a b i p q × Spans a d i (altered_first x y z i p) (altered_last x y z i q)) → Same c d
  altered-same d s t = label-ext λ i.
      let (p, q, S, T) = s i in
      Iff.trans (altered i p q S t) (Iff.symm (T.1 t))

  -- no granule is left empty
  pub altered-spans : ¬ Emptied (binary (alter x y z) a b) → (i p q : ℤ) → Spans a b i p q → Spans a c i (altered_first x y z i p) (altered_last x y z i q)
  altered-spans kept i p q S = (by (le-or-lt (altered_first x y z i p) (altered_last x y z i q)), altered i p q S)
    where
      by : (altered_first x y z i p ≤ℤ altered_last x y z i q) ⊎ (altered_last x y z i q <ℤ altered_first x y z i p) → altered_first x y z i p ≤ℤ altered_last x y z i q
      by (inl l) = l
      by (inr l) = absurd (kept (i, p, q, S, l))

-- ---- the laws

pub alter-zero : (x y : ℕ) (a b c : Calendar) → Full a → Full b → Ordered a → Ordered b → Partition a b → Result (binary (alter x y (pos 0)) a b) c → Same c b
alter-zero x y a b c fa fb oa ob over C = altered-same x y (pos 0) a b c fa C b λ i.
    let (p, q, S) = spans-exist a b fa over oa ob fb i in
    (p, q, S, subst₂ (Spans a b i) (sym (first-zero x y i p)) (sym (last-zero x y i q)) S)

pub alter-back : (x y : ℕ) (z : ℤ) (a b d c : Calendar) → Full a → Full d → ¬ Emptied (binary (alter x y z) a b)
    → Result (binary (alter x y z) a b) d → Result (binary (alter x y (neg_ℤ z)) a d) c → Same c b
alter-back x y z a b d c fa fd kept D C = altered-same x y (neg_ℤ z) a d c fa C b λ i.
    let (t, e) = fd i in
    let (j, f, (p, q, S, l, m)) = (D t i).0 e in (
      altered_first x y z i p,
      altered_last x y z i q,
      altered-spans x y z a b d fa D kept i p q S,
      subst₂ (Spans a b i) (sym (first_back x y z i p)) (sym (last-back x y z i q)) S,
    )
