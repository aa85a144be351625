-- The three selections: granules of a that are kept.
use mathlib.Core.Path.{◌≡◌, refl, sym, ◌∙◌, ap, subst}
use mathlib.Core.Logic.{◌↔◌}
use mathlib.Core.Bool.{Bool, true, ◌||◌}
use mathlib.Core.List.{List, [], ◌∷◌, Memᴰ}
use Prim.Native.Nat.{ℕ, ◌*◌, ◌/◌}
use native.Mathlib.Omega.{arith}
use lib.IntN.{ℤ, pos, ◌+ℤ◌}
use Rattle.integers.proofs.Linear.{ints, ◌∴◌}
use Rattle.calendar.specs.Meaning.{Row, meant, Has, Meets, Inside}
use Rattle.calendar.specs.Operation.{Selection}
use Rattle.calendar.specs.Operation.Selection.{select-down, select-up, select-intersecting}
use Rattle.calendar.specs.Operation.Binary.{select}
use Rattle.calendar.specs.Operation.Operation.{binary}
use Rattle.calendar.specs.Algebra.{Lists, Picked, Selects, pick}
use Rattle.calendar.specs.Lists.{any, equal}
use Rattle.calendar.specs.Granules.{inside, meeting, within}
use Rattle.calendar.specs.Size.{turn, span_of, rise}
use Rattle.calendar.specs.Distance.{size}
use Rattle.calendar.specs.Compute.{result, selects}
use Rattle.granules.specs.Valid.{Valid}
use Rattle.granules.proofs.Tests.{test-ext, equal-iff}
use Rattle.granules.proofs.Lists.{any-iff, member-iff, lists-unique, moved}
use Rattle.granules.proofs.Inside.{inside-iff, meeting-lists, within-lists}
use Rattle.granules.proofs.Moved.{meeting-periods, within-periods, inside-periods}
use Rattle.algebra.specs.Ready.{Ready, Right}
use Rattle.algebra.proofs.Span.{span-positive, span_left, span_right, rise-positive, repeats-left}
use Rattle.algebra.proofs.Kept.{kept-iff, kept-ordered, kept-repeats}
use Rattle.algebra.proofs.Pick.{pick-member, pick-moved}

-- ---- tests over lists that are moved

any-moved : (f g : ℤ → Bool) (k : ℤ) → ((u : ℤ) → f (u +ℤ k) ≡ g u) → (l : List ℤ) → any f (moved k l) ≡ any g l
any-moved f g k h [] = refl
any-moved f g k h (x ∷ l) = ap (λ (b : Bool). b || any f (moved k l)) (h x) ∙ ap (λ (b : Bool). g x || b) (any-moved f g k h l)

equal-moved : (j k u : ℤ) → equal (j +ℤ k) (u +ℤ k) ≡ equal j u
equal-moved j k u =
    test-ext
    (λ e. (equal-iff j u).1 ((equal-iff (j +ℤ k) (u +ℤ k)).0 e ∴ simp ints (omega arith)))
    (λ e. (equal-iff (j +ℤ k) (u +ℤ k)).1 ((equal-iff j u).0 e ∴ simp ints (omega arith)))

module _ (a b : Row) (va : Valid a) (vb : Valid b) where
  -- ---- what is searched suffices

  -- a granule j that is picked from a set of granules that meet i is found among the i that meet j
  picked-iff : (x : ℤ) (y : ℕ) (S : ℤ → ℤ → Type 0) (f : ℤ → List ℤ) → ((i : ℤ) → Lists (S i) (f i)) → ((i j : ℤ) → S i j → Meets (meant b) i (meant a) j)
      → (j : ℤ) → (any (λ i. any (equal j) (pick x y (f i))) (meeting b a j) ≡ true) ↔ ((i : ℤ) × Has (meant b) i × Picked x y (S i) j)
  picked-iff x y S f lists meets j =
      let m = meeting-lists b a vb va j in (
        λ e.
            let h = (any-iff (λ i. any (equal j) (pick x y (f i))) (meeting b a j)).0 e in
            let s = (m.member h.0).1 h.1 in
            (h.0, (s.0, s.1), (f h.0, lists h.0, (member-iff j (pick x y (f h.0))).0 h.2)),
        λ h.
            let i = h.0 in
            let p = h.2.2 in
            let q = lists-unique h.2.0 (f i) h.2.1 (lists i) in
            (any-iff (λ i. any (equal j) (pick x y (f i))) (meeting b a j)).1 (
              i,
              (m.member i).0 (meets i j ((h.2.1.member j).1 (pick-member x y h.2.0 j p))),
              (member-iff j (pick x y (f i))).1 (subst (λ (l : List ℤ). Memᴰ j (pick x y l)) q p),
            ),
      )

  pub selects-iff : (s : Selection) (j : ℤ) → (selects s a b j ≡ true) ↔ Selects s (meant a) (meant b) j
  selects-iff (select-down x y) j = picked-iff x y (λ i k. Has (meant a) k × Inside (meant a) k (meant b) i) (within a b) (within-lists a b va vb)
      (λ i j h. (h.0.0, h.1 h.0.0 h.0.1, h.0.1)) j
  selects-iff select-up j =
      let m = meeting-lists b a vb va j in (
        λ e.
            let h = (any-iff (λ k. inside b k a j) (meeting b a j)).0 e in
            let s = (m.member h.0).1 h.1 in
            (h.0, (s.0, s.1), (inside-iff b a vb h.0 j).0 h.2),
        λ h. (any-iff (λ k. inside b k a j) (meeting b a j)).1 (
          h.0,
          (m.member h.0).0 (h.1.0, h.1.1, h.2 h.1.0 h.1.1),
          (inside-iff b a vb h.0 j).1 h.2,
        ),
      )
  selects-iff (select-intersecting x y) j = picked-iff x y (λ i k. Meets (meant a) k (meant b) i) (meeting a b) (meeting-lists a b va vb)
      (λ i j h. (h.0, h.2, h.1)) j

  -- ---- m periods of a, which are n periods of b, on
  module _ (m n : ℕ) (e : a.period * m ≡ b.period * n) where
    picked-moved : (x : ℤ) (y : ℕ) (f : ℤ → List ℤ) → ((i : ℤ) → f (i +ℤ pos (b.distance * n)) ≡ moved (pos (a.distance * m)) (f i)) → (j : ℤ)
        → any (λ i. any (equal (j +ℤ pos (a.distance * m))) (pick x y (f i))) (meeting b a (j +ℤ pos (a.distance * m)))
        ≡ any (λ i. any (equal j) (pick x y (f i))) (meeting b a j)
    picked-moved x y f h j =
        let k = pos (a.distance * m) in
        ap (any (λ i. any (equal (j +ℤ k)) (pick x y (f i)))) (meeting-periods b a vb va n m (sym e) j)
        ∙ any-moved (λ i. any (equal (j +ℤ k)) (pick x y (f i))) (λ i. any (equal j) (pick x y (f i))) (pos (b.distance * n))
        (λ i.
        ap (λ (l : List ℤ). any (equal (j +ℤ k)) (pick x y l)) (h i)
        ∙ ap (any (equal (j +ℤ k))) (pick-moved x y k (f i))
        ∙ any-moved (equal (j +ℤ k)) (equal j) k (equal-moved j k) (pick x y (f i)))
        (meeting b a j)

    pub selects-moved : (s : Selection) (j : ℤ) → selects s a b (j +ℤ pos (a.distance * m)) ≡ selects s a b j
    selects-moved (select-down x y) j = picked-moved x y (within a b) (within-periods a b va vb m n e) j
    selects-moved select-up j =
        let k = pos (a.distance * m) in
        ap (any (λ i. inside b i a (j +ℤ k))) (meeting-periods b a vb va n m (sym e) j)
        ∙ any-moved (λ i. inside b i a (j +ℤ k)) (λ i. inside b i a j) (pos (b.distance * n)) (λ i. inside-periods b a vb va n m (sym e) i j) (meeting b a j)
    selects-moved (select-intersecting x y) j = picked-moved x y (meeting a b) (meeting-periods a b va vb m n e) j

pub select-right : (s : Selection) (a b : Row) → Ready (binary (select s) a b) → Right (binary (select s) a b)
unfolding result size
select-right s a b h =
    let va = h.valid.0 in
    let vb = h.valid.1 in
    let S = span_of (turn a) (turn b) in
    let k = selects s a b in
    record {
      labels = λ t j.
          let p = kept-iff (meant a) k t j in
          let q = selects-iff a b va vb s j in
          (λ e. ((p.0 e).0, q.0 (p.0 e).1), λ e. p.1 (e.0, q.1 e.1));
      ordered = kept-ordered (meant a) k va.ordered;
      repeats = kept-repeats (meant a) k S (rise (turn a) S) (repeats-left a b va vb)
          (selects-moved a b va vb (S / a.period) (S / b.period) (span_left a b va vb ∙ sym (span_right a b va vb)) s);
      positive = (span-positive a b va vb, rise-positive a b va vb);
    }
