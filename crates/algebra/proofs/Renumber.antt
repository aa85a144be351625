-- Renumber: the new number of a label is the count of labels up to it, less that of the labels below x.
use mathlib.Core.Path.{◌≡◌, sym, ◌∙◌, ap}
use mathlib.Core.Logic.{◌↔◌, ◌⊎◌, inl, inr}
use mathlib.Core.Bool.{Bool, cond}
use mathlib.Core.List.{List, [], ◌∷◌}
use Prim.Native.Nat.{ℕ}
use native.Mathlib.Omega.{arith}
use lib.IntN.{ℤ, pos, ◌+ℤ◌, ◌-ℤ◌}
use lib.Signed.{◌≤ℤ◌, ◌<ℤ◌}
use lib.ListN.{length}
use Rattle.integers.specs.Parts.{up}
use Rattle.integers.proofs.Linear.{ints, ◌∴◌}
use Rattle.integers.proofs.Order.{le-or-lt, pos-up}
use Rattle.calendar.specs.Meaning.{Row, meant, Has}
use Rattle.calendar.specs.Operation.Unary.{renumber}
use Rattle.calendar.specs.Operation.Operation.{unary}
use Rattle.calendar.specs.Algebra.{Lists, Renumbered}
use Rattle.calendar.specs.Lists.{keep, from}
use Rattle.calendar.specs.Granules.{has, granules}
use Rattle.calendar.specs.Distance.{size}
use Rattle.calendar.specs.Compute.{renumbered, result}
use Rattle.granules.specs.Valid.{Valid}
use Rattle.granules.proofs.Tests.{le_z-iff, false-iff}
use Rattle.granules.proofs.Lists.{mem-from, mem-keep, rising-from, rising-keep, lists-unique}
use Rattle.granules.proofs.Rows.{meant-repeats}
use Rattle.granules.proofs.Instants.{has-iff}
use Rattle.granules.proofs.Count.{count, has-repeats, granules-window, granules-positive}
use Rattle.algebra.specs.Ready.{Ready, Right}
use Rattle.algebra.proofs.Totals.{total, total-next, total-window, total_mono}
use Rattle.algebra.proofs.Labels.{mapped-iff, mapped-ordered, mapped-repeats}

-- the labels from k to h
abbrev labels_to : Row → ℤ → ℤ → List ℤ
labels_to a k h = keep (has a) (from k (up (h -ℤ k +ℤ pos 1)))

number-above : (a : Row) (x j : ℤ) → x ≤ℤ j → renumbered a x j ≡ pos (length (labels_to a x j))
unfolding renumbered
number-above a x j h = ap (λ (b : Bool). cond b (pos (length (labels_to a x j))) (pos 1 -ℤ pos (length (labels_to a j (x -ℤ pos 1))))) ((le_z-iff x j).1 h)

number-below : (a : Row) (x j : ℤ) → j <ℤ x → renumbered a x j ≡ pos 1 -ℤ pos (length (labels_to a j (x -ℤ pos 1)))
unfolding renumbered
number-below a x j h =
    ap (λ (b : Bool). cond b (pos (length (labels_to a x j))) (pos 1 -ℤ pos (length (labels_to a j (x -ℤ pos 1)))))
    ((false-iff (le_z-iff x j)).1 (λ k. h ∴ k ∴ simp ints (omega arith)))

module _ (a : Row) (v : Valid a) where
  window-lists : (S : ℤ → Type 0) (k h : ℤ) (n : ℕ) → pos n ≡ h -ℤ k +ℤ pos 1
      → ((j : ℤ) → S j ↔ (Has (meant a) j × (k ≤ℤ j) × (j ≤ℤ h))) → Lists S (keep (has a) (from k n))
  window-lists S k h n width s = record {
    rising = rising-keep (has a) (from k n) (rising-from k n);
    member = λ j. (
      λ p.
          let q = (s j).0 p in
          (mem-keep (has a) j (from k n)).1 ((mem-from j k n).1 (q.1, width ∴ q.2 ∴ simp ints (omega arith)), (has-iff a v j).1 q.0),
      λ m.
          let q = (mem-keep (has a) j (from k n)).0 m in
          let b = (mem-from j k n).0 q.0 in
          (s j).1 ((has-iff a v j).0 q.1, b.0, width ∴ b.1 ∴ simp ints (omega arith)),
    );
  }

  labels_to-lists : (S : ℤ → Type 0) (k h : ℤ) → k ≤ℤ h → ((j : ℤ) → S j ↔ (Has (meant a) j × (k ≤ℤ j) × (j ≤ℤ h))) → Lists S (labels_to a k h)
  labels_to-lists S k h l = window-lists S k h (up (h -ℤ k +ℤ pos 1)) (pos-up (l ∴ simp ints (omega arith)))

  lists-above : (x j : ℤ) → x ≤ℤ j → Lists (λ k. Has (meant a) k × (x ≤ℤ k) × (k ≤ℤ j)) (labels_to a x j)
  lists-above x j h = labels_to-lists (λ k. Has (meant a) k × (x ≤ℤ k) × (k ≤ℤ j)) x j h (λ k. (λ p. p, λ p. p))

  lists-below : (x j : ℤ) → j <ℤ x → Lists (λ k. Has (meant a) k × (j ≤ℤ k) × (k <ℤ x)) (labels_to a j (x -ℤ pos 1))
  lists-below x j h =
      labels_to-lists (λ k. Has (meant a) k × (j ≤ℤ k) × (k <ℤ x)) j (x -ℤ pos 1) (h ∴ simp ints (omega arith))
      (λ k. (λ p. (p.0, p.1, p.2 ∴ simp ints (omega arith)), λ p. (p.0, p.1, p.2 ∴ simp ints (omega arith))))

  renumbered-iff : (x j i : ℤ) → Renumbered (meant a) x j i ↔ (i ≡ renumbered a x j)
  renumbered-iff x j i = (there, λ e. back e (le-or-lt x j))
    where
      there : Renumbered (meant a) x j i → i ≡ renumbered a x j
      there (inl (h, (l, s, e))) = e ∙ ap (λ (m : List ℤ). pos (length m)) (lists-unique l (labels_to a x j) s (lists-above x j h)) ∙ sym (number-above a x j h)
      there (inr (h, (l, s, e))) = e ∙ ap (λ (m : List ℤ). pos 1 -ℤ pos (length m)) (lists-unique l (labels_to a j (x -ℤ pos 1)) s (lists-below x j h)) ∙ sym (number-below a x j h)

      back : i ≡ renumbered a x j → (x ≤ℤ j) ⊎ (j <ℤ x) → Renumbered (meant a) x j i
      back e (inl h) = inl (h, (labels_to a x j, lists-above x j h, e ∙ number-above a x j h))
      back e (inr h) = inr (h, (labels_to a j (x -ℤ pos 1), lists-below x j h, e ∙ number-below a x j h))

  -- the labels from k to h, by totals
  labels_to-total : (k h : ℤ) → k ≤ℤ h → pos (length (labels_to a k h)) ≡ total (has a) (h +ℤ pos 1) -ℤ total (has a) k
  labels_to-total k h l =
      let n = up (h -ℤ k +ℤ pos 1) in
      let q = pos-up {z = h -ℤ k +ℤ pos 1} (l ∴ simp ints (omega arith)) in
      let e : k +ℤ pos n ≡ h +ℤ pos 1 = q ∴ simp ints (omega arith) in
      total-window (has a) k n ∴ ap (total (has a)) e ∴ simp ints (omega arith)

  -- a label is numbered by those up to it less those below x
  pub renumbered-total : (x j : ℤ) → Has (meant a) j → renumbered a x j ≡ total (has a) (j +ℤ pos 1) -ℤ total (has a) x
  renumbered-total x j p = by (le-or-lt x j)
    where
      one : count (has a) (j ∷ []) ≡ 1
      one = ap (λ (b : Bool). length (cond b (j ∷ []) [])) ((has-iff a v j).1 p)

      by : (x ≤ℤ j) ⊎ (j <ℤ x) → renumbered a x j ≡ total (has a) (j +ℤ pos 1) -ℤ total (has a) x
      by (inl h) = number-above a x j h ∙ labels_to-total x j h
      by (inr h) =
          let e : x -ℤ pos 1 +ℤ pos 1 ≡ x = simp ints (omega arith) in
          number-below a x j h
          ∙ (labels_to-total j (x -ℤ pos 1) (h ∴ simp ints (omega arith)) ∴ ap (total (has a)) e ∴ total-next (has a) j ∴ one ∴ simp ints (omega arith))

  renumbered-mono : (x i j : ℤ) → Has (meant a) i → Has (meant a) j → i ≤ℤ j → renumbered a x i ≤ℤ renumbered a x j
  renumbered-mono x i j p q h =
      total_mono (has a) (i +ℤ pos 1) (j +ℤ pos 1) (h ∴ simp ints (omega arith))
      ∴ renumbered-total x i p ∴ renumbered-total x j q ∴ simp ints (omega arith)

  renumbered-step : (x j : ℤ) → Has (meant a) j → renumbered a x (j +ℤ pos a.distance) ≡ renumbered a x j +ℤ pos (granules a)
  renumbered-step x j p =
      let N = a.distance in
      let q = (has-iff a v (j +ℤ pos N)).0 (has-repeats a v j ∙ (has-iff a v j).1 p) in
      let e : j +ℤ pos 1 +ℤ pos N ≡ j +ℤ pos N +ℤ pos 1 = simp ints (omega arith) in
      renumbered-total x (j +ℤ pos N) q
      ∴ renumbered-total x j p
      ∴ total-window (has a) (j +ℤ pos 1) N
      ∴ ap (total (has a)) e
      ∴ granules-window a v (j +ℤ pos 1)
      ∴ simp ints (omega arith)

pub renumber-right : (x : ℤ) (a : Row) → Ready (unary (renumber x) a) → Right (unary (renumber x) a)
unfolding result size
renumber-right x a h =
    let v = h.valid in
    let f = renumbered a x in
    record {
      labels = λ t i. let m = mapped-iff f (meant a t) i in (
        λ e. let p = m.0 e in (p.0, p.1, (renumbered-iff a v x p.0 i).1 p.2),
        λ p. m.1 (p.0, p.1, (renumbered-iff a v x p.0 i).0 p.2),
      );
      ordered = mapped-ordered f (meant a) (renumbered-mono a v x) v.ordered;
      repeats = mapped-repeats f (meant a) a.period a.distance (granules a) (renumbered-step a v x) (meant-repeats a v.positive.0);
      positive = (v.positive.0, granules-positive a v);
    }
