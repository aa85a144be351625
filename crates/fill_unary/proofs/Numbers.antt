-- The numbers of labels, by how many labels there are below: from one label to the next, and over whole turns.
-- Assumes nothing.
use mathlib.Core.Path.{◌≡◌, refl, ◌∙◌, ap}
use mathlib.Core.Logic.{◌⊎◌, inl, inr}
use mathlib.Core.Bool.{Bool, true, false, cond}
use mathlib.Core.List.{List, [], ◌∷◌, Memᴰ}
use Prim.Native.Nat.{ℕ, ◌+◌}
use native.Mathlib.Omega.{arith}
use lib.IntN.{ℤ, pos, neg_ℤ, ◌+ℤ◌, ◌-ℤ◌, ◌*ℤ◌}
use lib.Signed.{◌≤ℤ◌, ◌<ℤ◌, le_z}
use lib.ListN.{length}
use Rattle.integers.specs.Parts.{up}
use Rattle.integers.proofs.Linear.{ints, ◌∴◌}
use Rattle.integers.proofs.Order.{le-or-lt, pos-up}
use Rattle.integers.proofs.Periods.{Period, period-many}
use Rattle.calendar.specs.Meaning.{Row, meant, Has}
use Rattle.calendar.specs.Lists.{keep, from}
use Rattle.calendar.specs.Granules.{has, granules}
use Rattle.calendar.specs.Compute.{count, renumbered}
use Rattle.granules.specs.Valid.{Valid}
use Rattle.granules.proofs.Tests.{le_z-iff, false-iff}
use Rattle.granules.proofs.Lists.{mem-from, length_from}
use Rattle.granules.proofs.Instants.{has-iff}
use Rattle.granules.proofs.Count.{count-at-most, granules-window}
use Rattle.algebra.proofs.Totals.{total, total-next, total-window, total_mono}

-- ---- how many numbers pass a test

module _ (f : ℤ → Bool) where
  none_kept : (l : List ℤ) → ((u : ℤ) → Memᴰ u l → f u ≡ false) → length (keep f l) ≡ 0
  none_kept [] h = refl
  none_kept (x ∷ l) h =
      ap (λ (b : Bool). length (cond b (x ∷ keep f l) (keep f l))) (h x (Memᴰ.head refl)) ∙ none_kept l (λ u m. h u (Memᴰ.tail m))

  -- those from h to k - 1
  window : (h k : ℤ) → h ≤ℤ k → (n : ℕ) × (pos n ≡ k -ℤ h) × (total f k ≡ total f h +ℤ pos (length (keep f (from h n))))
  window h k l =
      let q = pos-up {z = k -ℤ h} (l ∴ simp ints (omega arith)) in
      let e : k ≡ h +ℤ pos (up (k -ℤ h)) = q ∴ simp ints (omega arith) in
      (up (k -ℤ h), q, ap (total f) e ∙ total-window f h (up (k -ℤ h)))

  -- where none passes
  pub total-same : (h k : ℤ) → h ≤ℤ k → ((u : ℤ) → h ≤ℤ u → u <ℤ k → f u ≡ false) → total f k ≡ total f h
  total-same h k l fails =
      let (n, q, e) = window h k l in
      let z = none_kept (from h n) (λ u m. let b = (mem-from u h n).0 m in fails u b.0 (b.1 ∴ q ∴ simp ints (omega arith))) in
      e ∴ z ∴ simp ints (omega arith)

  -- no more pass than there are
  pub total-slow : (h k : ℤ) → h ≤ℤ k → total f k ≤ℤ (total f h +ℤ k -ℤ h)
  total-slow h k l =
      let (n, q, e) = window h k l in
      e ∴ q ∴ count-at-most f (from h n) ∴ length_from h n ∴ simp ints (omega arith)

-- ---- labels

module _ (a : Row) (v : Valid a) where
  -- the labels from h to k
  pub count-total : (h k : ℤ) → h ≤ℤ (k +ℤ pos 1) → pos (count a h k) ≡ total (has a) (k +ℤ pos 1) -ℤ total (has a) h
  unfolding count
  count-total h k l =
      let n = up (k -ℤ h +ℤ pos 1) in
      let q = pos-up {z = k -ℤ h +ℤ pos 1} (l ∴ simp ints (omega arith)) in
      let e : h +ℤ pos n ≡ k +ℤ pos 1 = q ∴ simp ints (omega arith) in
      total-window (has a) h n ∴ ap (total (has a)) e ∴ simp ints (omega arith)

  pub label-next : (j : ℤ) → Has (meant a) j → total (has a) (j +ℤ pos 1) ≡ total (has a) j +ℤ pos 1
  label-next j p = total-next (has a) j ∙ ap (λ (b : Bool). total (has a) j +ℤ pos (length (cond b (j ∷ []) []))) ((has-iff a v j).1 p)

  -- a label's number is how many labels there are up to it, less those below x
  pub number-total : (x j : ℤ) → Has (meant a) j → renumbered a x j ≡ total (has a) (j +ℤ pos 1) -ℤ total (has a) x
  unfolding renumbered
  number-total x j p = by (le-or-lt x j)
    where
      pick : (b : Bool) → le_z x j ≡ b → renumbered a x j ≡ cond b (pos (count a x j)) (pos 1 -ℤ pos (count a j (x -ℤ pos 1)))
      pick b e = ap (λ (t : Bool). cond t (pos (count a x j)) (pos 1 -ℤ pos (count a j (x -ℤ pos 1)))) e

      by : (x ≤ℤ j) ⊎ (j <ℤ x) → renumbered a x j ≡ total (has a) (j +ℤ pos 1) -ℤ total (has a) x
      by (inl h) = pick true ((le_z-iff x j).1 h) ∙ count-total x j (h ∴ simp ints (omega arith))
      by (inr h) =
          let e : x -ℤ pos 1 +ℤ pos 1 ≡ x = simp ints (omega arith) in
          pick false ((false-iff (le_z-iff x j)).1 (λ k. h ∴ k ∴ simp ints (omega arith)))
          ∙ (count-total j (x -ℤ pos 1) (h ∴ simp ints (omega arith)) ∴ ap (total (has a)) e ∴ label-next j p ∴ simp ints (omega arith))

  -- so the numbers are not farther apart than the labels
  pub number_bound : (B : ℕ) (x j : ℤ) → Has (meant a) j → (neg_ℤ (pos B) ≤ℤ x) × (x ≤ℤ pos B) → (neg_ℤ (pos B) ≤ℤ j) × (j ≤ℤ pos B)
      → (neg_ℤ (pos (B + B + 1)) ≤ℤ renumbered a x j) × (renumbered a x j ≤ℤ pos (B + B + 1))
  number_bound B x j p bx bj = by (le-or-lt x (j +ℤ pos 1))
    where
      by : (x ≤ℤ (j +ℤ pos 1)) ⊎ ((j +ℤ pos 1) <ℤ x) → (neg_ℤ (pos (B + B + 1)) ≤ℤ renumbered a x j) × (renumbered a x j ≤ℤ pos (B + B + 1))
      by (inl h) = number-total x j p ∴ total-slow (has a) x (j +ℤ pos 1) h ∴ total_mono (has a) x (j +ℤ pos 1) h ∴ bx ∴ bj ∴ simp ints (omega arith)
      by (inr h) =
          let l : (j +ℤ pos 1) ≤ℤ x = h ∴ simp ints (omega arith) in
          number-total x j p ∴ total-slow (has a) (j +ℤ pos 1) x l ∴ total_mono (has a) (j +ℤ pos 1) x l ∴ bx ∴ bj ∴ simp ints (omega arith)

  -- p and z are labels with none between
  pub number-next : (x p z : ℤ) → Has (meant a) p → Has (meant a) z → p <ℤ z → total (has a) z ≡ total (has a) (p +ℤ pos 1) → renumbered a x z ≡ renumbered a x p +ℤ pos 1
  number-next x p z hp hz h e = number-total x p hp ∴ number-total x z hz ∴ label-next z hz ∴ e ∴ simp ints (omega arith)

  -- over k turns there are k times as many labels as in one
  pub total-turns : (z k : ℤ) → total (has a) (z +ℤ pos a.distance *ℤ k) ≡ total (has a) z +ℤ pos (granules a) *ℤ k
  unfolding Period
  total-turns z k =
      let e : z +ℤ pos a.distance *ℤ pos 0 ≡ z = simp ints (omega arith) in
      let i : pos 0 +ℤ pos 1 *ℤ k ≡ k = simp ints (omega arith) in
      period-many less 1 next k (pos 0) ∴ ap less i ∴ ap (total (has a)) e ∴ simp ints (omega arith)
    where
      less : ℤ → ℤ
      less k = total (has a) (z +ℤ pos a.distance *ℤ k) -ℤ pos (granules a) *ℤ k

      next : (k : ℤ) → less (k +ℤ pos 1) ≡ less k
      next k =
          let u = z +ℤ pos a.distance *ℤ k in
          let e : u +ℤ pos a.distance ≡ z +ℤ pos a.distance *ℤ (k +ℤ pos 1) = simp ints (omega arith) in
          total-window (has a) u a.distance ∴ ap (total (has a)) e ∴ granules-window a v u ∴ simp ints (omega arith)

  -- the number of the label p, by the labels above it and below x, less k turns
  pub number-turns : (x p k : ℤ) → Has (meant a) p → p <ℤ (x -ℤ pos a.distance *ℤ k)
      → renumbered a x p ≡ pos 0 -ℤ pos (granules a) *ℤ k -ℤ pos (count a (p +ℤ pos 1) (x -ℤ pos a.distance *ℤ k -ℤ pos 1))
  number-turns x p k hp h =
      let y = x -ℤ pos a.distance *ℤ k in
      let e : y +ℤ pos a.distance *ℤ k ≡ x = simp ints (omega arith) in
      let i : y -ℤ pos 1 +ℤ pos 1 ≡ y = simp ints (omega arith) in
      number-total x p hp
      ∴ count-total (p +ℤ pos 1) (y -ℤ pos 1) (h ∴ simp ints (omega arith))
      ∴ ap (total (has a)) e
      ∴ ap (total (has a)) i
      ∴ total-turns y k
      ∴ simp ints (omega arith)
