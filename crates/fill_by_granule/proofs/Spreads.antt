-- Granule by granule along a row in which every instant has a label, and the cells that are written for one.
-- Assumes nothing.
use mathlib.Core.Path.{◌≡◌, refl, sym, ◌∙◌, ap, subst}
use mathlib.Core.Logic.{⊎_elim}
use mathlib.Core.Option.{some}
use mathlib.Core.Bool.{Bool, true, false, cond, ◌||◌}
use mathlib.Core.List.{List}
use Prim.Native.Nat.{ℕ, zero, suc, ◌+◌, ◌≤◌, ◌<◌}
use native.Mathlib.Omega.{arith}
use lib.Dec.{ltb}
use lib.IntN.{ℤ, pos, ◌+ℤ◌, ◌-ℤ◌}
use lib.Signed.{◌≤ℤ◌, ◌<ℤ◌}
use Rattle.integers.specs.Parts.{up}
use Rattle.integers.proofs.Linear.{ints, ◌∴◌}
use Rattle.integers.proofs.Order.{le-or-lt, ≤ℤ-antisym, pos-up}
use Rattle.calendar.specs.Limits.{in_range, label_limit, between}
use Rattle.calendar.specs.Meaning.{Row, meant}
use Rattle.calendar.specs.Lists.{only, is_some, if_label}
use Rattle.calendar.specs.Compute.{result}
use Rattle.granules.specs.Valid.{Valid}
use Rattle.granules.proofs.Tests.{some_inj, ltb_iff}
use Rattle.algebra.proofs.Working.{in_range-iff}
use Rattle.cursors.specs.Found.{Within}
use Rattle.alignment.specs.Pass.{Whole}
use Rattle.strides.specs.declared.Change.{Change}
use Rattle.strides.specs.Changes.{Changes}
use Rattle.kinds.specs.declared.Kind.{Kind}
use Rattle.kinds.specs.Operations.{operation_of}
use Rattle.fill_shared.proofs.Filling.{Lent, Filling, row_of, filling-more}
use Rattle.fill_by_granule.specs.Picking.{chosen_cells, chosen_count}
use Rattle.fill_by_granule.proofs.Instants.{Spread}

-- ---- granules of a row without gaps

-- a granule begins at v
pub record Begins (b : Row) (v : ℤ) : Type 0 where
  pub label : ℤ
  pub is : meant b v ≡ some label
  pub before : meant b (v -ℤ pos 1) ≡ some label → ⊥

module _ (b : Row) (v : Valid b) (w : Whole b) (t : ℤ) (x : Change) (c : Changes b t x) where
  -- one begins at a change
  pub begins-at : (u : ℤ) → u ≡ t +ℤ x.steps → Begins b u
  begins-at u e = record {
    label = c.other.0;
    is = ap (meant b) e ∙ c.other.1;
    before = λ f. c.other.2 (c.between (u -ℤ pos 1) c.other.0 (c.on ∴ e ∴ simp ints (omega arith)) (e ∴ simp ints (omega arith)) f);
  }

  -- up to the next change it has all instants, and no other
  pub spread : (h : Begins b t) → Spread b h.label t (up x.steps)
  spread h u = (
    λ e. (
      ⊎_elim (λ l. l) (λ l. absurd (early l e)) (le-or-lt t u),
      ⊎_elim (λ l. absurd (late l e)) (λ l. l) (le-or-lt (t +ℤ pos (up x.steps)) u),
    ),
    λ p.
        let l = w u in
        let f = c.between u l.0 p.0 (p.1 ∴ steps ∴ simp ints (omega arith)) l.1 in
        l.1 ∙ ap some (some_inj (sym f ∙ h.is)),
  )
    where
      steps : pos (up x.steps) ≡ x.steps
      steps = pos-up (c.on ∴ simp ints (omega arith))

      early : u <ℤ t → meant b u ≡ some h.label → ⊥
      early l e =
          let z = w (t -ℤ pos 1) in
          let low = v.ordered u (t -ℤ pos 1) h.label z.0 (l ∴ simp ints (omega arith)) e z.1 in
          let high = v.ordered (t -ℤ pos 1) t z.0 h.label (simp ints (omega arith)) z.1 h.is in
          h.before (z.1 ∙ ap some (≤ℤ-antisym high low))

      late : (t +ℤ pos (up x.steps)) ≤ℤ u → meant b u ≡ some h.label → ⊥
      late l e =
          let n = t +ℤ x.steps in
          let high = v.ordered n u c.other.0 h.label (l ∴ steps ∴ simp ints (omega arith)) c.other.1 e in
          let low = v.ordered t n h.label c.other.0 (c.on ∴ simp ints (omega arith)) h.is c.other.1 in
          c.other.2 (h.is ∙ ap some (≤ℤ-antisym low high))

-- ---- the cells that are written

module _ (c lo hi : ℤ) (at t : ℕ) where
  pub chosen-few : (n : ℕ) → chosen_count c lo hi t n ≤ n
  chosen-few zero = omega arith
  chosen-few (suc n) = by (between lo hi (c +ℤ pos (t + n))) (chosen_count c lo hi t n) (chosen-few n)
    where
      by : (b : Bool) (m : ℕ) → m ≤ n → cond b (1 + m) m ≤ suc n
      by true m h = omega arith
      by false m h = omega arith

-- the working row grows by the instants from t on
module _ (k : Kind) (a b : Lent) (at period : ℕ) (old new : List ℤ) (count t : ℕ) (h : Filling k a b at period old new (ltb 0 count) t)
    (c lo hi : ℤ) (low : Within 1000000000 c) (high : (c +ℤ pos period) ≤ℤ label_limit) where
  label-range : (u : ℕ) → u < period → (b : Bool) → if_label (only (c +ℤ pos u) b) in_range ≡ true
  label-range u l true = (in_range-iff (c +ℤ pos u)).1 (low.0 ∴ high ∴ l ∴ simp ints (omega arith))
  label-range u l false = refl

  labelled-more : (j : ℤ) (b : Bool) (m : ℕ) → ltb 0 (count + cond b (1 + m) m) ≡ is_some (only j b) || ltb 0 (count + m)
  labelled-more j true m = (ltb_iff 0 (count + (1 + m))).1 (omega arith)
  labelled-more j false m = refl

  pub chosen-filling : (n : ℕ) → t + n ≤ period
      → ((u : ℕ) → t ≤ u → u < t + n → result (operation_of k (row_of a old) (row_of b old)) (pos u) ≡ only (c +ℤ pos u) (between lo hi (c +ℤ pos u)))
      → Filling k a b at period old (chosen_cells c lo hi at t n new) (ltb 0 (count + chosen_count c lo hi t n)) (t + n)
  chosen-filling zero l is =
      let e : count ≡ count + 0 = omega arith in
      let f : t ≡ t + 0 = omega arith in
      subst (λ (m : ℕ). Filling k a b at period old new (ltb 0 m) (t + 0)) e (subst (λ (m : ℕ). Filling k a b at period old new (ltb 0 count) m) f h)
  chosen-filling (suc n) l is =
      let m : t + n < period = omega arith in
      let j = c +ℤ pos (t + n) in
      let d = between lo hi j in
      let e : t + n + 1 ≡ t + suc n = omega arith in
      let p : at + (t + n) ≡ at + (t + n) = refl in
      subst (λ (i : ℕ). Filling k a b at period old (chosen_cells c lo hi at t (suc n) new) (ltb 0 (count + chosen_count c lo hi t (suc n))) i) e
      (filling-more k a b at period old _ _ (t + n) (chosen-filling n (omega arith) (λ u f g. is u f (omega arith))) m (only j d) (sym (is (t + n) (omega arith) (omega arith))) _ _
      (label-range (t + n) m d) refl (labelled-more j d (chosen_count c lo hi t n)))
