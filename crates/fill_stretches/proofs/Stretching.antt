-- A stretch is some instants of the loop that fills a working row, for any kind; and what its end says of the row that is followed.
-- Assumes nothing.
use mathlib.Core.Path.{◌≡◌, refl, sym, ◌∙◌, ap, subst}
use mathlib.Core.Logic.{◌⊎◌, inl, inr}
use mathlib.Core.Option.{Option, none, some}
use mathlib.Core.Bool.{Bool, true, false, ◌||◌, or-true}
use mathlib.Core.List.{List}
use Prim.Native.Nat.{ℕ, zero, suc, ◌+◌, ◌-◌, ◌≤◌, ◌<◌}
use native.Mathlib.Omega.{arith}
use lib.IntN.{ℤ, pos}
use lib.ListN.{set}
use lib.Signed.{◌≤ℤ◌, ◌<ℤ◌}
use Rattle.integers.proofs.Linear.{ints, ◌∴◌}
use Rattle.integers.specs.Parts.{up}
use Rattle.integers.proofs.Order.{≤ℤ-antisym, le-or-lt, pos-up}
use Rattle.calendar.specs.Meaning.{Row, meant}
use Rattle.calendar.specs.Operation.{Operation}
use Rattle.calendar.specs.Lists.{is_some, if_label, first}
use Rattle.calendar.specs.Granules.{granule}
use Rattle.calendar.specs.Compute.{result, cell_of}
use Rattle.calendar.specs.Limits.{in_range}
use Rattle.granules.specs.Valid.{Valid}
use Rattle.granule_ends.proofs.Walks.{first-is}
use Rattle.kinds.specs.declared.Kind.{Kind}
use Rattle.kinds.specs.Operations.{operation_of}
use Rattle.fill_shared.proofs.Filling.{Lent, Filling, row_of, filling-more}
use Rattle.fill_stretches.specs.declared.Reached.{Reached}
use Rattle.fill_stretches.specs.Stretch.{cell_where, stretched, Stretched, Led}

-- ---- the cells that are written

-- the label of an instant of the stretch: y where the row has one
abbrev pub spread : Option ℤ → Option ℤ → Option ℤ
spread y none = none
spread y (some j) = y

cell-spread : (y x : Option ℤ) → cell_where (cell_of y) x ≡ cell_of (spread y x)
cell-spread y none = refl
cell-spread y (some j) = refl

spread-range : (y x : Option ℤ) → if_label y in_range ≡ true → if_label (spread y x) in_range ≡ true
spread-range y none e = refl
spread-range y (some j) e = e

-- whether there is a label, with those of n instants more
abbrev marks : Option ℤ → Row → ℕ → ℕ → Bool → Bool
marks y r t zero labelled = labelled
marks y r t (suc n) labelled = is_some (spread y (meant r (pos (t + n)))) || marks y r t n labelled

marks-none : (r : Row) (t n : ℕ) (labelled : Bool) → marks none r t n labelled ≡ labelled
marks-none r t zero labelled = refl
marks-none r t (suc n) labelled = by (meant r (pos (t + n))) ∙ marks-none r t n labelled
  where
    by : (x : Option ℤ) → is_some (spread none x) || marks none r t n labelled ≡ marks none r t n labelled
    by none = refl
    by (some j) = refl

marks-some : (i j : ℤ) (r : Row) (t n : ℕ) (labelled : Bool) → meant r (pos t) ≡ some j → marks (some i) r t (suc n) labelled ≡ true
marks-some i j r t zero labelled e =
    ap (λ (u : ℕ). is_some (spread (some i) (meant r (pos u))) || labelled) {x = t + 0} {y = t} (omega arith) ∙ ap (λ (x : Option ℤ). is_some (spread (some i) x) || labelled) e
marks-some i j r t (suc n) labelled e = ap (λ (x : Bool). is_some (spread (some i) (meant r (pos (t + suc n)))) || x) (marks-some i j r t n labelled e) ∙ or-true (is_some (spread (some i) (meant r (pos (t + suc n)))))

marks-is : (y : Option ℤ) (j : ℤ) (r : Row) (t n : ℕ) (labelled : Bool) → meant r (pos t) ≡ some j → 0 < n → marks y r t n labelled ≡ is_some y || labelled
marks-is none j r t n labelled e h = marks-none r t n labelled
marks-is (some i) j r t zero labelled e h = absurd (omega arith)
marks-is (some i) j r t (suc n) labelled e h = marks-some i j r t n labelled e

module _ (k : Kind) (a b : Lent) (at period : ℕ) (old : List ℤ) (r : Row) where
  abbrev o : Operation Row
  o = operation_of k (row_of a old) (row_of b old)

  module _ (y : Option ℤ) (in-range : if_label y in_range ≡ true) (new : List ℤ) (labelled : Bool) (t : ℕ) (h : Filling k a b at period old new labelled t) where
    turns : (n : ℕ) → t + n ≤ period → ((u : ℕ) → t ≤ u → u < t + n → spread y (meant r (pos u)) ≡ result o (pos u))
        → Filling k a b at period old (stretched (cell_of y) r at t n new) (marks y r t n labelled) (t + n)
    turns zero m e = let z : t ≡ t + 0 = omega arith in subst (λ (u : ℕ). Filling k a b at period old new labelled u) z h
    turns (suc n) m e =
        let x = meant r (pos (t + n)) in
        let z : t + n + 1 ≡ t + suc n = omega arith in
        let w = turns n (omega arith) (λ u i j. e u i (omega arith)) in
        subst (λ (u : ℕ). Filling k a b at period old (stretched (cell_of y) r at t (suc n) new) (marks y r t (suc n) labelled) u) z
        (filling-more k a b at period old _ _ (t + n) w (omega arith) (spread y x) (e (t + n) (omega arith) (omega arith)) _ _ (spread-range y x in-range)
        (ap (set (stretched (cell_of y) r at t n new) (at + (t + n))) (cell-spread y x)) refl)

  -- the instants before the first label
  pub filling-led : (q : Reached) (new : List ℤ) → Filling k a b at period old old false 0 → Led r at period old q new
      → ((u : ℕ) → meant r (pos u) ≡ none → none ≡ result o (pos u)) → Filling k a b at period old new false q.t
  filling-led q new h x f =
      let z : 0 + q.t ≡ q.t = omega arith in
      let w = turns none refl old false 0 h q.t (omega (arith, x.follows.in-room)) (λ u i j. let e = x.unlabelled u (omega (arith, z)) in ap (spread none) e ∙ f u e) in
      rw x.cells (rw (z, marks-none r 0 q.t false) at w)

  -- the instants of a stretch, from a labelled one on
  module _ (y : Option ℤ) (in-range : if_label y in_range ≡ true) (new : List ℤ) (labelled : Bool) (p : Reached) (h : Filling k a b at period old new labelled p.t) where
    pub filling-stretched : (z : ℤ) (q : Reached) (pool : List ℤ) (j : ℤ) → Stretched (cell_of y) z r at period new p q pool → meant r (pos p.t) ≡ some j → p.t < q.t
        → ((u : ℕ) → meant r (pos u) ≡ none → none ≡ result o (pos u))
        → ((u : ℕ) (l : ℤ) → p.t ≤ u → u < q.t → meant r (pos u) ≡ some l → y ≡ result o (pos u))
        → Filling k a b at period old pool (is_some y || labelled) q.t
    filling-stretched z q pool j x e m f g =
        let n : p.t + (q.t - p.t) ≡ q.t = omega arith in
        let w = turns y in-range new labelled p.t h (q.t - p.t) (omega (arith, x.follows.in-room)) (λ u i v. by u i (omega arith) (meant r (pos u)) refl) in
        rw x.cells (rw (n, marks-is y j r p.t (q.t - p.t) labelled e (omega arith)) at w)
      where
        by : (u : ℕ) → p.t ≤ u → u < q.t → (v : Option ℤ) → meant r (pos u) ≡ v → spread y v ≡ result o (pos u)
        by u i v none e = f u e
        by u i v (some l) e = g u l i v e

-- ---- the end of a stretch

module _ (c h : ℤ) (r : Row) (at size : ℕ) (old new : List ℤ) (p q : Reached) (x : Stretched c h r at size old p q new) (j : ℤ) (e : meant r (pos p.t) ≡ some j) (m : j ≤ℤ h) where
  -- it has an instant
  pub stretch-on : p.t < size → p.t < q.t
  stretch-on i = by (le-or-lt (pos q.t) (pos p.t))
    where
      by : (pos q.t ≤ℤ pos p.t) ⊎ (pos p.t <ℤ pos q.t) → p.t < q.t
      by (inr k) = k ∴ simp ints (omega arith)
      by (inl k) =
          let z : q.t ≡ p.t = omega (arith, x.on, simp ints at k) in
          let y = x.stops (omega (arith, z)) in
          let w : y.0 ≡ j = let f = sym y.1 ∙ ap (λ (u : ℕ). meant r (pos u)) z ∙ e in cc in
          absurd (m ∴ y.2 ∴ w ∴ simp ints (omega arith))

  module _ (v : Valid r) where
    -- behind it a granule begins
    pub stretch-fresh : q.t < size → (l : ℤ) → meant r (pos q.t) ≡ some l → pos q.t ≡ first (granule r l)
    stretch-fresh i l f = first-is r v l (pos q.t) f (λ u g. by u g (le-or-lt (pos q.t) u))
      where
        above : h <ℤ l
        above = let y = x.stops i in let w : y.0 ≡ l = let z = sym y.1 ∙ f in cc in rw w at y.2

        -- an earlier instant of the granule would lie in the stretch, or before it
        inner : (u : ℤ) → meant r u ≡ some l → u <ℤ pos q.t → (pos p.t ≤ℤ u) ⊎ (u <ℤ pos p.t) → ⊥
        inner u g k (inl n) =
            let z = pos-up {z = u} (n ∴ simp ints (omega arith)) in
            x.below (up u) l (n ∴ z ∴ simp ints (omega arith)) (k ∴ z ∴ simp ints (omega arith)) (ap (meant r) z ∙ g) ∴ above ∴ simp ints (omega arith)
        inner u g k (inr n) = v.ordered u (pos p.t) l j (n ∴ simp ints (omega arith)) g e ∴ m ∴ above ∴ simp ints (omega arith)

        by : (u : ℤ) → meant r u ≡ some l → (pos q.t ≤ℤ u) ⊎ (u <ℤ pos q.t) → pos q.t ≤ℤ u
        by u g (inl k) = k
        by u g (inr k) = absurd (inner u g k (le-or-lt (pos p.t) u))

    -- with j the last label, it has no other
    pub stretch-one : h ≡ j → (u : ℕ) (l : ℤ) → p.t ≤ u → u < q.t → meant r (pos u) ≡ some l → l ≡ j
    stretch-one z u l i k f =
        ≤ℤ-antisym (rw z at (x.below u l i k f)) (v.ordered (pos p.t) (pos u) j l (simp ints (omega arith)) e f)
