-- Selections from a row of one cell, whose granules are single instants: where a granule of b is all instants from v up to w, Pick takes them by
-- their place in it.
-- Assumes nothing.
use mathlib.Core.Path.{◌≡◌, refl, sym, ◌∙◌, ap}
use mathlib.Core.Logic.{◌↔◌, ◌⊎◌, inl, inr, ⊎_elim}
use mathlib.Core.Option.{Option, some}
use mathlib.Core.Bool.{Bool, true, false, cond}
use mathlib.Core.List.Memᴰ
use mathlib.Core.List.{List, ◌∷◌, Memᴰ}
use Prim.Native.Nat.{ℕ, zero, suc}
use native.Mathlib.Omega.{arith}
use lib.IntN.{ℤ, pos, ◌+ℤ◌, ◌-ℤ◌}
use lib.Signed.{◌≤ℤ◌, ◌<ℤ◌}
use Rattle.integers.specs.Parts.{up}
use Rattle.integers.proofs.Linear.{ints, ◌∴◌}
use Rattle.integers.proofs.Order.{le-or-lt, ≤ℤ-antisym}
use Rattle.calendar.specs.Limits.{between}
use Rattle.calendar.specs.Meaning.{Row, meant}
use Rattle.calendar.specs.Algebra.{positions, pick_start, pick}
use Rattle.calendar.specs.Lists.{any, from, equal, only, on_label}
use Rattle.calendar.specs.Compute.{selects, result}
use Rattle.granules.specs.Valid.{Valid}
use Rattle.granules.proofs.Tests.{true≢false, true-or-false, test-ext, some_inj, and-iff, le_z-iff}
use Rattle.granules.proofs.Lists.{mem-from, member-iff, length_from, rising-from, lists-unique}
use Rattle.granules.proofs.Inside.{within-lists, meeting-lists}
use Rattle.candidates.specs.Tallies.{candidates}
use Rattle.kinds.specs.declared.Pick.{Pick}
use Rattle.kinds.specs.declared.Kind.TheVariants.{Select}
use Rattle.kinds.specs.Operations.{operation_of, selection_of}
use Rattle.select_granules.specs.Deciding.{takes, selection_by}
use Rattle.select_granules.proofs.Decisions.{judges, nowhere}

-- ---- positions of numbers that follow one another

between-iff : (lo hi p : ℤ) → (between lo hi p ≡ true) ↔ ((lo ≤ℤ p) × (p ≤ℤ hi))
between-iff lo hi p = (
  λ e. let h = (and-iff _ _).0 e in ((le_z-iff lo p).0 h.0, (le_z-iff p hi).0 h.1),
  λ h. (and-iff _ _).1 ((le_z-iff lo p).1 h.0, (le_z-iff p hi).1 h.1),
)

-- j is one of n numbers from k on, and its position, where that of k is p, is one from lo to hi
abbrev Stands : ℤ → ℤ → ℤ → ℤ → ℕ → ℤ → Type 0
Stands lo hi p k n j = (k ≤ℤ j) × (j <ℤ (k +ℤ pos n)) × (between lo hi (p +ℤ (j -ℤ k)) ≡ true)

module _ (lo hi p k : ℤ) (n : ℕ) (j : ℤ) (rest : List ℤ) (i : Memᴰ j rest ↔ Stands lo hi (p +ℤ pos 1) (k +ℤ pos 1) n j) where
  same_place : p +ℤ pos 1 +ℤ (j -ℤ (k +ℤ pos 1)) ≡ p +ℤ (j -ℤ k)
  same_place = simp ints (omega arith)

  behind : Memᴰ j rest → Stands lo hi p k (suc n) j
  behind m = let h = i.0 m in (h.0 ∴ simp ints (omega arith), h.1 ∴ simp ints (omega arith), ap (between lo hi) (sym same_place) ∙ h.2)

  stands-cons : (b : Bool) → between lo hi p ≡ b → Memᴰ j (cond b (k ∷ rest) rest) → Stands lo hi p k (suc n) j
  stands-cons true e m =
      ⊎_elim
      (λ q. let f : p +ℤ (j -ℤ k) ≡ p = q ∴ simp ints (omega arith) in (q ∴ simp ints (omega arith), q ∴ simp ints (omega arith), ap (between lo hi) f ∙ e))
      behind (Memᴰ.cases_cons m)
  stands-cons false e m = behind m

  cons-stands : (b : Bool) → between lo hi p ≡ b → Stands lo hi p k (suc n) j → Memᴰ j (cond b (k ∷ rest) rest)
  cons-stands b e h = by b e (le-or-lt j k)
    where
      later : k <ℤ j → Memᴰ j rest
      later l = i.1 (l ∴ simp ints (omega arith), h.1 ∴ simp ints (omega arith), ap (between lo hi) same_place ∙ h.2)

      by : (b : Bool) → between lo hi p ≡ b → (j ≤ℤ k) ⊎ (k <ℤ j) → Memᴰ j (cond b (k ∷ rest) rest)
      by true e (inl l) = Memᴰ.head (≤ℤ-antisym l h.0)
      by true e (inr l) = Memᴰ.tail (later l)
      by false e (inl l) =
          let q : p +ℤ (j -ℤ k) ≡ p = l ∴ h.0 ∴ simp ints (omega arith) in
          absurd (true≢false (ap (between lo hi) (sym q) ∙ h.2) e)
      by false e (inr l) = later l

positions-from : (lo hi p k : ℤ) (n : ℕ) (j : ℤ) → Memᴰ j (positions lo hi p (from k n)) ↔ Stands lo hi p k n j
positions-from lo hi p k zero j = (λ m. absurd (Memᴰ.not-nil m), λ h. absurd (h.0 ∴ h.1 ∴ simp ints (omega arith)))
positions-from lo hi p k (suc n) j =
    let rest = positions lo hi (p +ℤ pos 1) (from (k +ℤ pos 1) n) in
    let i = positions-from lo hi (p +ℤ pos 1) (k +ℤ pos 1) n j in
    (stands-cons lo hi p k n j rest i (between lo hi p) refl, cons-stands lo hi p k n j rest i (between lo hi p) refl)

-- what Pick takes of n numbers from k on: j, which is one of them, by its place
pick-from : (x : ℤ) (y : ℕ) (k : ℤ) (n : ℕ) (j : ℤ) → k ≤ℤ j → j <ℤ (k +ℤ pos n)
    → any (equal j) (pick x y (from k n)) ≡ between (pick_start x n) (pick_start x n +ℤ pos y -ℤ pos 1) (pos 1 +ℤ (j -ℤ k))
pick-from x y k n j h g =
    let s = pick_start x n in
    let e : pick x y (from k n) ≡ positions s (s +ℤ pos y -ℤ pos 1) (pos 1) (from k n) = ap (λ (m : ℕ). let s = pick_start x m in positions s (s +ℤ pos y -ℤ pos 1) (pos 1) (from k n)) (length_from k n) in
    let i = positions-from s (s +ℤ pos y -ℤ pos 1) (pos 1) k n j in
    ap (any (equal j)) e
    ∙ test-ext
    (λ m. (i.0 ((member-iff j (positions s (s +ℤ pos y -ℤ pos 1) (pos 1) (from k n))).0 m)).2)
    (λ m. (member-iff j (positions s (s +ℤ pos y -ℤ pos 1) (pos 1) (from k n))).1 (i.1 (h, g, m)))

-- ---- a granule without gaps

-- b's granule i is the n instants from v on
abbrev pub Spread : Row → ℤ → ℤ → ℕ → Type 0
Spread b i v n = (u : ℤ) → (meant b u ≡ some i) ↔ ((v ≤ℤ u) × (u <ℤ (v +ℤ pos n)))

module _ (a b : Row) (va : Valid a) (vb : Valid b) (c : ℤ) (own : (t : ℤ) → meant a t ≡ some (c +ℤ t)) (i v : ℤ) (n : ℕ) (g : Spread b i v n) where
  at_own : (t k : ℤ) → meant a t ≡ some k → k ≡ c +ℤ t
  at_own t k e = some_inj (sym e ∙ own t)

  -- the instant of a label
  instant : (k : ℤ) → meant a (k -ℤ c) ≡ some k
  instant k = own (k -ℤ c) ∙ ap some (simp ints (omega arith))

  inside-from : (k : ℤ) → ((c +ℤ v) ≤ℤ k) × (k <ℤ (c +ℤ v +ℤ pos n)) → meant b (k -ℤ c) ≡ some i
  inside-from k h = (g (k -ℤ c)).1 (h.0 ∴ simp ints (omega arith), h.1 ∴ simp ints (omega arith))

  from-inside : (t k : ℤ) → meant a t ≡ some k → meant b t ≡ some i → ((c +ℤ v) ≤ℤ k) × (k <ℤ (c +ℤ v +ℤ pos n))
  from-inside t k e f = let h = (g t).0 f in let q = at_own t k e in (h.0 ∴ q ∴ simp ints (omega arith), h.1 ∴ q ∴ simp ints (omega arith))

  candidates-from : (whole : Bool) → candidates whole a b i ≡ from (c +ℤ v) n
  candidates-from true = lists-unique _ (from (c +ℤ v) n) (within-lists a b va vb i) record {
    rising = rising-from (c +ℤ v) n;
    member = λ k. (
      λ s. (mem-from k (c +ℤ v) n).1 (from-inside s.0.0 k s.0.1 (s.1 s.0.0 s.0.1)),
      λ m. let h = (mem-from k (c +ℤ v) n).0 m in (
        (k -ℤ c, instant k),
        λ u e.
            let q : k -ℤ c ≡ u = at_own u k e ∴ simp ints (omega arith) in ap (meant b) (sym q) ∙ inside-from k h,
      ),
    );
  }
  candidates-from false = lists-unique _ (from (c +ℤ v) n) (meeting-lists a b va vb i) record {
    rising = rising-from (c +ℤ v) n;
    member = λ k. (
      λ s. (mem-from k (c +ℤ v) n).1 (from-inside s.0 k s.1 s.2),
      λ m. (k -ℤ c, instant k, inside-from k ((mem-from k (c +ℤ v) n).0 m)),
    );
  }

  module _ (p : Pick) (whole : Bool) (u : ℤ) (low : v ≤ℤ u) (high : u <ℤ (v +ℤ pos n)) where
    abbrev S : ℤ
    S = pick_start p.x n

    abbrev T : ℤ
    T = S +ℤ pos (up p.y) -ℤ pos 1

    takes-is : takes p whole a b (c +ℤ u) i ≡ between S T (pos 1 +ℤ (u -ℤ v))
    takes-is =
        ap (λ (l : List ℤ). any (equal (c +ℤ u)) (pick p.x (up p.y) l)) (candidates-from whole)
        ∙ pick-from p.x (up p.y) (c +ℤ v) n (c +ℤ u) (low ∴ simp ints (omega arith)) (high ∴ simp ints (omega arith))
        ∙ ap (between S T) (simp ints (omega arith))

    label : meant b u ≡ some i
    label = (g u).1 (low, high)

    -- only b's granule at u counts
    selects-is : (w : Bool) → takes p w a b (c +ℤ u) i ≡ selects (selection_of (selection_by w p)) a b (c +ℤ u)
    selects-is true = judges p a b va vb u (c +ℤ u) (own u) i label true (inr refl)
    selects-is false = by (true-or-false (takes p false a b (c +ℤ u) i))
      where
        by : (takes p false a b (c +ℤ u) i ≡ true) ⊎ (takes p false a b (c +ℤ u) i ≡ false)
            → takes p false a b (c +ℤ u) i ≡ selects (selection_of (selection_by false p)) a b (c +ℤ u)
        by (inl e) = judges p a b va vb u (c +ℤ u) (own u) i label false (inl e)
        by (inr e) = e ∙ nowhere p a b va vb (c +ℤ u) (λ w k o l.
            let q : u ≡ w = at_own w (c +ℤ u) o ∴ simp ints (omega arith) in
            let f : k ≡ i = some_inj (sym l ∙ ap (meant b) (sym q) ∙ label) in
            ap (takes p false a b (c +ℤ u)) f ∙ e)

    -- the labels of the first and the last position
    abbrev from-label : ℤ
    from-label = c +ℤ v +ℤ S -ℤ pos 1

    abbrev to-label : ℤ
    to-label = c +ℤ v +ℤ T -ℤ pos 1

    by-label : between S T (pos 1 +ℤ (u -ℤ v)) ≡ between from-label to-label (c +ℤ u)
    by-label =
        test-ext
        (λ e. let h = (between-iff S T (pos 1 +ℤ (u -ℤ v))).0 e in (between-iff from-label to-label (c +ℤ u)).1 (h.0 ∴ simp ints (omega arith), h.1 ∴ simp ints (omega arith)))
        (λ e. let h = (between-iff from-label to-label (c +ℤ u)).0 e in (between-iff S T (pos 1 +ℤ (u -ℤ v))).1 (h.0 ∴ simp ints (omega arith), h.1 ∴ simp ints (omega arith)))

    pub chosen : result (operation_of (Select (selection_by whole p)) a b) u ≡ only (c +ℤ u) (between from-label to-label (c +ℤ u))
    unfolding result
    chosen =
        ap (λ (o : Option ℤ). on_label o (λ j. only j (selects (selection_of (selection_by whole p)) a b j))) (own u)
        ∙ ap (only (c +ℤ u)) (sym (selects-is whole) ∙ takes-is ∙ by-label)
