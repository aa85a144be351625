-- Rule 13 of document 01, for a row that is handed in: it passes exactly for the valid rows within the limits.
use mathlib.Core.Path.{◌≡◌, refl, sym, ◌∙◌, ap, subst}
use mathlib.Core.Logic.{◌↔◌, ◌⊎◌, inl, inr, ⊎_elim}
use mathlib.Core.Option.{none, some}
use mathlib.Core.Bool.{true, false}
use mathlib.Core.List.Memᴰ
use mathlib.Core.List.{List, [], ◌∷◌, ◌++◌, Memᴰ}
use Prim.Native.Nat.{ℕ, zero, suc, ◌≤◌}
use native.Mathlib.Omega.{arith}
use lib.Dec.{eqb}
use lib.IntN.{ℤ, pos, ◌+ℤ◌, ◌-ℤ◌, ◌*ℤ◌}
use lib.Signed.{◌≤ℤ◌, ◌<ℤ◌, le_z, clash_ℤ}
use lib.ListN.{length, get_or}
use Rattle.integers.proofs.Linear.{ints, ◌∴◌}
use Rattle.integers.proofs.Order.{≤ℤ-trans, Cases, cases, mul_mono}
use Rattle.integers.proofs.Order.Cases.{below, equal, above}
use Rattle.integers.specs.Floor.{floor_div, floor_mod}
use Rattle.integers.proofs.Floor.{floor-eq, floor-mono}
use Rattle.calendar.specs.Meaning.{Row, meant, Ordered, label_of, empty, raise}
use Rattle.calendar.specs.Lists.{first}
use Rattle.calendar.specs.Sound.{sound, cells_in_range, labels_of, never_falls}
use Rattle.calendar.specs.Limits.{pool_limit}
use Rattle.granules.specs.Valid.{Valid}
use Rattle.granules.proofs.Tests.{true≢false, and-iff, not_iff, false-iff, eqb-iff, leb-iff, le_z-iff, some_inj, none≢some, none_or_some}
use Rattle.granules.proofs.Rows.{cell_label, meant-repeats, meant-some, cell-meant, labels-mem, mem-labels, label-index, labels-cons, labels-skip}

-- ---- numbers that never fall

-- the first is below no other, and the rest never falls
falls-cons : (j : ℤ) (l : List ℤ) → (never_falls (j ∷ l) ≡ true) ↔ (((k : ℤ) → Memᴰ k l → j ≤ℤ k) × (never_falls l ≡ true))
falls-cons j [] = (λ e. (λ k h. absurd (Memᴰ.not-nil h), refl), λ p. refl)
falls-cons j (i ∷ l) = (
  λ e.
      let p = (and-iff (le_z j i) (never_falls (i ∷ l))).0 e in
      let q = (le_z-iff j i).0 p.0 in
      (λ k h. ⊎_elim (λ (s : k ≡ i). q ∴ s ∴ simp ints (omega arith)) (λ (m : Memᴰ k l). ≤ℤ-trans q (((falls-cons i l).0 p.1).0 k m)) (Memᴰ.cases_cons h), p.1),
  λ p. (and-iff (le_z j i) (never_falls (i ∷ l))).1 ((le_z-iff j i).1 (p.0 i (Memᴰ.head refl)), p.1),
)

-- the first is the least, and what stands behind all is the greatest
falls-first : (l t : List ℤ) → never_falls (l ++ t) ≡ true → (k : ℤ) → Memᴰ k l → first l ≤ℤ k
falls-first [] t h k m = absurd (Memᴰ.not-nil m)
falls-first (j ∷ l) t h k m =
    ⊎_elim (λ (e : k ≡ j). e ∴ simp ints (omega arith)) (λ (n : Memᴰ k l). ((falls-cons j (l ++ t)).0 h).0 k (Memᴰ.append_left t n)) (Memᴰ.cases_cons m)

falls-last : (l : List ℤ) (b : ℤ) → never_falls (l ++ (b ∷ [])) ≡ true → (k : ℤ) → Memᴰ k l → k ≤ℤ b
falls-last [] b h k m = absurd (Memᴰ.not-nil m)
falls-last (j ∷ l) b h k m =
    let p = (falls-cons j (l ++ (b ∷ []))).0 h in
    ⊎_elim (λ (e : k ≡ j). e ∴ p.0 b (Memᴰ.append_right l (Memᴰ.head refl)) ∴ simp ints (omega arith)) (λ (n : Memᴰ k l). falls-last l b p.1 k n) (Memᴰ.cases_cons m)

-- a list with a member has its first
first-mem : (l : List ℤ) (k : ℤ) → Memᴰ k l → Memᴰ (first l) l
first-mem [] k m = absurd (Memᴰ.not-nil m)
first-mem (j ∷ l) k m = Memᴰ.head refl

-- a list with a member, as rule 13 tests it
first-of-some : (l : List ℤ) → eqb (length l) 0 ≡ false → Memᴰ (first l) l
first-of-some [] e = absurd (true≢false refl e)
first-of-some (j ∷ l) e = Memᴰ.head refl

some-of-member : (l : List ℤ) (k : ℤ) → Memᴰ k l → eqb (length l) 0 ≡ false
some-of-member [] k m = absurd (Memᴰ.not-nil m)
some-of-member (j ∷ l) k m = (false-iff (eqb-iff (suc (length l)) 0)).1 (λ e. omega arith)

-- ---- labels that never fall, cell by cell

-- without its first cell
falls-skip : (z : ℤ) (l t : List ℤ) → never_falls (labels_of (z ∷ l) ++ t) ≡ true → never_falls (labels_of l ++ t) ≡ true
falls-skip z l t h = by (none_or_some (label_of z))
  where
    by : (label_of z ≡ none) ⊎ ((j : ℤ) × (label_of z ≡ some j)) → never_falls (labels_of l ++ t) ≡ true
    by (inl e) = subst (λ (m : List ℤ). never_falls (m ++ t) ≡ true) (labels-skip z l e) h
    by (inr p) = ((falls-cons p.0 (labels_of l ++ t)).0 (subst (λ (m : List ℤ). never_falls (m ++ t) ≡ true) (labels-cons z p.0 l p.1) h)).1

-- two cells in order have labels in order
falls-order : (l t : List ℤ) → never_falls (labels_of l ++ t) ≡ true
    → (m n : ℕ) (i j : ℤ) → m ≤ n → label_of (get_or l m empty) ≡ some i → label_of (get_or l n empty) ≡ some j → i ≤ℤ j
falls-order [] t h m n i j k e f = absurd (none≢some e)
falls-order (z ∷ l) t h zero zero i j k e f = some_inj (sym e ∙ f) ∴ simp ints (omega arith)
falls-order (z ∷ l) t h zero (suc n) i j k e f =
    ((falls-cons i (labels_of l ++ t)).0 (subst (λ (m : List ℤ). never_falls (m ++ t) ≡ true) (labels-cons z i l e) h)).0 j (Memᴰ.append_left t (mem-labels l n j f))
falls-order (z ∷ l) t h (suc m) zero i j k e f = absurd (omega arith)
falls-order (z ∷ l) t h (suc m) (suc n) i j k e f = falls-order l t (falls-skip z l t h) m n i j (omega arith) e f

-- the other way round, with b not below any of the labels
order-falls : (l : List ℤ) (b : ℤ)
    → ((m n : ℕ) (i j : ℤ) → m ≤ n → label_of (get_or l m empty) ≡ some i → label_of (get_or l n empty) ≡ some j → i ≤ℤ j)
    → ((m : ℕ) (i : ℤ) → label_of (get_or l m empty) ≡ some i → i ≤ℤ b)
    → never_falls (labels_of l ++ (b ∷ [])) ≡ true
order-falls [] b o u = refl
order-falls (z ∷ l) b o u = by (none_or_some (label_of z)) (order-falls l b (λ m n i j k. o (suc m) (suc n) i j (omega arith)) (λ m. u (suc m)))
  where
    after : (j : ℤ) → label_of z ≡ some j → (k : ℤ) → Memᴰ k (labels_of l) ⊎ Memᴰ k (b ∷ []) → j ≤ℤ k
    after j e k (inl m) = let p = labels-mem l k m in o 0 (suc p.0) j k (omega arith) e p.1
    after j e k (inr m) = u 0 j e ∴ Memᴰ.eq_of_singleton m ∴ simp ints (omega arith)

    by : (label_of z ≡ none) ⊎ ((j : ℤ) × (label_of z ≡ some j)) → never_falls (labels_of l ++ (b ∷ [])) ≡ true → never_falls (labels_of (z ∷ l) ++ (b ∷ [])) ≡ true
    by (inl e) h = subst (λ (m : List ℤ). never_falls (m ++ (b ∷ [])) ≡ true) (sym (labels-skip z l e)) h
    by (inr p) h =
        subst (λ (m : List ℤ). never_falls (m ++ (b ∷ [])) ≡ true) (sym (labels-cons z p.0 l p.1))
        ((falls-cons p.0 (labels_of l ++ (b ∷ []))).1 (λ k m. after p.0 p.1 k (Memᴰ.append_cases (labels_of l) m), h))

-- ---- rule 13

-- the labels of the row, and the first once more a turn later
turn : Row → List ℤ
turn r = labels_of r.cells ++ ((first (labels_of r.cells) +ℤ pos r.distance) ∷ [])

-- with f the row's first label: i in turn q, and j in a later turn q'
later-turn : (N : ℕ) (f i j q q' : ℤ) → q <ℤ q' → (i -ℤ pos N *ℤ q) ≤ℤ (f +ℤ pos N) → f ≤ℤ (j -ℤ pos N *ℤ q') → i ≤ℤ j
later-turn N f i j q q' l h k =
    let next : (q +ℤ pos 1) ≤ℤ q' = l ∴ simp ints (omega arith) in
    mul_mono N next ∴ h ∴ k ∴ simp ints (omega arith)

-- two instants of one turn: their cells are in order, and the labels differ as those of the cells
same_turn : (P m n : ℕ) (s t q q' : ℤ) → s ≤ℤ t → s ≡ pos P *ℤ q +ℤ pos m → t ≡ pos P *ℤ q' +ℤ pos n → q ≡ q' → m ≤ n
same_turn P m n s t q q' h e f g =
    let l : pos m ≤ℤ pos n = ap (λ (z : ℤ). pos P *ℤ z) g ∴ h ∴ e ∴ f ∴ simp ints (omega arith) in
    omega (arith, simp ints at l)

same-rise : (N : ℕ) (i j q q' : ℤ) → q ≡ q' → (i -ℤ pos N *ℤ q) ≤ℤ (j -ℤ pos N *ℤ q') → i ≤ℤ j
same-rise N i j q q' e h = ap (λ (z : ℤ). pos N *ℤ z) e ∴ h ∴ simp ints (omega arith)

-- Let s ≤ t. In one turn, their cells are in order, and so are their labels. Else t is a turn later at least, and the label of s
-- is at most the row's first plus the distance, which that of t is not below.
falls-ordered : (r : Row) → 1 ≤ r.period → never_falls (turn r) ≡ true → Ordered (meant r)
unfolding turn
falls-ordered r w h s t i j k e f = by (cases q q')
  where
    P : ℕ
    P = r.period

    N : ℕ
    N = r.distance

    l : List ℤ
    l = labels_of r.cells

    q : ℤ
    q = floor_div s P

    q' : ℤ
    q' = floor_div t P

    i' : ℤ
    i' = i -ℤ pos N *ℤ q

    j' : ℤ
    j' = j -ℤ pos N *ℤ q'

    x : cell_label r (floor_mod s P) ≡ some i'
    x = (meant-some r s i).0 e

    y : cell_label r (floor_mod t P) ≡ some j'
    y = (meant-some r t j).0 f

    by : Cases q q' → i ≤ℤ j
    by (below c) =
        later-turn N (first l) i j q q' c
        (falls-last l (first l +ℤ pos N) h i' (mem-labels r.cells (floor_mod s P) i' x))
        (falls-first l ((first l +ℤ pos N) ∷ []) h j' (mem-labels r.cells (floor_mod t P) j' y))
    by (equal c) =
        same-rise N i j q q' c
        (falls-order r.cells ((first l +ℤ pos N) ∷ []) h (floor_mod s P) (floor_mod t P) i' j'
        (same_turn P (floor_mod s P) (floor_mod t P) s t q q' k (floor-eq P w s) (floor-eq P w t) c) x y)
    by (above c) = absurd (clash_ℤ c (floor-mono P w k))

-- what rule 13 asks, part by part
sound-parts : (r : Row) → (sound r ≡ true) ↔ (
    (length r.cells ≡ r.period) × ((1 ≤ r.distance) × ((r.distance ≤ r.period) × ((r.period ≤ pool_limit)
    × ((cells_in_range r ≡ true) × ((eqb (length (labels_of r.cells)) 0 ≡ false) × (never_falls (turn r) ≡ true)))))))
unfolding sound turn
sound-parts r = simp (and-iff, not_iff, eqb-iff, leb-iff) (λ h. h, λ h. h)

pub sound-valid : (r : Row) → sound r ≡ true → Valid r
sound-valid r h =
    let p = (sound-parts r).0 h in
    let q = p.1.1.1.1.1 in
    let l = labels_of r.cells in
    let m = labels-mem r.cells (first l) (first-of-some l q.0) in
    let above : 1 ≤ r.period = omega arith in
    record {
      whole = p.0;
      positive = (above, p.1.0);
      ordered = falls-ordered r above q.1;
      label = first l;
      labelled = (pos m.0, cell-meant r p.0 m.0 (first l) m.1);
    }

pub sound-limits : (r : Row) → sound r ≡ true → (r.distance ≤ r.period) × (r.period ≤ pool_limit) × (cells_in_range r ≡ true)
sound-limits r h = let p = (sound-parts r).0 h in (p.1.1.0, p.1.1.1.0, p.1.1.1.1.0)

-- a label of the first turn is at most the first of the next
ordered-falls : (r : Row) → Valid r → never_falls (turn r) ≡ true
unfolding turn
ordered-falls r v =
    order-falls r.cells (first l +ℤ pos r.distance)
    (λ m n i j h e f. v.ordered (pos m) (pos n) i j (simp ints (omega arith)) (at m i e) (at n j f))
    (λ m i e. next m i e (labels-mem r.cells (first l) (first-mem l i (mem-labels r.cells m i e))))
  where
    l : List ℤ
    l = labels_of r.cells

    at : (m : ℕ) (j : ℤ) → cell_label r m ≡ some j → meant r (pos m) ≡ some j
    at = cell-meant r v.whole

    next : (m : ℕ) (i : ℤ) → cell_label r m ≡ some i → (n : ℕ) × (cell_label r n ≡ some (first l)) → i ≤ℤ (first l +ℤ pos r.distance)
    next m i e p =
        let h = label-index r.cells m i e in
        v.ordered (pos m) (pos p.0 +ℤ pos r.period) i (first l +ℤ pos r.distance) (simp ints (omega (arith, v.whole))) (at m i e)
        (meant-repeats r v.positive.0 (pos p.0) ∙ ap (raise (pos r.distance)) (at p.0 (first l) p.1))

pub valid-sound : (r : Row) → Valid r → r.distance ≤ r.period → r.period ≤ pool_limit → cells_in_range r ≡ true → sound r ≡ true
valid-sound r v d p l =
    let t = v.labelled.0 in
    let j = v.label -ℤ pos r.distance *ℤ floor_div t r.period in
    let m = mem-labels r.cells (floor_mod t r.period) j ((meant-some r t v.label).0 v.labelled.1) in
    (sound-parts r).1 (v.whole, (v.positive.1, (d, (p, (l, (some-of-member (labels_of r.cells) j m, ordered-falls r v))))))
