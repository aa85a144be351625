-- How many granules a turn has, by the row's own labels.
-- Assumes nothing.
use mathlib.Core.Path.{◌≡◌, refl, sym, ◌∙◌, ap, ap₂, subst}
use mathlib.Core.Logic.{◌↔◌, ◌⊎◌, inl, inr, ⊎_elim}
use mathlib.Core.Option.{Option, none, some}
use mathlib.Core.Bool.{Bool, true, false, cond}
use mathlib.Core.List.{List, [], ◌∷◌, map, Memᴰ}
use Prim.Native.Nat.{ℕ, suc, ◌≤◌, ◌<◌}
use native.Mathlib.Omega.{arith}
use lib.IntN.{ℤ, pos, negsuc, ◌+ℤ◌, ◌-ℤ◌, ◌*ℤ◌}
use lib.Signed.{◌≤ℤ◌, ◌<ℤ◌, lt_z}
use lib.ListN.{length, get_or, drop}
use lib.Seq.{drop-cons, drop-nil}
use Rattle.integers.specs.Parts.{up}
use Rattle.integers.specs.Floor.{floor_div, floor_mod}
use Rattle.integers.proofs.Linear.{ints, ◌∴◌}
use Rattle.integers.proofs.Machine.{test-not-lt}
use Rattle.integers.proofs.Order.{pos-up, mul_mono, Cases, cases}
use Rattle.integers.proofs.Order.Cases.{below, equal, above}
use Rattle.calendar.specs.Limits.{pool_limit}
use Rattle.calendar.specs.Meaning.{Calendar, Row, meant, Has, label_of, is_empty, empty}
use Rattle.calendar.specs.Algebra.{Rising, Lists}
use Rattle.calendar.specs.Lists.{keep, from, distinct}
use Rattle.calendar.specs.Granules.{granules}
use Rattle.calendar.specs.Sound.{labels_of}
use Rattle.calendar.specs.Questions.{given}
use Rattle.granules.specs.Valid.{Valid}
use Rattle.granules.proofs.Tests.{true≢false, decided, equal-iff, lt_z-iff, none_or_some}
use Rattle.granules.proofs.Lists.{mem-from, mem-keep, rising-from, rising-keep, rising-head, rising-tail, distinct-lists}
use Rattle.granules.proofs.Rows.{meant-some, meant-cell, cell-meant, labels-mem, mem-labels, label-index}
use Rattle.granules.proofs.Count.{granules-count, granules-at-most}
use Rattle.cursors.specs.Found.{Sound}
use Rattle.cursors.specs.Search.{leading}
use Rattle.row_check.specs.Order.{risen, labels_sound}
use Rattle.counts.specs.Labels.{rises, greatest}
use Rattle.cursors.proofs.Numbers.{Numbers, numbers, valid}
use Rattle.cursors.proofs.Search.{run-cons, run-fails}
use Rattle.cursors.proofs.Cells.{label-full, empty-iff}
use Rattle.cursors.proofs.Bounds.{cell-bound}
use Rattle.row_check.proofs.Order.{labels-range, sound-falls, sound-rises, labels-left}
use Rattle.row_check.proofs.Instants.{Cells, first_cell, rest, own-cells, has-label}
use Rattle.counts.proofs.Counts.{distinct-same, counted_is}

-- ---- a rising list with none above b, and those of it that are below b

-- b is one of them or not
below_length : (b : ℤ) (l : List ℤ) → Rising l → ((i : ℤ) → Memᴰ i l → i ≤ℤ b)
    → (Memᴰ b l → suc (length (keep (λ i. lt_z i b) l)) ≡ length l) × ((Memᴰ b l → ⊥) → length (keep (λ i. lt_z i b) l) ≡ length l)
below_length b [] r h = (λ m. absurd (mathlib.Core.List.Memᴰ.not-nil m), λ f. refl)
below_length b (x ∷ l) r h = by (lt_z x b) refl (below_length b l (rising-tail x l r) (λ i m. h i (mathlib.Core.List.Memᴰ.tail m)))
  where
    by : (t : Bool) → lt_z x b ≡ t
        → (Memᴰ b l → suc (length (keep (λ i. lt_z i b) l)) ≡ length l) × ((Memᴰ b l → ⊥) → length (keep (λ i. lt_z i b) l) ≡ length l)
        → (Memᴰ b (x ∷ l) → suc (length (cond t (x ∷ keep (λ i. lt_z i b) l) (keep (λ i. lt_z i b) l))) ≡ suc (length l))
        × ((Memᴰ b (x ∷ l) → ⊥) → length (cond t (x ∷ keep (λ i. lt_z i b) l) (keep (λ i. lt_z i b) l)) ≡ suc (length l))
    by true e ih =
        let o = (lt_z-iff x b).0 e in (
          λ m. ⊎_elim (λ (q : b ≡ x). absurd (q ∴ o ∴ simp ints (omega arith))) (λ (n : Memᴰ b l). ap suc (ih.0 n)) (mathlib.Core.List.Memᴰ.cases_cons m),
          λ f. ap suc (ih.1 (λ m. f (mathlib.Core.List.Memᴰ.tail m))),
        )
    by false e ih =
        let q : b ≡ x = (test-not-lt x b).0 e ∴ h x (mathlib.Core.List.Memᴰ.head refl) ∴ simp ints (omega arith) in
        let out : Memᴰ b l → ⊥ = λ m. rising-head x l r b m ∴ q ∴ simp ints (omega arith) in
        (λ m. ap suc (ih.1 out), λ f. absurd (f (mathlib.Core.List.Memᴰ.head q)))

-- ---- the labels of a row, each once

-- the labels of the instants are those of the cells
map-cells : (c : Calendar) (t : ℤ) (l : List ℤ) → Cells c t l → map c (from t (length l)) ≡ map label_of l
map-cells c t [] h = refl
map-cells c t (z ∷ l) h = ap₂ ◌∷◌ (first_cell c t z l h) (map-cells c (t +ℤ pos 1) l (rest c t z l h))

-- the leading empty cells add none
skip-leading : (l : List ℤ) → distinct (map label_of l) ≡ distinct (map label_of (drop (leading l) l))
skip-leading [] = rw drop-nil
skip-leading (z ∷ l) = by (is_empty z) refl (skip-leading l)
  where
    by : (b : Bool) → is_empty z ≡ b → distinct (map label_of l) ≡ distinct (map label_of (drop (leading l) l))
        → distinct (label_of z ∷ map label_of l) ≡ distinct (map label_of (drop (leading (z ∷ l)) (z ∷ l)))
    by true e ih =
        ap (λ (b : Bool). distinct (cond b none (some z) ∷ map label_of l)) e
        ∙ ih
        ∙ ap (λ (i : ℕ). distinct (map label_of (drop i (z ∷ l)))) (sym (run-cons is_empty z l true e))
    by false e ih = ap (λ (i : ℕ). distinct (map label_of (drop i (z ∷ l)))) (sym (run-cons is_empty z l false e))

module _ (period distance : ℤ) (cells : List ℤ) (s : Sound period distance cells) where
  abbrev row : Row
  row = given period distance cells

  n : Numbers period distance cells
  n = numbers period distance cells s

  v : Valid row
  v = valid period distance cells s

  some-label : leading cells < length cells
  some-label = has-label period distance cells s

  -- the first label, and the cells from it on
  abbrev f : ℤ
  f = get_or cells (leading cells) empty

  abbrev l : List ℤ
  l = drop (leading cells) cells

  passes : labels_sound (up distance) cells ≡ true
  passes = sym (labels-left row n.whole n.low n.middle n.high) ∙ s

  -- the last label
  pub last-label : (k : ℤ) × (risen f l ≡ some k)
  last-label = by (none_or_some (risen f l))
    where
      by : (risen f l ≡ none) ⊎ ((k : ℤ) × (risen f l ≡ some k)) → (k : ℤ) × (risen f l ≡ some k)
      by (inl e) = absurd (true≢false passes (sound-falls (up distance) cells empty some-label e))
      by (inr h) = h

  abbrev k : ℤ
  k = last-label.0

  first-is : label_of f ≡ some f
  first-is = label-full f (λ e. true≢false ((empty-iff f).1 e) (run-fails is_empty cells empty some-label))

  pub counts : (length (distinct (some f ∷ map label_of l)) ≡ suc (rises f l)) × (greatest f l ≡ k)
  counts = counted_is f k l (cell-bound period distance cells s (leading cells) f first-is ∴ simp ints (omega arith)) last-label.1

  -- the labels of a turn
  abbrev turn : List ℤ
  turn = distinct (map (meant row) (from (pos 0) (up period)))

  turn-length : length turn ≡ suc (rises f l)
  turn-length =
      let x = map label_of (drop (suc (leading cells)) cells) in
      let h : map label_of l ≡ some f ∷ x = ap (map label_of) (drop-cons cells (leading cells) empty some-label) ∙ ap (λ (o : Option ℤ). o ∷ x) first-is in
      ap (λ (i : ℕ). length (distinct (map (meant row) (from (pos 0) i)))) (sym n.whole)
      ∙ ap (λ (y : List (Option ℤ)). length (distinct y)) (map-cells (meant row) (pos 0) cells (own-cells period distance cells s))
      ∙ ap length (skip-leading cells)
      ∙ ap (λ (y : List (Option ℤ)). length (distinct y)) h
      ∙ ap length (sym (distinct-same f x))
      ∙ ap (λ (y : List (Option ℤ)). length (distinct (some f ∷ y))) (sym h)
      ∙ counts.0

  -- a label of the turn is one of the cells
  abbrev InTurn : ℤ → Type 0
  InTurn j = (u : ℤ) × Memᴰ u (from (pos 0) (up period)) × (meant row u ≡ some j)

  turn-cells : (j : ℤ) → InTurn j ↔ Memᴰ j (labels_of cells)
  turn-cells j = (
    λ (u, m, e).
        let b = (mem-from u (pos 0) (up period)).0 m in
        let p = pos-up b.0 in
        mem-labels cells (up u) j (sym (meant-cell row (up u) (omega (arith, simp ints at b.1, simp ints at p))) ∙ ap (meant row) p ∙ e),
    λ m.
        let c = labels-mem cells j m in
        let i = label-index cells c.0 j c.1 in
        (pos c.0, (mem-from (pos c.0) (pos 0) (up period)).1 (i ∴ n.whole ∴ simp ints (omega arith)), cell-meant row n.whole c.0 j c.1),
  )

  range : ((i : ℤ) → Memᴰ i (labels_of cells) → (f ≤ℤ i) × (i ≤ℤ k)) × Memᴰ k (labels_of cells) × Memᴰ f (labels_of cells)
  range = labels-range (up distance) cells empty some-label k last-label.1

  turn-lists : Lists InTurn turn
  turn-lists = distinct-lists (meant row) v.ordered (from (pos 0) (up period)) (rising-from (pos 0) (up period))

  -- the first label of the next turn
  abbrev next : ℤ
  next = f +ℤ pos (up distance)

  last-bound : k ≤ℤ next
  last-bound = ((sound-rises (up distance) cells empty some-label k last-label.1).0 passes).1

  -- a label of the turn q that is from the first on and below that of the next turn is one of the first turn
  first-turn : (j q : ℤ) → Memᴰ (j -ℤ pos (up distance) *ℤ q) (labels_of cells) → f ≤ℤ j → j <ℤ next → Cases q (pos 0) → Memᴰ j (labels_of cells)
  first-turn j q m lo hi (below h) =
      let one : q ≤ℤ negsuc 0 = h ∴ simp ints (omega arith) in
      let e : f ≡ j = mul_mono (up distance) one ∴ (range.0 _ m).1 ∴ last-bound ∴ lo ∴ simp ints (omega arith) in
      subst (λ (i : ℤ). Memᴰ i (labels_of cells)) e range.2
  first-turn j q m lo hi (equal h) =
      let e : j -ℤ pos (up distance) *ℤ q ≡ j = ap (λ (i : ℤ). pos (up distance) *ℤ i) h ∴ simp ints (omega arith) in
      subst (λ (i : ℤ). Memᴰ i (labels_of cells)) e m
  first-turn j q m lo hi (above h) =
      let one : pos 1 ≤ℤ q = h ∴ simp ints (omega arith) in
      absurd (mul_mono (up distance) one ∴ (range.0 _ m).0 ∴ hi ∴ simp ints (omega arith))

  in-turn : (j : ℤ) → Has (meant row) j → f ≤ℤ j → j <ℤ next → Memᴰ j (labels_of cells)
  in-turn j (t, e) lo hi =
      let q = floor_div t (up period) in
      first-turn j q (mem-labels cells (floor_mod t (up period)) (j -ℤ pos (up distance) *ℤ q) ((meant-some row t j).0 e)) lo hi (cases q (pos 0))

  -- the labels from the first on and below that of the next turn
  abbrev window : List ℤ
  window = keep (λ i. lt_z i next) turn

  window-lists : Lists (λ j. Has (meant row) j × (f ≤ℤ j) × (j <ℤ next)) window
  window-lists = record {
    rising = rising-keep (λ i. lt_z i next) turn turn-lists.rising;
    member = λ j. (
      λ h. (mem-keep (λ i. lt_z i next) j turn).1 ((turn-lists.member j).0 ((turn-cells j).1 (in-turn j h.0 h.1 h.2)), (lt_z-iff j next).1 h.2),
      λ m.
          let h = (mem-keep (λ i. lt_z i next) j turn).0 m in
          let i = (turn-lists.member j).1 h.0 in
          ((i.0, i.2), (range.0 j ((turn-cells j).0 i)).0, (lt_z-iff j next).0 h.1),
    );
  }

  window-length : length window ≡ granules row
  window-length = granules-count row v f window window-lists

  parts : (Memᴰ next turn → suc (length window) ≡ length turn) × ((Memᴰ next turn → ⊥) → length window ≡ length turn)
  parts = below_length next turn turn-lists.rising (λ i m. (range.0 i ((turn-cells i).0 ((turn-lists.member i).1 m))).1 ∴ last-bound ∴ simp ints (omega arith))

  -- the last label is that of the next turn, or is not
  pub granules-wrapped : greatest f l ≡ f +ℤ pos (up distance) → granules row ≡ rises f l
  granules-wrapped e =
      let k-is : k ≡ next = sym counts.1 ∙ e in
      let m = (turn-lists.member next).0 ((turn-cells next).1 (subst (λ (i : ℤ). Memᴰ i (labels_of cells)) k-is range.1)) in
      omega (arith, parts.0 m, window-length, turn-length)

  pub granules-apart : (greatest f l ≡ f +ℤ pos (up distance) → ⊥) → granules row ≡ suc (rises f l)
  granules-apart g =
      let out : Memᴰ next turn → ⊥ =
      λ m. g (counts.1 ∙ ((range.0 next ((turn-cells next).0 ((turn-lists.member next).1 m))).1 ∴ last-bound ∴ simp ints (omega arith))) in
      omega (arith, parts.1 out, window-length, turn-length)

  pub rises-few : rises f l ≤ pool_limit
  rises-few = by (decided (equal-iff (greatest f l) next))
    where
      by : (greatest f l ≡ f +ℤ pos (up distance)) ⊎ (greatest f l ≡ f +ℤ pos (up distance) → ⊥) → rises f l ≤ pool_limit
      by (inl e) = omega (arith, granules-wrapped e, granules-at-most row, n.middle, n.high)
      by (inr g) = omega (arith, granules-apart g, granules-at-most row, n.middle, n.high)
