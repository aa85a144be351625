-- The labels of a row, counted cell by cell.
-- Assumes nothing.
use mathlib.Core.Path.{◌≡◌, refl, sym, ◌∙◌, ap, ap₂}
use mathlib.Core.Bool.{Bool, true, false, cond}
use mathlib.Core.Option.{Option, none, some}
use mathlib.Core.List.{List, [], ◌∷◌, map}
use Prim.Native.Nat.{ℕ, suc, ◌+◌, ◌≤◌, ◌<◌}
use native.Mathlib.Numerals.{add-one}
use native.Mathlib.Omega.{arith}
use lib.IntN.{ℤ}
use lib.Signed.{◌≤ℤ◌, le_z, lt_z}
use lib.ListN.{length, get_or, drop, drop_of_length-le}
use lib.Seq.{drop-cons}
use Rattle.integers.proofs.Linear.{ints, ◌∴◌}
use Rattle.integers.proofs.Machine.{test-not-lt}
use Rattle.calendar.specs.Meaning.{label_of, is_empty, empty}
use Rattle.calendar.specs.Lists.{equal, distinct}
use Rattle.calendar.specs.Sound.{labels_of}
use Rattle.granules.proofs.Tests.{equal-iff, false-iff, le_z-iff, lt_z-iff, some_inj, none≢some}
use Rattle.granules.proofs.Lists.{prefix}
use Rattle.granules.proofs.Rows.{labels-cons, labels-skip}
use Rattle.row_check.specs.Order.{risen}
use Rattle.counts.specs.Labels.{rises, greatest}
use Rattle.cursors.proofs.Cells.{empty-iff}

module _ (cells : List ℤ) (i : ℕ) (d : ℤ) (here : i < length cells) where
  -- the cell at i, and those behind it
  abbrev z : ℤ
  z = get_or cells i d

  abbrev l : List ℤ
  l = drop (i + 1) cells

  rises-here : (j : ℤ) → rises j (drop i cells) ≡ cond (lt_z j z) (suc (rises z l)) (rises j l)
  unfolding rises
  rises-here j = rw (add-one, drop-cons cells i d)

  greatest-here : (j : ℤ) → greatest j (drop i cells) ≡ cond (lt_z j z) (greatest z l) (greatest j l)
  unfolding greatest
  greatest-here j = rw (add-one, drop-cons cells i d)

  pub count-more : (j : ℤ) → lt_z j z ≡ true → (rises j (drop i cells) ≡ suc (rises z l)) × (greatest j (drop i cells) ≡ greatest z l)
  count-more j e = (rises-here j ∙ ap (λ (b : Bool). cond b (suc (rises z l)) (rises j l)) e, greatest-here j ∙ ap (λ (b : Bool). cond b (greatest z l) (greatest j l)) e)

  pub count_same : (j : ℤ) → lt_z j z ≡ false → (rises j (drop i cells) ≡ rises j l) × (greatest j (drop i cells) ≡ greatest j l)
  count_same j e = (rises-here j ∙ ap (λ (b : Bool). cond b (suc (rises z l)) (rises j l)) e, greatest-here j ∙ ap (λ (b : Bool). cond b (greatest z l) (greatest j l)) e)

pub count-end : (cells : List ℤ) (i : ℕ) (j : ℤ) → length cells ≤ i → (rises j (drop i cells) ≡ 0) × (greatest j (drop i cells) ≡ j)
unfolding rises greatest
count-end cells i j h = rw (drop_of_length-le cells h) (refl, refl)

-- ---- the labels of a row that never fall, each once

-- the first label is the head
distinct_head : (j : ℤ) (x : List (Option ℤ)) → (m : List ℤ) × (distinct (some j ∷ x) ≡ j ∷ m)
distinct_head j x = by (distinct x)
  where
    at : (k : ℤ) (m : List ℤ) (b : Bool) → equal j k ≡ b → (n : List ℤ) × (cond b (k ∷ m) (j ∷ k ∷ m) ≡ j ∷ n)
    at k m true e = (m, ap (λ (i : ℤ). i ∷ m) (sym ((equal-iff j k).0 e)))
    at k m false e = (k ∷ m, refl)

    by : (l : List ℤ) → (m : List ℤ) × (prefix j l ≡ j ∷ m)
    by [] = ([], refl)
    by (k ∷ m) = at k m (equal j k) refl

-- two labels in a row
pub distinct-same : (j : ℤ) (x : List (Option ℤ)) → distinct (some j ∷ some j ∷ x) ≡ distinct (some j ∷ x)
distinct-same j x =
    let h = distinct_head j x in
    ap (prefix j) h.1 ∙ ap (λ (b : Bool). cond b (j ∷ h.0) (j ∷ j ∷ h.0)) ((equal-iff j j).1 refl) ∙ sym h.1

distinct-other : (j k : ℤ) (x : List (Option ℤ)) → (j ≡ k → ⊥) → length (distinct (some j ∷ some k ∷ x)) ≡ suc (length (distinct (some k ∷ x)))
distinct-other j k x f =
    let h = distinct_head k x in
    ap (λ (l : List ℤ). length (prefix j l)) h.1
    ∙ ap (λ (b : Bool). length (cond b (k ∷ h.0) (j ∷ k ∷ h.0))) ((false-iff (equal-iff j k)).1 f)
    ∙ ap (λ (l : List ℤ). suc (length l)) (sym h.1)

module _ (j z : ℤ) (l : List ℤ) where
  pub rises-cons : (b : Bool) → lt_z j z ≡ b → (rises j (z ∷ l) ≡ cond b (suc (rises z l)) (rises j l)) × (greatest j (z ∷ l) ≡ cond b (greatest z l) (greatest j l))
  unfolding rises greatest
  rises-cons b e = (ap (λ (x : Bool). cond x (suc (rises z l)) (rises j l)) e, ap (λ (x : Bool). cond x (greatest z l) (greatest j l)) e)

-- what is counted are the different labels, and k is the last
pub counted_is : (j k : ℤ) (l : List ℤ) → empty ≤ℤ j → risen j l ≡ some k
    → (length (distinct (some j ∷ map label_of l)) ≡ suc (rises j l)) × (greatest j l ≡ k)
unfolding rises greatest risen
counted_is j k [] low e = (refl, some_inj e)
counted_is j k (z ∷ l) low e = by (is_empty z) refl (le_z j z) refl (lt_z j z) refl (counted_is j k l low) (counted_is z k l)
  where
    Counted : ℤ → List ℤ → Type 0
    Counted j l = (length (distinct (some j ∷ map label_of l)) ≡ suc (rises j l)) × (greatest j l ≡ k)

    -- the cell's label in front of the others
    front : (b : Bool) → is_empty z ≡ b → length (distinct (some j ∷ map label_of (z ∷ l))) ≡ length (distinct (some j ∷ cond b none (some z) ∷ map label_of l))
    front b p = ap (λ (x : Bool). length (distinct (some j ∷ cond x none (some z) ∷ map label_of l))) p

    rest : (a b : Bool) → is_empty z ≡ a → le_z j z ≡ b → cond a (risen j l) (cond b (risen z l) none) ≡ some k
    rest a b p q = ap₂ (λ (x y : Bool). cond x (risen j l) (cond y (risen z l) none)) (sym p) (sym q) ∙ e

    by : (a : Bool) → is_empty z ≡ a → (b : Bool) → le_z j z ≡ b → (c : Bool) → lt_z j z ≡ c → (risen j l ≡ some k → Counted j l) → (empty ≤ℤ z → risen z l ≡ some k → Counted z l) → Counted j (z ∷ l)
    by true p b q true r ih ih' = absurd ((empty-iff z).0 p ∴ (lt_z-iff j z).0 r ∴ low ∴ simp ints (omega arith))
    by true p b q false r ih ih' =
        let s = rises-cons j z l false r in
        let h = ih (rest true b p q) in
        (front true p ∙ h.0 ∙ ap suc (sym s.0), s.1 ∙ h.1)
    by false p false q c r ih ih' = absurd (none≢some (rest false false p q))
    by false p true q true r ih ih' =
        let s = rises-cons j z l true r in
        let o = (lt_z-iff j z).0 r in
        let h = ih' (low ∴ o ∴ simp ints (omega arith)) (rest false true p q) in
        (front false p ∙ distinct-other j z (map label_of l) (λ x. x ∴ o ∴ simp ints (omega arith)) ∙ ap suc (h.0 ∙ sym s.0), s.1 ∙ h.1)
    by false p true q false r ih ih' =
        let s = rises-cons j z l false r in
        let o = (le_z-iff j z).0 q in
        let same : j ≡ z = o ∴ (test-not-lt j z).0 r ∴ simp ints (omega arith) in
        let h = ih (ap (λ (x : ℤ). risen x l) same ∙ rest false true p q) in
        (front false p ∙ ap (λ (x : ℤ). length (distinct (some j ∷ some x ∷ map label_of l))) (sym same) ∙ ap length (distinct-same j (map label_of l)) ∙ h.0 ∙ ap suc (sym s.0), s.1 ∙ h.1)

-- ---- the cells with a label

module _ (cells : List ℤ) (i : ℕ) (d : ℤ) (here : i < length cells) where
  pub labelled-more : is_empty (get_or cells i d) ≡ false → length (labels_of (drop i cells)) ≡ suc (length (labels_of (drop (i + 1) cells)))
  labelled-more e = rw (add-one, drop-cons cells i d) (ap length (labels-cons (get_or cells i d) (get_or cells i d) (drop (suc i) cells) (ap (λ (b : Bool). cond b none (some (get_or cells i d))) e)))

  pub labelled-same : is_empty (get_or cells i d) ≡ true → length (labels_of (drop i cells)) ≡ length (labels_of (drop (i + 1) cells))
  labelled-same e = rw (add-one, drop-cons cells i d) (ap length (labels-skip (get_or cells i d) (drop (suc i) cells) (ap (λ (b : Bool). cond b none (some (get_or cells i d))) e)))

pub labelled-end : (cells : List ℤ) (i : ℕ) → length cells ≤ i → length (labels_of (drop i cells)) ≡ 0
labelled-end cells i h = rw (drop_of_length-le cells h)
