-- A row that has a label at every instant: it has as many labels as cells, and each cell that is another than the one before has a new label.
-- Assumes nothing.
use mathlib.Core.Path.{◌≡◌, refl, sym, ◌∙◌, ap, ap₂}
use mathlib.Core.Logic.{◌⊎◌, inl, inr}
use mathlib.Core.Option.{none, some}
use mathlib.Core.Bool.{Bool, true, false, cond}
use mathlib.Core.List.{List, [], ◌∷◌}
use Prim.Native.Nat.{ℕ, zero, suc, ◌+◌, ◌-◌, ◌≤◌, ◌<◌}
use native.Mathlib.Numerals.{add-one}
use native.Mathlib.Omega.{arith}
use lib.IntN.{ℤ}
use lib.Signed.{◌≤ℤ◌, le_z}
use lib.ListN.{length, get_or, drop, drop_of_length-le}
use lib.Seq.{drop-cons}
use Rattle.integers.proofs.Linear.{ints, ◌∴◌}
use Rattle.calendar.specs.Meaning.{label_of, is_empty, empty}
use Rattle.calendar.specs.Lists.{equal}
use Rattle.calendar.specs.Sound.{labels_of}
use Rattle.granules.proofs.Tests.{equal-iff, false-iff, le_z-iff, lt_z-iff, some_inj, none≢some}
use Rattle.granules.proofs.Equal.{cell-cases}
use Rattle.granules.proofs.Rows.{labels-cons, labels-skip}
use Rattle.cursors.specs.Search.{run, leading}
use Rattle.cursors.proofs.Search.{run-cons}
use Rattle.cursors.proofs.Cells.{empty-iff}
use Rattle.row_check.specs.Order.{risen}
use Rattle.counts.specs.Labels.{rises, differing}
use Rattle.counts.proofs.Counts.{rises-cons}

-- ---- as many labels as cells

labels-few : (l : List ℤ) → length (labels_of l) ≤ length l
labels-few [] = omega arith
labels-few (z ∷ l) = by (cell-cases z) (labels-few l)
  where
    by : ((label_of z ≡ none) × (z ≡ empty)) ⊎ (label_of z ≡ some z) → length (labels_of l) ≤ length l → length (labels_of (z ∷ l)) ≤ suc (length l)
    by (inl e) h = omega (arith, h, ap length (labels-skip z l e.0))
    by (inr e) h = omega (arith, h, ap length (labels-cons z z l e))

-- the first cell has one, and so have the others
pub whole-cons : (z : ℤ) (l : List ℤ) → length (labels_of (z ∷ l)) ≡ length (z ∷ l) → (label_of z ≡ some z) × (length (labels_of l) ≡ length l)
whole-cons z l e = by (cell-cases z)
  where
    by : ((label_of z ≡ none) × (z ≡ empty)) ⊎ (label_of z ≡ some z) → (label_of z ≡ some z) × (length (labels_of l) ≡ length l)
    by (inl n) = absurd (omega (arith, e, labels-few l, ap length (labels-skip z l n.0)))
    by (inr n) = (n, omega (arith, e, ap length (labels-cons z z l n)))

pub all-labelled : (l : List ℤ) → length (labels_of l) ≡ length l → (i : ℕ) → i < length l → (j : ℤ) × (label_of (get_or l i empty) ≡ some j)
all-labelled [] e i h = absurd (omega arith)
all-labelled (z ∷ l) e zero h = (z, (whole-cons z l e).0)
all-labelled (z ∷ l) e (suc i) h = all-labelled l (whole-cons z l e).1 i (omega arith)

-- ---- a list that never falls

not-empty : (z : ℤ) → label_of z ≡ some z → is_empty z ≡ false
not-empty z e = (false-iff (empty-iff z)).1 (λ h. none≢some (sym (ap label_of h) ∙ e))

-- j and the labels of l never fall, and k is the last
risen-cons : (j k z : ℤ) (l : List ℤ) → is_empty z ≡ false → risen j (z ∷ l) ≡ some k → (j ≤ℤ z) × (risen z l ≡ some k)
unfolding risen
risen-cons j k z l n e = by (le_z j z) refl
  where
    rest : (b : Bool) → le_z j z ≡ b → cond b (risen z l) none ≡ some k
    rest b q = ap₂ (λ (x y : Bool). cond x (risen j l) (cond y (risen z l) none)) (sym n) (sym q) ∙ e

    by : (b : Bool) → le_z j z ≡ b → (j ≤ℤ z) × (risen z l ≡ some k)
    by true q = ((le_z-iff j z).0 q, rest true q)
    by false q = absurd (none≢some (rest false q))

differing-cons : (j z : ℤ) (l : List ℤ) (b : Bool) → equal z j ≡ b → differing j (z ∷ l) ≡ cond b (differing z l) (suc (differing z l))
unfolding differing
differing-cons j z l b e = ap (λ (x : Bool). cond x (differing z l) (suc (differing z l))) e

-- where every cell has a label, each that differs is greater
pub whole-rises : (j k : ℤ) (l : List ℤ) → length (labels_of l) ≡ length l → risen j l ≡ some k → rises j l ≡ differing j l
unfolding rises differing
whole-rises j k [] w e = refl
whole-rises j k (z ∷ l) w e =
    let c = whole-cons z l w in
    let r = risen-cons j k z l (not-empty z c.0) e in
    by (equal z j) refl r.0 (whole-rises z k l c.1 r.1)
  where
    by : (b : Bool) → equal z j ≡ b → j ≤ℤ z → rises z l ≡ differing z l → rises j (z ∷ l) ≡ differing j (z ∷ l)
    by true q o ih =
        let same : z ≡ j = (equal-iff z j).0 q in
        (rises-cons j z l false ((false-iff (lt_z-iff j z)).1 (λ h. h ∴ same ∴ simp ints (omega arith)))).0
        ∙ ap (λ (x : ℤ). rises x l) (sym same) ∙ ih ∙ sym (differing-cons j z l true q)
    by false q o ih =
        let other : z ≡ j → ⊥ = (false-iff (equal-iff z j)).0 q in
        (rises-cons j z l true ((lt_z-iff j z).1 (o ∴ other ∴ simp ints (omega arith)))).0 ∙ ap suc ih ∙ sym (differing-cons j z l false q)

-- and the last cell is the last label
pub whole-last : (j k : ℤ) (l : List ℤ) → length (labels_of l) ≡ length l → risen j l ≡ some k → get_or (j ∷ l) (length l) empty ≡ k
unfolding risen
whole-last j k [] w e = some_inj e
whole-last j k (z ∷ l) w e =
    let c = whole-cons z l w in
    whole-last z k l c.1 (risen-cons j k z l (not-empty z c.0) e).1

-- so much for the whole row, whose first label is its first cell
pub whole-leading : (l : List ℤ) → length (labels_of l) ≡ length l → leading l ≡ 0
unfolding run
whole-leading [] w = refl
whole-leading (z ∷ l) w = run-cons is_empty z l false (not-empty z (whole-cons z l w).0)

pub whole-counted : (l : List ℤ) (k : ℤ) → 0 < length l → length (labels_of l) ≡ length l → risen (get_or l 0 empty) l ≡ some k
    → (rises (get_or l 0 empty) l ≡ differing (get_or l 0 empty) (drop 1 l)) × (get_or l (length l - 1) empty ≡ k)
whole-counted [] k h w e = absurd (omega arith)
whole-counted (z ∷ l) k h w e =
    let c = whole-cons z l w in
    let r = risen-cons z k z l (not-empty z c.0) e in
    let n : length (z ∷ l) - 1 ≡ length l = omega arith in (
      whole-rises z k (z ∷ l) w e ∙ differing-cons z z l true ((equal-iff z z).1 refl),
      ap (λ (i : ℕ). get_or (z ∷ l) i empty) n ∙ whole-last z k l c.1 r.1,
    )

-- ---- the count, cell by cell

module _ (cells : List ℤ) (i : ℕ) (d : ℤ) (here : i < length cells) where
  differing-here : (j : ℤ) (b : Bool) → equal (get_or cells i d) j ≡ b
      → differing j (drop i cells) ≡ cond b (differing (get_or cells i d) (drop (i + 1) cells)) (suc (differing (get_or cells i d) (drop (i + 1) cells)))
  differing-here j b e = rw (add-one, drop-cons cells i d) (differing-cons j (get_or cells i d) (drop (suc i) cells) b e)

  pub differing-same : (j : ℤ) → get_or cells i d ≡ j → differing j (drop i cells) ≡ differing (get_or cells i d) (drop (i + 1) cells)
  differing-same j e = differing-here j true ((equal-iff (get_or cells i d) j).1 e)

  pub differing-more : (j : ℤ) → (get_or cells i d ≡ j → ⊥) → differing j (drop i cells) ≡ suc (differing (get_or cells i d) (drop (i + 1) cells))
  differing-more j f = differing-here j false ((false-iff (equal-iff (get_or cells i d) j)).1 f)

pub differing-end : (cells : List ℤ) (i : ℕ) (j : ℤ) → length cells ≤ i → differing j (drop i cells) ≡ 0
unfolding differing
differing-end cells i j h = rw (drop_of_length-le cells h) refl
