-- Check 13 in the order of the code: a row whose labels never fall is known by its first and its last label, and the numbers decide before the labels.
-- Assumes nothing.
use mathlib.Core.Path.{◌≡◌, refl, sym, ◌∙◌, ap}
use mathlib.Core.Logic.{◌↔◌, ⊎_elim}
use mathlib.Core.Option.{Option, none, some}
use mathlib.Core.Bool.{Bool, true, false, not, ◌&&◌, cond}
use mathlib.Core.List.Memᴰ
use mathlib.Core.List.{List, [], ◌∷◌, ◌++◌, Memᴰ}
use Prim.Native.Nat.{ℕ, suc, ◌+◌, ◌<◌, ◌≤◌}
use native.Mathlib.Numerals.{add-one}
use native.Mathlib.Omega.{arith}
use lib.Dec.{eqb}
use lib.IntN.{ℤ, pos, negsuc, ◌+ℤ◌}
use lib.Signed.{◌≤ℤ◌, le_z}
use lib.ListN.{length, get_or, drop, drop_of_length-le}
use lib.Seq.{drop-cons}
use Rattle.integers.proofs.Linear.{ints, ◌∴◌}
use Rattle.calendar.specs.Meaning.{Row, is_empty, empty, label_of}
use Rattle.calendar.specs.Lists.{all, first}
use Rattle.calendar.specs.Limits.{in_range, pool_limit}
use Rattle.calendar.specs.Sound.{labels_of, never_falls, sound}
use Rattle.calendar.specs.Questions.{given}
use Rattle.granules.proofs.Tests.{and-iff, false-iff, eqb-iff, leb-iff, le_z-iff, some_inj, none≢some}
use Rattle.cursors.specs.Search.{leading}
use Rattle.row_check.specs.Order.{risen, labels_sound}
use Rattle.granules.proofs.Rows.{labels-cons, labels-skip}
use Rattle.cursors.proofs.Numbers.{Numbers, numbers}
use Rattle.cursors.proofs.Search.{run-cons, run-fails}
use Rattle.cursors.proofs.Cells.{empty-iff}
use Rattle.cursors.proofs.Bounds.{in-range}

-- ---- numbers that never fall from j on

-- the last of them
chain : ℤ → List ℤ → Option ℤ
chain j [] = some j
chain j (i ∷ l) = cond (le_z j i) (chain i l) none

and-true : (b : Bool) → b && true ≡ b
and-true true = refl
and-true false = refl

and-false : (b : Bool) → b && false ≡ false
and-false true = refl
and-false false = refl

-- a step of the chain
chain-cons : (j i : ℤ) (l : List ℤ) (b : Bool) → le_z j i ≡ b → chain j (i ∷ l) ≡ cond b (chain i l) none
unfolding chain
chain-cons j i l b e = ap (λ (x : Bool). cond x (chain i l) none) e

chain-nil : (j : ℤ) → chain j [] ≡ some j
unfolding chain
chain-nil j = refl

chain-le : (j k : ℤ) (l : List ℤ) → chain j l ≡ some k → j ≤ℤ k
chain-le j k [] e = some_inj (sym (chain-nil j) ∙ e) ∴ simp ints (omega arith)
chain-le j k (i ∷ l) e = by (le_z j i) refl (chain-le i k l)
  where
    by : (b : Bool) → le_z j i ≡ b → (chain i l ≡ some k → i ≤ℤ k) → j ≤ℤ k
    by true p ih = (le_z-iff j i).0 p ∴ ih (sym (chain-cons j i l true p) ∙ e) ∴ simp ints (omega arith)
    by false p ih = absurd (none≢some (sym (chain-cons j i l false p) ∙ e))

chain-falls : (j : ℤ) (l t : List ℤ) → chain j l ≡ none → never_falls (j ∷ l ++ t) ≡ false
chain-falls j [] t e = absurd (none≢some (sym e ∙ chain-nil j))
chain-falls j (i ∷ l) t e = by (le_z j i) refl (chain-falls i l t)
  where
    by : (b : Bool) → le_z j i ≡ b → (chain i l ≡ none → never_falls (i ∷ l ++ t) ≡ false) → le_z j i && never_falls (i ∷ l ++ t) ≡ false
    by true p ih = rw p (ih (sym (chain-cons j i l true p) ∙ e))
    by false p ih = rw p

chain-ends : (j k b : ℤ) (l : List ℤ) → chain j l ≡ some k → never_falls (j ∷ l ++ (b ∷ [])) ≡ le_z k b
chain-ends j k b [] e = and-true (le_z j b) ∙ ap (λ (x : ℤ). le_z x b) (some_inj (sym (chain-nil j) ∙ e))
chain-ends j k b (i ∷ l) e = by (le_z j i) refl (chain-ends i k b l)
  where
    by : (x : Bool) → le_z j i ≡ x → (chain i l ≡ some k → never_falls (i ∷ l ++ (b ∷ [])) ≡ le_z k b) → le_z j i && never_falls (i ∷ l ++ (b ∷ [])) ≡ le_z k b
    by true p ih = rw p (ih (sym (chain-cons j i l true p) ∙ e))
    by false p ih = absurd (none≢some (sym (chain-cons j i l false p) ∙ e))

-- all are within the limits exactly if the first is not too small and the last not too great
chain-range : (j k : ℤ) (l : List ℤ) → chain j l ≡ some k → (all in_range (j ∷ l) ≡ true) ↔ ((negsuc 999999999 ≤ℤ j) × (k ≤ℤ pos 1000000000))
chain-range j k [] e =
    let p = some_inj (sym (chain-nil j) ∙ e) in
    simp (and-true, in-range) (p ∴ simp ints (omega arith))
chain-range j k (i ∷ l) e = by (le_z j i) refl (chain-range i k l)
  where
    by : (b : Bool) → le_z j i ≡ b → (chain i l ≡ some k → (all in_range (i ∷ l) ≡ true) ↔ ((negsuc 999999999 ≤ℤ i) × (k ≤ℤ pos 1000000000)))
        → (in_range j && all in_range (i ∷ l) ≡ true) ↔ ((negsuc 999999999 ≤ℤ j) × (k ≤ℤ pos 1000000000))
    by true p ih =
        let c = sym (chain-cons j i l true p) ∙ e in
        let o = (le_z-iff j i).0 p in
        let m = chain-le i k l c in (
          λ h. let a = (and-iff (in_range j) (all in_range (i ∷ l))).0 h in (((in-range j).0 a.0).0, ((ih c).0 a.1).1),
          λ h. (and-iff (in_range j) (all in_range (i ∷ l))).1 ((in-range j).1 (h ∴ o ∴ m ∴ simp ints (omega arith)), (ih c).1 (h ∴ o ∴ simp ints (omega arith))),
        )
    by false p ih = absurd (none≢some (sym (chain-cons j i l false p) ∙ e))

-- all are from the first to the last, which is one of them
chain-members : (j k : ℤ) (l : List ℤ) → chain j l ≡ some k → ((i : ℤ) → Memᴰ i (j ∷ l) → (j ≤ℤ i) × (i ≤ℤ k)) × Memᴰ k (j ∷ l)
chain-members j k [] e =
    let p = some_inj (sym (chain-nil j) ∙ e) in
    (λ i m. Memᴰ.eq_of_singleton m ∴ p ∴ simp ints (omega arith), Memᴰ.head (sym p))
chain-members j k (i ∷ l) e = by (le_z j i) refl (chain-members i k l)
  where
    by : (b : Bool) → le_z j i ≡ b → (chain i l ≡ some k → ((u : ℤ) → Memᴰ u (i ∷ l) → (i ≤ℤ u) × (u ≤ℤ k)) × Memᴰ k (i ∷ l))
        → ((u : ℤ) → Memᴰ u (j ∷ i ∷ l) → (j ≤ℤ u) × (u ≤ℤ k)) × Memᴰ k (j ∷ i ∷ l)
    by true p ih =
        let c = sym (chain-cons j i l true p) ∙ e in
        let o = (le_z-iff j i).0 p in
        let q = chain-le j k (i ∷ l) e in (
          λ u m. ⊎_elim (λ (x : u ≡ j). x ∴ q ∴ simp ints (omega arith)) (λ (x : Memᴰ u (i ∷ l)). (ih c).0 u x ∴ o ∴ simp ints (omega arith)) (Memᴰ.cases_cons m),
          Memᴰ.tail (ih c).1,
        )
    by false p ih = absurd (none≢some (sym (chain-cons j i l false p) ∙ e))

-- ---- the labels of a row

-- the label of a cell, by the test for empty cells
label-when : (z : ℤ) (b : Bool) → is_empty z ≡ b → label_of z ≡ cond b none (some z)
label-when z b e = ap (λ (x : Bool). cond x none (some z)) e

-- the last label is that of the chain of labels
risen-chain : (j : ℤ) (l : List ℤ) → risen j l ≡ chain j (labels_of l)
unfolding risen chain
risen-chain j [] = refl
risen-chain j (z ∷ l) = by (is_empty z) refl (risen-chain j l) (risen-chain z l)
  where
    by : (b : Bool) → is_empty z ≡ b → risen j l ≡ chain j (labels_of l) → risen z l ≡ chain z (labels_of l)
        → cond b (risen j l) (cond (le_z j z) (risen z l) none) ≡ chain j (labels_of (z ∷ l))
    by true e p q = p ∙ ap (chain j) (sym (labels-skip z l (label-when z true e)))
    by false e p q = ap (λ (o : Option ℤ). cond (le_z j z) o none) q ∙ ap (chain j) (sym (labels-cons z z l (label-when z false e)))

-- they begin where the leading empty cells end
labels_from : (l : List ℤ) (d : ℤ) → leading l < length l → labels_of l ≡ get_or l (leading l) d ∷ labels_of (drop (suc (leading l)) l)
labels_from [] d h = absurd (omega arith)
labels_from (z ∷ l) d h = by (is_empty z) refl (labels_from l d)
  where
    by : (b : Bool) → is_empty z ≡ b → (leading l < length l → labels_of l ≡ get_or l (leading l) d ∷ labels_of (drop (suc (leading l)) l))
        → labels_of (z ∷ l) ≡ get_or (z ∷ l) (leading (z ∷ l)) d ∷ labels_of (drop (suc (leading (z ∷ l))) (z ∷ l))
    by true e ih =
        let p = run-cons is_empty z l true e in
        rw p (labels-skip z l (label-when z true e) ∙ ih (omega arith))
    by false e ih = rw (run-cons is_empty z l false e) (labels-cons z z l (label-when z false e))

no-labels : (l : List ℤ) → length l ≤ leading l → labels_of l ≡ []
no-labels [] h = refl
no-labels (z ∷ l) h = by (is_empty z) refl (no-labels l)
  where
    by : (b : Bool) → is_empty z ≡ b → (length l ≤ leading l → labels_of l ≡ []) → labels_of (z ∷ l) ≡ []
    by true e ih =
        let p = run-cons is_empty z l true e in
        labels-skip z l (label-when z true e) ∙ ih (omega arith)
    by false e ih = absurd (omega (arith, run-cons is_empty z l false e))

-- ---- check 13 of the labels

-- no label
pub sound_empty : (N : ℕ) (cells : List ℤ) → length cells ≤ leading cells → labels_sound N cells ≡ false
sound_empty N cells h = rw (no-labels cells h)

module _ (N : ℕ) (cells : List ℤ) (d : ℤ) (some-label : leading cells < length cells) where
  -- the first label
  abbrev f : ℤ
  f = get_or cells (leading cells) d

  -- the others
  abbrev l : List ℤ
  l = labels_of (drop (suc (leading cells)) cells)

  labels-are : labels_of cells ≡ f ∷ l
  labels-are = labels_from cells d some-label

  sound-is : labels_sound N cells ≡ all in_range (f ∷ l) && never_falls (f ∷ l ++ ((f +ℤ pos N) ∷ []))
  sound-is = ap (λ (l : List ℤ). all in_range l && (not (eqb (length l) 0) && never_falls (l ++ ((first l +ℤ pos N) ∷ [])))) labels-are
      ∙ ap (λ (b : Bool). all in_range (f ∷ l) && (not b && never_falls (f ∷ l ++ ((f +ℤ pos N) ∷ [])))) ((false-iff (eqb-iff (suc (length l)) 0)).1 (λ e. omega arith))

  chain-is : risen f (drop (leading cells) cells) ≡ chain f l
  chain-is =
      risen-chain f (drop (leading cells) cells)
      ∙ ap (λ (m : List ℤ). chain f (labels_of m)) (drop-cons cells (leading cells) d some-label)
      ∙ ap (chain f) (labels-cons f f (drop (suc (leading cells)) cells) (label-when f false (run-fails is_empty cells d some-label)))
      ∙ chain-cons f f l true ((le_z-iff f f).1 (simp ints (omega arith)))

  -- they are from the first to the last
  pub labels-range : (k : ℤ) → risen f (drop (leading cells) cells) ≡ some k
      → ((i : ℤ) → Memᴰ i (labels_of cells) → (f ≤ℤ i) × (i ≤ℤ k)) × Memᴰ k (labels_of cells) × Memᴰ f (labels_of cells)
  labels-range k e =
      let c = chain-members f k l (sym chain-is ∙ e) in
      rw labels-are (c.0, c.1, Memᴰ.head refl)

  -- they fall
  pub sound-falls : risen f (drop (leading cells) cells) ≡ none → labels_sound N cells ≡ false
  sound-falls e = sound-is ∙ ap (λ (b : Bool). all in_range (f ∷ l) && b) (chain-falls f l ((f +ℤ pos N) ∷ []) (sym chain-is ∙ e)) ∙ and-false (all in_range (f ∷ l))

  -- they never fall, and k is the last
  pub sound-rises : (k : ℤ) → risen f (drop (leading cells) cells) ≡ some k
      → (labels_sound N cells ≡ true) ↔ (((negsuc 999999999 ≤ℤ f) × (k ≤ℤ pos 1000000000)) × (k ≤ℤ (f +ℤ pos N)))
  sound-rises k e =
      let c = sym chain-is ∙ e in
      let a = and-iff (all in_range (f ∷ l)) (le_z k (f +ℤ pos N)) in
      let r = chain-range f k l c in
      let o = le_z-iff k (f +ℤ pos N) in
      let t = sound-is ∙ ap (λ (b : Bool). all in_range (f ∷ l) && b) (chain-ends f k (f +ℤ pos N) l c) in (
        λ h. let p = a.0 (sym t ∙ h) in (r.0 p.0, o.0 p.1),
        λ h. t ∙ a.1 (r.1 h.0, o.1 h.1),
      )

-- ---- the last label, cell by cell

module _ (cells : List ℤ) (i : ℕ) (d : ℤ) (here : i < length cells) where
  -- the cell at i
  abbrev z : ℤ
  z = get_or cells i d

  risen-here : (j : ℤ) → risen j (drop i cells) ≡ cond (is_empty z) (risen j (drop (i + 1) cells)) (cond (le_z j z) (risen z (drop (i + 1) cells)) none)
  unfolding risen
  risen-here j = rw (add-one, drop-cons cells i d)

  pub risen-past : (j : ℤ) → is_empty z ≡ true → risen j (drop i cells) ≡ risen j (drop (i + 1) cells)
  risen-past j e = risen-here j ∙ ap (λ (b : Bool). cond b (risen j (drop (i + 1) cells)) (cond (le_z j z) (risen z (drop (i + 1) cells)) none)) e

  pub risen-falls : (j : ℤ) → is_empty z ≡ false → le_z j z ≡ false → risen j (drop i cells) ≡ none
  risen-falls j e f =
      risen-here j
      ∙ ap (λ (b : Bool). cond b (risen j (drop (i + 1) cells)) (cond (le_z j z) (risen z (drop (i + 1) cells)) none)) e
      ∙ ap (λ (b : Bool). cond b (risen z (drop (i + 1) cells)) none) f

  -- an empty cell is at least j only where j is the empty mark
  pub risen-on : (j : ℤ) → empty ≤ℤ j → le_z j z ≡ true → risen j (drop i cells) ≡ risen z (drop (i + 1) cells)
  risen-on j low f = by (is_empty z) refl
    where
      by : (b : Bool) → is_empty z ≡ b → risen j (drop i cells) ≡ risen z (drop (i + 1) cells)
      by true e =
          let s : j ≡ z = (empty-iff z).0 e ∴ (le_z-iff j z).0 f ∴ low ∴ simp ints (omega arith) in
          risen-past j e ∙ ap (λ (k : ℤ). risen k (drop (i + 1) cells)) s
      by false e =
          risen-here j
          ∙ ap (λ (b : Bool). cond b (risen j (drop (i + 1) cells)) (cond (le_z j z) (risen z (drop (i + 1) cells)) none)) e
          ∙ ap (λ (b : Bool). cond b (risen z (drop (i + 1) cells)) none) f

  -- from its own label on, a cell changes nothing
  pub risen-own : risen z (drop i cells) ≡ risen z (drop (i + 1) cells)
  risen-own = by (is_empty z) refl
    where
      by : (b : Bool) → is_empty z ≡ b → risen z (drop i cells) ≡ risen z (drop (i + 1) cells)
      by true e = risen-past z e
      by false e =
          risen-here z
          ∙ ap (λ (b : Bool). cond b (risen z (drop (i + 1) cells)) (cond (le_z z z) (risen z (drop (i + 1) cells)) none)) e
          ∙ ap (λ (b : Bool). cond b (risen z (drop (i + 1) cells)) none) ((le_z-iff z z).1 (simp ints (omega arith)))

pub risen-end : (cells : List ℤ) (i : ℕ) (j : ℤ) → length cells ≤ i → risen j (drop i cells) ≡ some j
unfolding risen
risen-end cells i j h = rw (drop_of_length-le cells h)

-- ---- the numbers of a row

-- where the numbers pass check 13, the labels are left
pub labels-left : (r : Row) → length r.cells ≡ r.period → 1 ≤ r.distance → r.distance ≤ r.period → r.period ≤ pool_limit → sound r ≡ labels_sound r.distance r.cells
unfolding sound
labels-left r a b c d = rw ((eqb-iff (length r.cells) r.period).1 a, (leb-iff 1 r.distance).1 b, (leb-iff r.distance r.period).1 c, (leb-iff r.period pool_limit).1 d)

-- a row whose numbers do not pass
pub unsound : (period distance : ℤ) (cells : List ℤ) → (Numbers period distance cells → ⊥) → sound (given period distance cells) ≡ false
unsound period distance cells f = by (sound (given period distance cells)) refl
  where
    by : (b : Bool) → sound (given period distance cells) ≡ b → b ≡ false
    by true e = absurd (f (numbers period distance cells e))
    by false e = refl
