-- The next instant with another label. From a cell with the label own the search goes on to the first cell of the turn whose label is another;
-- where there is none, to the first of the next turn. A label of that turn is own's exactly if its cell is own less the distance, and the
-- search ends at the cell of own itself at the latest.
-- Assumes nothing.
use mathlib.Core.Path.{◌≡◌, sym, ◌∙◌, ap}
use mathlib.Core.Logic.{◌⊎◌, inl, inr, ⊎_elim}
use mathlib.Core.Option.{none, some}
use mathlib.Core.Bool.{true, false}
use mathlib.Core.List.{List}
use Prim.Native.Nat.{ℕ, ◌+◌, ◌-◌, ◌≤◌, ◌<◌}
use native.Mathlib.Omega.{arith}
use lib.IntN.{ℤ, pos, ◌+ℤ◌, ◌-ℤ◌}
use lib.Signed.{◌≤ℤ◌, ◌<ℤ◌}
use lib.ListN.{length, get_or, drop, length-drop}
use lib.Seq.{get_or-drop}
use Rattle.integers.specs.Parts.{up}
use Rattle.integers.proofs.Linear.{ints, ◌∴◌}
use Rattle.integers.proofs.Order.{pos-up, le-or-lt}
use Rattle.calendar.specs.Meaning.{Row, meant, raise, label_of, is_empty, empty}
use Rattle.calendar.specs.Lists.{equal}
use Rattle.calendar.specs.Questions.{given}
use Rattle.granules.proofs.Tests.{true-or-false, true≢false, or-iff, equal-iff, some_inj, none≢some}
use Rattle.cursors.specs.declared.Cursor.{Cursor}
use Rattle.cursors.specs.Found.{Sound}
use Rattle.cursors.specs.Cursor.{cursor_at}
use Rattle.cursors.specs.Search.{run}
use Rattle.cursors.proofs.Numbers.{Numbers, numbers}
use Rattle.cursors.proofs.Search.{run-fails, run_length, run-passes, run-before}
use Rattle.cursors.proofs.Cells.{label-empty, label-full, empty-iff}
use Rattle.cursors.proofs.Cursors.{cursor-meant, cursor-moved}
use Rattle.strides.specs.declared.Change.{Change}
use Rattle.strides.specs.Changes.{passable, Changes}

-- a cell that passes has the label z or none, and one that fails another
pub passes_same : (z y : ℤ) → passable z y ≡ true → (y ≡ empty → ⊥) → y ≡ z
passes_same z y h f = ⊎_elim (λ e. (equal-iff y z).0 e) (λ e. absurd (f ((empty-iff y).0 e))) ((or-iff (equal y z) (is_empty y)).0 h)

pub same-passes : (z y : ℤ) → y ≡ z → passable z y ≡ true
same-passes z y e = (or-iff (equal y z) (is_empty y)).1 (inl ((equal-iff y z).1 e))

pub none_passes : (z y : ℤ) → y ≡ empty → passable z y ≡ true
none_passes z y e = (or-iff (equal y z) (is_empty y)).1 (inr ((empty-iff y).1 e))

pub fails-other : (z y : ℤ) → passable z y ≡ false → (y ≡ empty → ⊥) × (y ≡ z → ⊥)
fails-other z y h = (
  λ e. true≢false (none_passes z y e) h,
  λ e. true≢false (same-passes z y e) h,
)

pub other-fails : (z y : ℤ) → (y ≡ empty → ⊥) → (y ≡ z → ⊥) → passable z y ≡ false
other-fails z y f g = by (true-or-false (passable z y))
  where
    by : (passable z y ≡ true) ⊎ (passable z y ≡ false) → passable z y ≡ false
    by (inl h) = absurd (g (passes_same z y h f))
    by (inr h) = h

-- a raised label, by its cell
raised-some : (n z : ℤ) → (z ≡ empty → ⊥) → raise n (label_of z) ≡ some (z +ℤ n)
raised-some n z f = ap (raise n) (label-full z f)

raised-none : (n z : ℤ) → z ≡ empty → raise n (label_of z) ≡ none
raised-none n z e = ap (raise n) (label-empty z e)

module _ (period distance : ℤ) (cells : List ℤ) (s : Sound period distance cells) where
  abbrev row : Row
  row = given period distance cells

  n : Numbers period distance cells
  n = numbers period distance cells s

  -- the cell of a cursor
  abbrev cell : Cursor → ℤ
  cell c = get_or cells (up c.index) empty

  shows : (c : Cursor) (w : ℤ) → c ≡ cursor_at row w → (cell c ≡ empty → ⊥) → meant row w ≡ some (cell c +ℤ c.rise)
  shows c w e f = cursor-meant row c w e ∙ raised-some c.rise (cell c) f

  pub shown : (c : Cursor) (w l : ℤ) → c ≡ cursor_at row w → meant row w ≡ some l → (cell c ≡ empty → ⊥) × (l ≡ cell c +ℤ c.rise)
  shown c w l e h =
      let f : cell c ≡ empty → ⊥ = λ z. none≢some (sym (raised-none c.rise (cell c) z) ∙ sym (cursor-meant row c w e) ∙ h) in
      (f, some_inj (sym h ∙ shows c w e f))

  -- the search from an instant u that has a label
  module _ (c : Cursor) (u : ℤ) (at : c ≡ cursor_at row u) (low : pos 0 ≤ℤ c.index) (high : c.index <ℤ period) (own : ℤ) (own_is : cell c ≡ own) (labelled : own ≡ empty → ⊥) where
    abbrev k : ℕ
    k = up c.index

    index_is : pos k ≡ c.index
    index_is = pos-up low

    here : meant row u ≡ some (own +ℤ c.rise)
    here = shows c u at (λ e. labelled (sym own_is ∙ e)) ∙ ap (λ (z : ℤ). some (z +ℤ c.rise)) own_is

    -- the rest of the turn up to the cell `next`
    module _ (next : ℕ) (next-is : next ≡ k + 1 + run (passable own) (drop (k + 1) cells)) where
      pub next-behind : k < next
      next-behind = omega arith

      pub next-within : next ≤ length cells
      next-within =
          let m = run_length (passable own) (drop (k + 1) cells) in
          let j : k < length cells = high ∴ n.period-is ∴ n.whole ∴ index_is ∴ simp ints (omega arith) in
          omega (arith, m, length-drop (k + 1) cells)

      passed : (i : ℕ) → k ≤ i → i < next → (get_or cells i empty ≡ empty → ⊥) → get_or cells i empty ≡ own
      passed i lo hi f = by (le-or-lt (pos i) (pos k))
        where
          by : (pos i ≤ℤ pos k) ⊎ (pos k <ℤ pos i) → get_or cells i empty ≡ own
          by (inl h) =
              let e : i ≡ k = omega (arith, simp ints at h) in
              ap (λ (m : ℕ). get_or cells m empty) e ∙ own_is
          by (inr h) =
              let m = i - (k + 1) in
              let e : k + 1 + m ≡ i = omega (arith, simp ints at h) in
              let g : get_or (drop (k + 1) cells) m empty ≡ get_or cells i empty = get_or-drop (k + 1) cells m empty ∙ ap (λ (j : ℕ). get_or cells j empty) e in
              let p = run-passes (passable own) (drop (k + 1) cells) m empty (omega (arith, e)) in
              passes_same own (get_or cells i empty) (ap (passable own) (sym g) ∙ p) f

      -- the search ends there, before the end of the turn
      ends : (m : ℕ) → m ≡ k + 1 + run (passable own) (drop (k + 1) cells) → m < length cells → passable own (get_or cells m empty) ≡ false
      ends m e inner =
          let j = run (passable own) (drop (k + 1) cells) in
          let g : get_or (drop (k + 1) cells) j empty ≡ get_or cells m empty = get_or-drop (k + 1) cells j empty ∙ ap (λ (i : ℕ). get_or cells i empty) (sym e) in
          ap (passable own) (sym g) ∙ run-fails (passable own) (drop (k + 1) cells) empty (omega (arith, length-drop (k + 1) cells))

      -- an instant of the turn before it
      same_turn : (w l : ℤ) → u ≤ℤ w → (c.index +ℤ (w -ℤ u)) <ℤ pos next → meant row w ≡ some l → meant row u ≡ some l
      same_turn w l lo hi h =
          let i = c.index +ℤ (w -ℤ u) in
          let low' : pos 0 ≤ℤ i = low ∴ lo ∴ simp ints (omega arith) in
          let d = cursor-moved period distance cells s c u (w -ℤ u) (pos 0) i c.rise at (simp ints (omega arith)) (simp ints (omega arith)) low'
          (next-within ∴ n.whole ∴ n.period-is ∴ hi ∴ simp ints (omega arith)) in
          let g = shown (record { index = i; rise = c.rise }) w l (d ∙ ap (cursor_at row) (simp ints (omega arith))) h in
          let p = passed (up i) (omega (arith, simp ints at (pos-up low'), simp ints at index_is, simp ints at lo)) (omega (arith, simp ints at (pos-up low'), simp ints at hi)) g.0 in
          here ∙ ap some (g.1 ∴ p ∴ simp ints (omega arith))

      pub change-in-turn : (x : Change) → next < length cells → x.cursor ≡ record { index = pos next; rise = c.rise } → x.steps ≡ pos next -ℤ pos k → Changes row u x
      change-in-turn x inner xc xs =
          let low' : pos 0 ≤ℤ pos next = simp ints (omega arith) in
          let high' : pos next <ℤ period = n.whole ∴ n.period-is ∴ inner ∴ simp ints (omega arith) in
          let d = cursor-moved period distance cells s c u x.steps (pos 0) (pos next) c.rise at (xs ∴ index_is ∴ simp ints (omega arith)) (simp ints (omega arith)) low' high' in
          let f = fails-other own (get_or cells next empty) (ends next next-is inner) in
          record {
            cursor = xc ∙ d;
            on = xs ∴ next-behind ∴ simp ints (omega arith);
            near = xs ∴ inner ∴ n.whole ∴ simp ints (omega arith);
            between = λ w l lo hi h. same_turn w l lo (hi ∴ xs ∴ index_is ∴ simp ints (omega arith)) h;
            other = (_, shows (record { index = pos next; rise = c.rise }) (u +ℤ x.steps) d f.0, λ h. f.1 (some_inj (sym h ∙ here) ∴ simp ints (omega arith)));
          }

      -- there is none, and `first` is the first of the next turn
      module _ (first : ℕ) (end : length cells ≤ next) (first-is : first ≡ run (passable (own -ℤ distance)) cells) where
        pub first-before : first ≤ k
        first-before =
            let d : own ≡ own -ℤ distance → ⊥ = λ e. e ∴ n.distance_is ∴ n.low ∴ simp ints (omega arith) in
            let f = other-fails (own -ℤ distance) (cell c) (λ e. labelled (sym own_is ∙ e)) (λ e. d (sym own_is ∙ e)) in
            omega (arith, run-before (passable (own -ℤ distance)) cells k empty f)

        -- an instant of the next turn before it
        same_next : (w l : ℤ) → period ≤ℤ (c.index +ℤ (w -ℤ u)) → (c.index +ℤ (w -ℤ u) -ℤ period) <ℤ pos first → meant row w ≡ some l → meant row u ≡ some l
        same_next w l lo hi h =
            let i = c.index +ℤ (w -ℤ u) -ℤ period in
            let low' : pos 0 ≤ℤ i = lo ∴ simp ints (omega arith) in
            let d = cursor-moved period distance cells s c u (w -ℤ u) (pos 1) i (c.rise +ℤ distance) at (simp ints (omega arith)) (simp ints (omega arith)) low'
            (hi ∴ first-before ∴ index_is ∴ high ∴ simp ints (omega arith)) in
            let g = shown (record { index = i; rise = c.rise +ℤ distance }) w l (d ∙ ap (cursor_at row) (simp ints (omega arith))) h in
            let p = run-passes (passable (own -ℤ distance)) cells (up i) empty (omega (arith, simp ints at (pos-up low'), simp ints at hi)) in
            let q = passes_same (own -ℤ distance) (get_or cells (up i) empty) p g.0 in
            here ∙ ap some (g.1 ∴ q ∴ simp ints (omega arith))

        pub change-in-next : (x : Change) → x.cursor ≡ record { index = pos first; rise = c.rise +ℤ distance } → x.steps ≡ pos next -ℤ pos k +ℤ pos first → Changes row u x
        change-in-next x xc xs =
            let whole : pos next ≡ period = end ∴ next-within ∴ n.whole ∴ n.period-is ∴ simp ints (omega arith) in
            let low' : pos 0 ≤ℤ pos first = simp ints (omega arith) in
            let high' : pos first <ℤ period = first-before ∴ index_is ∴ high ∴ simp ints (omega arith) in
            let d = cursor-moved period distance cells s c u x.steps (pos 1) (pos first) (c.rise +ℤ distance) at (xs ∴ whole ∴ index_is ∴ simp ints (omega arith)) (simp ints (omega arith)) low' high' in
            let inner : first < length cells = n.whole ∴ n.period-is ∴ high' ∴ simp ints (omega arith) in
            let e = run-fails (passable (own -ℤ distance)) cells empty (omega (arith, first-is, inner)) in
            let f = fails-other (own -ℤ distance) (get_or cells first empty) (ap (λ (i : ℕ). passable (own -ℤ distance) (get_or cells i empty)) first-is ∙ e) in
            record {
              cursor = xc ∙ d;
              on = xs ∴ next-behind ∴ simp ints (omega arith);
              near = xs ∴ whole ∴ n.period-is ∴ first-before ∴ simp ints (omega arith);
              between = λ w l lo hi h.
                  ⊎_elim
                  (λ g. same_next w l g (hi ∴ xs ∴ whole ∴ index_is ∴ simp ints (omega arith)) h)
                  (λ g. same_turn w l lo (g ∴ whole ∴ simp ints (omega arith)) h)
                  (le-or-lt period (c.index +ℤ (w -ℤ u)));
              other = (_, shows (record { index = pos first; rise = c.rise +ℤ distance }) (u +ℤ x.steps) d f.0, λ h. f.1 (some_inj (sym h ∙ here) ∴ simp ints (omega arith)));
            }
