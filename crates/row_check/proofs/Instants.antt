-- `instant_of` by the row's own cells: the first label, and the first cell with a label less whole turns.
-- Assumes nothing.
use mathlib.Core.Path.{◌≡◌, refl, sym, ◌∙◌, ap}
use mathlib.Core.Option.{Option, none, some, map}
use mathlib.Core.Bool.{Bool, true, false, not, cond}
use mathlib.Core.List.{List, [], ◌∷◌}
use Prim.Native.Nat.{ℕ, zero, suc, ◌≤◌, ◌<◌, ◌^◌}
use native.Mathlib.Omega.{arith}
use lib.IntN.{ℤ, pos, negsuc, ◌+ℤ◌, ◌-ℤ◌, ◌*ℤ◌, *ℤ_comm}
use lib.Signed.{◌≤ℤ◌}
use lib.ListN.{length, get_or}
use mir.Syntax.{w32, w64}
use mir.Val.{SFits}
use Rattle.integers.specs.Parts.{up}
use Rattle.integers.specs.Floor.{floor_div, floor_mod}
use Rattle.integers.proofs.Linear.{ints, ◌∴◌}
use Rattle.integers.proofs.Order.{mul_mono}
use Rattle.integers.proofs.Floor.{floor-eq, floor-lt}
use Rattle.calendar.specs.Limits.{pool_limit}
use Rattle.calendar.specs.Meaning.{Calendar, Row, meant, label_of, is_empty, empty}
use Rattle.calendar.specs.Lists.{from, is, equal}
use Rattle.calendar.specs.Granules.{first_label, first_with, instant_of}
use Rattle.calendar.specs.Questions.{given}
use Rattle.granules.proofs.Tests.{true≢false, false-iff, equal-iff, none≢some}
use Rattle.granules.proofs.Rows.{meant-some, meant-cell, label-index}
use Rattle.cursors.specs.Found.{Sound, Within}
use Rattle.cursors.specs.Search.{leading, position}
use Rattle.cursors.proofs.Numbers.{Numbers, numbers, valid, rise-bound}
use Rattle.cursors.proofs.Search.{run-cons, run-fails}
use Rattle.cursors.proofs.Cells.{label-full, empty-iff}
use Rattle.cursors.proofs.Bounds.{cell-bound}

-- ---- the first label

-- it stands where the leading empty cells end
pub first-label : (l : List ℤ) (d : ℤ) → leading l < length l → first_label l ≡ get_or l (leading l) d
first-label [] d h = absurd (omega arith)
first-label (z ∷ l) d h = by (is_empty z) refl (first-label l d)
  where
    by : (b : Bool) → is_empty z ≡ b → (leading l < length l → first_label l ≡ get_or l (leading l) d)
        → first_label (z ∷ l) ≡ get_or (z ∷ l) (leading (z ∷ l)) d
    by true e ih =
        let p = run-cons is_empty z l true e in
        rw (p, e, first_label) (ih (omega arith))
    by false e ih = rw (run-cons is_empty z l false e, e, first_label)

-- a cell with a label is not empty
full : (z j : ℤ) → label_of z ≡ some j → is_empty z ≡ false
full z j e = by (is_empty z) e
  where
    by : (b : Bool) → cond b none (some z) ≡ some j → b ≡ false
    by true e = absurd (none≢some e)
    by false e = refl

-- a cell with a label is not before it
leading_le : (l : List ℤ) (m : ℕ) (j : ℤ) → label_of (get_or l m empty) ≡ some j → leading l ≤ m
leading_le [] m j e = absurd (none≢some e)
leading_le (z ∷ l) zero j e = omega (arith, run-cons is_empty z l false (full z j e))
leading_le (z ∷ l) (suc m) j e = by (is_empty z) refl (leading_le l m j e)
  where
    by : (b : Bool) → is_empty z ≡ b → leading l ≤ m → leading (z ∷ l) ≤ suc m
    by true p ih = omega (arith, run-cons is_empty z l true p)
    by false p ih = omega (arith, run-cons is_empty z l false p)

-- ---- the search for a cell

module _ (c : Calendar) where
  -- the cells of l are those of the instants from t on
  abbrev pub Cells : ℤ → List ℤ → Type 0
  Cells t l = (m : ℕ) → m < length l → c (t +ℤ pos m) ≡ label_of (get_or l m empty)

  pub first_cell : (t z : ℤ) (l : List ℤ) → Cells t (z ∷ l) → c t ≡ label_of z
  first_cell t z l h = ap c (simp ints (omega arith)) ∙ h 0 (omega arith)

  pub rest : (t z : ℤ) (l : List ℤ) → Cells t (z ∷ l) → Cells (t +ℤ pos 1) l
  rest t z l h m k = ap c (simp ints (omega arith)) ∙ h (suc m) (omega arith)

module _ (c : Calendar) (j : ℤ) (label : is_empty j ≡ false) where
  -- a label is j exactly if its cell is
  same-cell : (z : ℤ) → is j (label_of z) ≡ equal j z
  same-cell z = by (is_empty z) refl
    where
      by : (b : Bool) → is_empty z ≡ b → is j (cond b none (some z)) ≡ equal j z
      by true e = sym ((false-iff (equal-iff j z)).1 (λ p. true≢false (ap is_empty p ∙ e) label))
      by false e = refl

  -- what the first of these instants says, by its cell
  step : (t z : ℤ) (l : List ℤ) → Cells c t (z ∷ l) → (b : Bool) → equal j z ≡ b
      → first_with c j (from t (suc (length l))) ≡ cond b (some t) (first_with c j (from (t +ℤ pos 1) (length l)))
  step t z l h b e = ap (λ (x : Bool). cond x (some t) (first_with c j (from (t +ℤ pos 1) (length l)))) (ap (is j) (first_cell c t z l h) ∙ same-cell z ∙ e)

  place : (z : ℤ) (l : List ℤ) (b : Bool) → equal j z ≡ b → position j (z ∷ l) ≡ cond b 0 (suc (position j l))
  place z l true e = run-cons (λ y. not (equal j y)) z l false (ap not e)
  place z l false e = run-cons (λ y. not (equal j y)) z l true (ap not e)

  pub search-found : (t : ℤ) (l : List ℤ) → Cells c t l → position j l < length l → first_with c j (from t (length l)) ≡ some (t +ℤ pos (position j l))
  search-found t [] h k = absurd (omega arith)
  search-found t (z ∷ l) h k = by (equal j z) refl (search-found (t +ℤ pos 1) l (rest c t z l h))
    where
      by : (b : Bool) → equal j z ≡ b → (position j l < length l → first_with c j (from (t +ℤ pos 1) (length l)) ≡ some (t +ℤ pos 1 +ℤ pos (position j l)))
          → first_with c j (from t (suc (length l))) ≡ some (t +ℤ pos (position j (z ∷ l)))
      by true e ih = step t z l h true e ∙ ap some (place z l true e ∴ simp ints (omega arith))
      by false e ih =
          let p = place z l false e in
          step t z l h false e ∙ ih (omega arith) ∙ ap some (p ∴ simp ints (omega arith))

  pub search-none : (t : ℤ) (l : List ℤ) → Cells c t l → length l ≤ position j l → first_with c j (from t (length l)) ≡ none
  search-none t [] h k = refl
  search-none t (z ∷ l) h k = by (equal j z) refl (search-none (t +ℤ pos 1) l (rest c t z l h))
    where
      by : (b : Bool) → equal j z ≡ b → (length l ≤ position j l → first_with c j (from (t +ℤ pos 1) (length l)) ≡ none) → first_with c j (from t (suc (length l))) ≡ none
      by true e ih = absurd (omega (arith, place z l true e))
      by false e ih = step t z l h false e ∙ ih (omega (arith, place z l false e))

-- ---- an instant with the label z

module _ (period distance : ℤ) (cells : List ℤ) (s : Sound period distance cells) where
  abbrev row : Row
  row = given period distance cells

  n : Numbers period distance cells
  n = numbers period distance cells s

  -- a sound row has a label
  pub has-label : leading cells < length cells
  has-label =
      let v = valid period distance cells s in
      let t = v.labelled.0 in
      let m = floor_mod t (up period) in
      let e = (meant-some row t v.label).0 v.labelled.1 in
      omega (arith, leading_le cells m _ e, label-index cells m _ e)

  first-bound : Within 1000000000 (first_label cells)
  first-bound =
      let e = first-label cells empty has-label in
      let l = label-full (get_or cells (leading cells) empty) (λ p. true≢false ((empty-iff (get_or cells (leading cells) empty)).1 p) (run-fails is_empty cells empty has-label)) in
      cell-bound period distance cells s (leading cells) (first_label cells) (l ∙ ap some (sym e))

  -- the turns of z, counted from the first label
  abbrev pub turns : ℤ → ℤ
  turns z = floor_div (z -ℤ first_label cells) (up distance)

  -- the numbers on the way fit
  pub record Way (z : ℤ) : Type 0 where
    pub from_first : SFits w64 (z -ℤ first_label cells)
    pub whole-fits : SFits w64 (turns z *ℤ distance)
    pub cell-fits : SFits w32 (z -ℤ turns z *ℤ distance)
    pub rise-fits : SFits w64 (turns z *ℤ period)
    pub within : (i : ℕ) → i < length cells → Within (2 ^ 54) (pos i +ℤ turns z *ℤ period)
    pub label : is_empty (z -ℤ turns z *ℤ distance) ≡ false

  pub way : (z : ℤ) → Within 1000000000 z → Way z
  way z b =
      let N = up distance in
      let P = up period in
      let f = first_label cells in
      let q = turns z in
      let m = floor_mod (z -ℤ f) N in
      let e = floor-eq N n.low (z -ℤ f) in
      let small : m < pool_limit = omega (arith, floor-lt N n.low (z -ℤ f), n.middle, n.high) in
      let d : q *ℤ distance ≡ pos N *ℤ q = ap (λ (x : ℤ). q *ℤ x) n.distance_is ∙ *ℤ_comm q (pos N) in
      let p : q *ℤ period ≡ pos P *ℤ q = ap (λ (x : ℤ). q *ℤ x) n.period-is ∙ *ℤ_comm q (pos P) in
      let cell : z -ℤ q *ℤ distance ≡ f +ℤ pos m = rw d (e ∴ simp ints (omega arith)) in
      let low : (negsuc 1999999999) ≤ℤ (z -ℤ f) = b ∴ first-bound ∴ simp ints (omega arith) in
      let high : (z -ℤ f) ≤ℤ pos 2000000000 = b ∴ first-bound ∴ simp ints (omega arith) in
      let r = rise-bound N 1 2000000000 n.low n.low (z -ℤ f) low high in
      let few : P ≤ pool_limit = n.high in
      let q-low : negsuc 2004194303 ≤ℤ q = r ∴ n.middle ∴ few ∴ simp ints (omega arith) in
      let q-high : q ≤ℤ pos 2000000000 = r ∴ simp ints (omega arith) in
      let turn : Within (2 ^ 53) (q *ℤ period) = rw p (mul_mono P q-low ∴ mul_mono P q-high ∴ few ∴ simp ints (omega arith)) in
      record {
        from_first = low ∴ high ∴ simp ints (omega arith);
        whole-fits = rw d (e ∴ low ∴ high ∴ small ∴ simp ints (omega arith));
        cell-fits = rw cell (first-bound ∴ small ∴ simp ints (omega arith));
        rise-fits = turn ∴ simp ints (omega arith);
        within = λ i h. turn ∴ h ∴ n.whole ∴ few ∴ simp ints (omega arith);
        label = (false-iff (empty-iff (z -ℤ q *ℤ distance))).1 (λ x. x ∴ cell ∴ first-bound ∴ simp ints (omega arith));
      }

  -- the cells of the row are those of its first turn
  pub own-cells : (m : ℕ) → m < length cells → meant row (pos 0 +ℤ pos m) ≡ label_of (get_or cells m empty)
  own-cells m h = ap (meant row) (simp ints (omega arith)) ∙ meant-cell row m (omega (arith, n.whole))

  -- what `instant_of` says, by what is found in the first turn
  instant-is : (z : ℤ) (o : Option ℤ) → first_with (meant row) (z -ℤ turns z *ℤ distance) (from (pos 0) (length cells)) ≡ o
      → instant_of row z ≡ map (λ t. t +ℤ turns z *ℤ pos (up period)) o
  unfolding instant_of
  instant-is z o e =
      ap (λ (d : ℤ). map (λ t. t +ℤ turns z *ℤ pos (up period)) (first_with (meant row) (z -ℤ turns z *ℤ d) (from (pos 0) (up period)))) (sym n.distance_is)
      ∙ ap (λ (k : ℕ). map (λ t. t +ℤ turns z *ℤ pos (up period)) (first_with (meant row) (z -ℤ turns z *ℤ distance) (from (pos 0) k))) (sym n.whole)
      ∙ ap (map (λ t. t +ℤ turns z *ℤ pos (up period))) e

  pub instant-found : (z : ℤ) → Within 1000000000 z → (i : ℕ) → i ≡ position (z -ℤ turns z *ℤ distance) cells → i < length cells
      → some (pos i +ℤ turns z *ℤ period) ≡ instant_of row z
  instant-found z b i e h =
      let j = z -ℤ turns z *ℤ distance in
      let f = search-found (meant row) j (way z b).label (pos 0) cells own-cells (omega arith) in
      sym (instant-is z _ f ∙ ap some (ap (λ (p : ℤ). pos 0 +ℤ pos (position j cells) +ℤ turns z *ℤ p) (sym n.period-is) ∙ (e ∴ simp ints (omega arith))))

  pub instant-none : (z : ℤ) → Within 1000000000 z → (i : ℕ) → i ≡ position (z -ℤ turns z *ℤ distance) cells → length cells ≤ i → none ≡ instant_of row z
  instant-none z b i e h = sym (instant-is z none (search-none (meant row) (z -ℤ turns z *ℤ distance) (way z b).label (pos 0) cells own-cells (omega arith)))
