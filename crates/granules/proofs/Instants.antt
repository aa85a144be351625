-- A label is found by `instant_of` exactly if it is one.
use mathlib.Core.Path.{◌≡◌, refl, sym, ◌∙◌, ap}
use mathlib.Core.Logic.{◌↔◌, ◌⊎◌, inl, inr, ⊎_elim}
use mathlib.Core.Option.{Option, none, some, map}
use mathlib.Core.Bool.{Bool, true, false, cond}
use mathlib.Core.List.Memᴰ
use mathlib.Core.List.{List, [], ◌∷◌, Memᴰ}
use Prim.Native.Nat.{ℕ, zero, suc, ◌≤◌, ◌<◌}
use native.Mathlib.Omega.{arith}
use lib.IntN.{ℤ, pos, neg_ℤ, ◌+ℤ◌, ◌-ℤ◌, ◌*ℤ◌, *ℤ_comm}
use lib.Signed.{◌≤ℤ◌, ◌<ℤ◌}
use lib.ListN.{get_or}
use Rattle.integers.specs.Parts.{up}
use Rattle.integers.specs.Floor.{floor_div, floor_mod}
use Rattle.integers.proofs.Linear.{ints, ◌∴◌}
use Rattle.integers.proofs.Order.{pos-up, cases, Cases}
use Rattle.integers.proofs.Order.Cases.{below, equal, above}
use Rattle.integers.proofs.Floor.{floor-eq, floor-lt, floor-unique}
use Rattle.calendar.specs.Meaning.{Calendar, Row, meant, Has, label_of, empty}
use Rattle.calendar.specs.Lists.{from, is, is_some}
use Rattle.calendar.specs.Granules.{first_label, first_with, instant_of, has}
use Rattle.granules.specs.Valid.{Valid}
use Rattle.granules.proofs.Tests.{true≢false, some_inj, none≢some, none_or_some, is-iff, is_some-iff}
use Rattle.granules.proofs.Lists.{mem-from}
use Rattle.granules.proofs.Calendars.{label-moved, labelled-near}
use Rattle.granules.proofs.Rows.{meant-repeats, meant-cell}

-- ---- the first of a list

pub first_with-some : (c : Calendar) (j : ℤ) (l : List ℤ) (t : ℤ) → first_with c j l ≡ some t → c t ≡ some j
first_with-some c j [] t e = absurd (none≢some e)
first_with-some c j (u ∷ l) t e = by (is j (c u)) refl e (first_with-some c j l t)
  where
    by : (b : Bool) → is j (c u) ≡ b → cond b (some u) (first_with c j l) ≡ some t → (first_with c j l ≡ some t → c t ≡ some j) → c t ≡ some j
    by true p e h = ap c (sym (some_inj e)) ∙ (is-iff j (c u)).0 p
    by false p e h = h e

pub first_with-none : (c : Calendar) (j : ℤ) (l : List ℤ) → first_with c j l ≡ none → (t : ℤ) → Memᴰ t l → ¬ (c t ≡ some j)
first_with-none c j [] e t m f = Memᴰ.not-nil m
first_with-none c j (u ∷ l) e t m f = by (is j (c u)) refl e (first_with-none c j l)
  where
    by : (b : Bool) → is j (c u) ≡ b → cond b (some u) (first_with c j l) ≡ none → (first_with c j l ≡ none → (t : ℤ) → Memᴰ t l → ¬ (c t ≡ some j)) → ⊥
    by true p e h = none≢some (sym e)
    by false p e h = ⊎_elim (λ (q : t ≡ u). true≢false ((is-iff j (c u)).1 (ap c (sym q) ∙ f)) p) (λ (n : Memᴰ t l). h e t n f) (Memᴰ.cases_cons m)

-- ---- the first label of a row

-- what `first_label` takes of its first cell
label-here : (z j : ℤ) (l : List ℤ) → label_of z ≡ some j → first_label (z ∷ l) ≡ j
label-here z j l e = rw (e, first_label)

label-later : (z : ℤ) (l : List ℤ) → label_of z ≡ none → first_label (z ∷ l) ≡ first_label l
label-later z l e = rw (e, first_label)

-- it stands in a cell, and no cell before that has a label
first_cell : (l : List ℤ) (k : ℕ) (j : ℤ) → label_of (get_or l k empty) ≡ some j
    → (i : ℕ) × (i ≤ k) × (label_of (get_or l i empty) ≡ some (first_label l))
first_cell [] k j e = absurd (none≢some e)
first_cell (z ∷ l) zero j e = (0, omega arith, e ∙ ap some (sym (label-here z j l e)))
first_cell (z ∷ l) (suc k) j e = by (label_of z) refl (first_cell l k j e)
  where
    by : (o : Option ℤ) → label_of z ≡ o → (i : ℕ) × (i ≤ k) × (label_of (get_or l i empty) ≡ some (first_label l))
        → (i : ℕ) × (i ≤ suc k) × (label_of (get_or (z ∷ l) i empty) ≡ some (first_label (z ∷ l)))
    by none p h = (suc h.0, omega arith, h.2 ∙ ap some (sym (label-later z l p)))
    by (some i) p h = (0, omega arith, p ∙ ap some (sym (label-here z i l p)))

-- ---- the search of `instant_of`

-- the quotient, known by its bounds
pub floor-is : (n : ℕ) → 0 < n → (d m : ℤ) → (pos n *ℤ m) ≤ℤ d → d <ℤ (pos n *ℤ m +ℤ pos n) → floor_div d n ≡ m
floor-is n p d m h k = by (up (d -ℤ pos n *ℤ m)) (pos-up {z = d -ℤ pos n *ℤ m} (h ∴ simp ints (omega arith)))
  where
    by : (e : ℕ) → pos e ≡ d -ℤ pos n *ℤ m → floor_div d n ≡ m
    by e q = (floor-unique n p d m e (q ∴ simp ints (omega arith)) (omega (arith, simp ints at q, simp ints at k))).0

module _ (r : Row) (v : Valid r) where
  -- k periods on
  pub label-on : (k t j : ℤ) → meant r t ≡ some j → meant r (t +ℤ pos r.period *ℤ k) ≡ some (j +ℤ pos r.distance *ℤ k)
  label-on = label-moved (meant r) r.period r.distance (meant-repeats r v.positive.0)

  -- the label of t, taken back to the first turn
  first-turn : (t j : ℤ) → meant r t ≡ some j → meant r (pos (floor_mod t r.period)) ≡ some (j -ℤ pos r.distance *ℤ floor_div t r.period)
  first-turn t j e =
      ap (meant r) (floor-eq r.period v.positive.0 t ∴ simp ints (omega arith))
      ∙ label-on (neg_ℤ (floor_div t r.period)) t j e
      ∙ ap some (simp ints (omega arith))

  -- a label of the first turn has the row's first label with it or before
  first-before : (k : ℕ) (j : ℤ) → k < r.period → meant r (pos k) ≡ some j → (i : ℕ) × (i ≤ k) × (meant r (pos i) ≡ some (first_label r.cells))
  first-before k j h e =
      let f = first_cell r.cells k j (sym (meant-cell r k h) ∙ e) in
      (f.0, f.1, meant-cell r f.0 (omega arith) ∙ f.2)

  -- j is the label of an instant of the first turn
  abbrev InTurn : ℤ → Type 0
  InTurn j = (i : ℕ) × (i < r.period) × (meant r (pos i) ≡ some j)

  -- the row has a label in its first turn
  first-label : InTurn (first_label r.cells)
  first-label =
      let n = labelled-near (meant r) r.period r.distance (meant-repeats r v.positive.0) v.positive.0 v.label v.labelled (pos 0) in
      let q = pos-up n.2 in
      let s : up n.0 < r.period = omega (arith, simp ints at n.3, simp ints at q) in
      let f = first-before (up n.0) n.1 s (ap (meant r) q ∙ n.4) in
      (f.0, omega arith, f.2)

  -- the labels of the first turn are from the first label up to the first of the next turn
  turn-range : (j : ℤ) → InTurn j → (first_label r.cells ≤ℤ j) × (j ≤ℤ (first_label r.cells +ℤ pos r.distance))
  turn-range j (k, h, e) = (low, high)
    where
      low : first_label r.cells ≤ℤ j
      low =
          let f = first-before k j h e in
          v.ordered (pos f.0) (pos k) (first_label r.cells) j (f.1 ∴ simp ints (omega arith)) f.2 e

      high : j ≤ℤ (first_label r.cells +ℤ pos r.distance)
      high =
          let f = first-label in
          v.ordered (pos k) (pos f.0 +ℤ pos r.period *ℤ pos 1) j (first_label r.cells +ℤ pos r.distance) (h ∴ simp ints (omega arith)) e (label-on (pos 1) (pos f.0) (first_label r.cells) f.2 ∙ ap some (simp ints (omega arith)))

  -- the distances that `instant_of` takes away from a label
  abbrev turns : ℤ → ℤ
  turns j = floor_div (j -ℤ first_label r.cells) r.distance

  -- a label less these is in the first turn: they are m for a label m turns above one of the first turn, or m + 1
  turns-are : (j m i : ℤ) → j ≡ i +ℤ pos r.distance *ℤ m → InTurn i → Cases i (first_label r.cells +ℤ pos r.distance) → InTurn (j -ℤ turns j *ℤ pos r.distance)
  turns-are j m i q f (below h) =
      let u = floor-is r.distance v.positive.1 (j -ℤ first_label r.cells) m ((turn-range i f).0 ∴ q ∴ simp ints (omega arith)) (q ∴ h ∴ simp ints (omega arith)) in
      (f.0, f.1, f.2 ∙ ap some (rw u (q ∴ simp ints (omega arith))))
  turns-are j m i q f (equal h) =
      let u = floor-is r.distance v.positive.1 (j -ℤ first_label r.cells) (m +ℤ pos 1) (q ∴ h ∴ simp ints (omega arith)) (v.positive.1 ∴ q ∴ h ∴ simp ints (omega arith)) in
      let g = first-label in
      (g.0, g.1, g.2 ∙ ap some (rw u (q ∴ h ∴ simp ints (omega arith))))
  turns-are j m i q f (above h) = absurd ((turn-range i f).1 ∴ h ∴ simp ints (omega arith))

  in-turn : (j : ℤ) → Has (meant r) j → InTurn (j -ℤ turns j *ℤ pos r.distance)
  in-turn j (t, e) =
      let m = floor_div t r.period in
      let i = j -ℤ pos r.distance *ℤ m in
      turns-are j m i (simp ints (omega arith)) (floor_mod t r.period, floor-lt r.period v.positive.0 t, first-turn t j e) (cases i (first_label r.cells +ℤ pos r.distance))

-- what `Option.map` gives
map-some : (f : ℤ → ℤ) {t : ℤ} (o : Option ℤ) → map f o ≡ some t → (s : ℤ) × (o ≡ some s) × (f s ≡ t)
map-some f none e = absurd (none≢some e)
map-some f (some s) e = (s, refl, some_inj e)

map-none : (f : ℤ → ℤ) (o : Option ℤ) → map f o ≡ none → o ≡ none
map-none f none e = refl
map-none f (some s) e = absurd (none≢some (sym e))

pub instant_of-labelled : (r : Row) → Valid r → (j t : ℤ) → instant_of r j ≡ some t → meant r t ≡ some j
unfolding instant_of
instant_of-labelled r v j t e =
    let k = floor_div (j -ℤ first_label r.cells) r.distance in
    let i = j -ℤ k *ℤ pos r.distance in
    let l = from (pos 0) r.period in
    let m = map-some (λ s. s +ℤ k *ℤ pos r.period) (first_with (meant r) i l) e in
    ap (meant r) (sym m.2 ∙ ap (λ (z : ℤ). m.0 +ℤ z) (*ℤ_comm k (pos r.period)))
    ∙ label-on r v k m.0 i (first_with-some (meant r) i l m.0 m.1)
    ∙ ap some (simp ints (omega arith))

pub instant_of-none : (r : Row) → Valid r → (j : ℤ) → instant_of r j ≡ none → ¬ (Has (meant r) j)
unfolding instant_of
instant_of-none r v j e h =
    let i = j -ℤ turns r v j *ℤ pos r.distance in
    let l = from (pos 0) r.period in
    let f = in-turn r v j h in
    first_with-none (meant r) i l (map-none (λ s. s +ℤ turns r v j *ℤ pos r.period) (first_with (meant r) i l) e) (pos f.0) ((mem-from (pos f.0) (pos 0) r.period).1 (f.1 ∴ simp ints (omega arith))) f.2

pub has-iff : (r : Row) → Valid r → (j : ℤ) → (has r j ≡ true) ↔ Has (meant r) j
unfolding has
has-iff r v j = (λ e. let s = (is_some-iff (instant_of r j)).0 e in (s.0, instant_of-labelled r v j s.0 s.1), λ h. by (none_or_some (instant_of r j)) h)
  where
    by : (instant_of r j ≡ none) ⊎ ((t : ℤ) × (instant_of r j ≡ some t)) → Has (meant r) j → is_some (instant_of r j) ≡ true
    by (inl e) h = absurd (instant_of-none r v j e h)
    by (inr s) h = (is_some-iff (instant_of r j)).1 s
