-- A valid row means a calendar; and what labels its cells have.
use mathlib.Core.Path.{◌≡◌, sym, ◌∙◌, ap}
use mathlib.Core.Logic.{◌↔◌}
use mathlib.Core.Option.{Option, none, some}
use mathlib.Core.Bool.{Bool, true, false, cond}
use mathlib.Core.List.{List, [], ◌∷◌, Memᴰ}
use Prim.Native.Nat.{ℕ, zero, suc, ◌≤◌, ◌<◌}
use native.Mathlib.Omega.{arith}
use lib.IntN.{ℤ, pos, ◌+ℤ◌, ◌-ℤ◌, ◌*ℤ◌}
use lib.ListN.{length, get_or}
use Rattle.integers.proofs.Linear.{ints}
use Rattle.integers.specs.Floor.{floor_div, floor_mod}
use Rattle.integers.proofs.Floor.{floor-unique, floor_div-shift, floor_mod-shift}
use Rattle.calendar.specs.Meaning.{Row, meant, Calendar, Same, Repeats, IsCalendar, LeastRow, label_of, is_empty, empty, raise}
use Rattle.calendar.specs.Lists.{is_some}
use Rattle.calendar.specs.Sound.{labels_of}
use Rattle.granules.specs.Valid.{Valid}
use Rattle.granules.proofs.Tests.{some_inj, none≢some, is_some-iff}
use Rattle.granules.proofs.Lists.{mem-keep}
use Rattle.granules.proofs.Calendars.{raise_zero, raise-raise, raise-some}

-- the label in the cell m of a row, none behind its end
abbrev pub cell_label : Row → ℕ → Option ℤ
cell_label r m = label_of (get_or r.cells m empty)

-- the calendar that a row means repeats with the row's period and distance
pub meant-repeats : (r : Row) → 1 ≤ r.period → Repeats r.period r.distance (meant r)
unfolding meant
meant-repeats r h t =
    let P = r.period in
    let N = pos r.distance in
    let q = floor_div t P in
    let one : t +ℤ pos P ≡ t +ℤ pos P *ℤ pos 1 = simp ints (omega arith) in
    ap (meant r) one
    ∙ ap (λ (k : ℤ). raise (N *ℤ k) (cell_label r (floor_mod (t +ℤ pos P *ℤ pos 1) P))) (floor_div-shift P h t (pos 1))
    ∙ ap (λ (m : ℕ). raise (N *ℤ (q +ℤ pos 1)) (cell_label r m)) (floor_mod-shift P h t (pos 1))
    ∙ ap (λ (z : ℤ). raise z (cell_label r (floor_mod t P))) (simp ints (omega arith))
    ∙ sym (raise-raise (N *ℤ q) N (cell_label r (floor_mod t P)))

-- an instant of the first turn has the label of its cell
pub meant-cell : (r : Row) (k : ℕ) → k < r.period → meant r (pos k) ≡ label_of (get_or r.cells k empty)
unfolding meant
meant-cell r k h =
    let P = r.period in
    let N = pos r.distance in
    let u = floor-unique P (omega arith) (pos k) (pos 0) k (simp ints (omega arith)) h in
    ap (λ (q : ℤ). raise (N *ℤ q) (cell_label r (floor_mod (pos k) P))) u.0
    ∙ ap (λ (m : ℕ). raise (N *ℤ pos 0) (cell_label r m)) u.1
    ∙ ap (λ (z : ℤ). raise z (cell_label r k)) (simp ints (omega arith))
    ∙ raise_zero (cell_label r k)

-- an instant has a label exactly if its cell has it, less the distance once for each turn
pub meant-some : (r : Row) (t j : ℤ)
    → (meant r t ≡ some j) ↔ (cell_label r (floor_mod t r.period) ≡ some (j -ℤ pos r.distance *ℤ floor_div t r.period))
unfolding meant
meant-some r t j = raise-some (pos r.distance *ℤ floor_div t r.period) j (cell_label r (floor_mod t r.period))

-- what a valid row means is a calendar, over all instants
pub valid-calendar : (r : Row) → Valid r → IsCalendar (meant r)
valid-calendar r v = record {
  ordered = v.ordered;
  period = r.period;
  distance = r.distance;
  positive = v.positive;
  repeats = meant-repeats r v.positive.0;
  label = v.label;
  labelled = v.labelled;
}

-- a row that means a calendar is valid
pub valid-of-calendar : (r : Row) (c : Calendar) → length r.cells ≡ r.period → 1 ≤ r.period → 1 ≤ r.distance → IsCalendar c → Same (meant r) c → Valid r
valid-of-calendar r c whole p d i same = record {
  whole = whole;
  positive = (p, d);
  ordered = λ s t j k h e f. i.ordered s t j k h (sym (same s) ∙ e) (sym (same t) ∙ f);
  label = i.label;
  labelled = (i.labelled.0, same i.labelled.0 ∙ i.labelled.1);
}

pub valid-of-least : (r : Row) (c : Calendar) → IsCalendar c → LeastRow c r → Valid r
valid-of-least r c i l = valid-of-calendar r c l.whole l.positive.0 l.positive.1 i l.means

-- ---- the labels of cells

-- a cell's label is the cell itself
pub label_is : (z j : ℤ) → label_of z ≡ some j → z ≡ j
label_is z j = by (is_empty z)
  where
    by : (b : Bool) → cond b none (some z) ≡ some j → z ≡ j
    by true e = absurd (none≢some e)
    by false e = some_inj e

-- the members of `labels_of` are the labels of the cells
pub labels-mem : (l : List ℤ) (j : ℤ) → Memᴰ j (labels_of l) → (m : ℕ) × (label_of (get_or l m empty) ≡ some j)
labels-mem l j h =
    let k = (mem-keep (λ z. is_some (label_of z)) j l).0 h in
    let i = (is_some-iff (label_of j)).0 k.1 in
    let m = mem_index k.0 in
    (m.0, ap label_of m.1 ∙ i.1 ∙ ap some (sym (label_is j i.0 i.1)))
  where
    mem_index : {j : ℤ} {l : List ℤ} → Memᴰ j l → (m : ℕ) × (get_or l m empty ≡ j)
    mem_index (Memᴰ.head e) = (0, sym e)
    mem_index (Memᴰ.tail h) = let p = mem_index h in (suc p.0, p.1)

pub mem-labels : (l : List ℤ) (m : ℕ) (j : ℤ) → label_of (get_or l m empty) ≡ some j → Memᴰ j (labels_of l)
mem-labels l m j e = (mem-keep (λ z. is_some (label_of z)) j l).1 (index-mem l m e, (is_some-iff (label_of j)).1 (j, ap label_of (sym (label_is (get_or l m empty) j e)) ∙ e))
  where
    index-mem : (l : List ℤ) (m : ℕ) → label_of (get_or l m empty) ≡ some j → Memᴰ j l
    index-mem [] m e = absurd (none≢some e)
    index-mem (z ∷ l) zero e = Memᴰ.head (sym (label_is z j e))
    index-mem (z ∷ l) (suc m) e = Memᴰ.tail (index-mem l m e)

-- a cell with a label stands before the row's end
pub label-index : (l : List ℤ) (m : ℕ) (j : ℤ) → label_of (get_or l m empty) ≡ some j → m < length l
label-index [] m j e = absurd (none≢some e)
label-index (z ∷ l) zero j e = omega arith
label-index (z ∷ l) (suc m) j e = let h = label-index l m j e in omega arith

-- a label of a cell is that of the instant
pub cell-meant : (r : Row) → length r.cells ≡ r.period → (m : ℕ) (j : ℤ) → cell_label r m ≡ some j → meant r (pos m) ≡ some j
cell-meant r whole m j e = let h = label-index r.cells m j e in meant-cell r m (omega arith) ∙ e

-- the labels of a row by its first cell
pub labels-cons : (z j : ℤ) (l : List ℤ) → label_of z ≡ some j → labels_of (z ∷ l) ≡ j ∷ labels_of l
labels-cons z j l e = ap (λ (o : Option ℤ). cond (is_some o) (z ∷ labels_of l) (labels_of l)) e ∙ ap (λ (y : ℤ). y ∷ labels_of l) (label_is z j e)

pub labels-skip : (z : ℤ) (l : List ℤ) → label_of z ≡ none → labels_of (z ∷ l) ≡ labels_of l
labels-skip z l e = ap (λ (o : Option ℤ). cond (is_some o) (z ∷ labels_of l) (labels_of l)) e
