-- The cells of a row that have a label, counted from the front.
-- Assumes nothing.
use mathlib.Core.Path.{◌≡◌, refl, ◌∙◌, ap}
use mathlib.Core.Bool.{Bool, true, false, cond}
use mathlib.Core.List.{List}
use Prim.Native.Nat.{ℕ, zero, suc, ◌+◌, ◌-◌, ◌≤◌, ◌<◌}
use native.Mathlib.Omega.{arith}
use lib.IntN.{ℤ}
use lib.ListN.{length, get_or, take, drop, length-drop}
use lib.Seq.{length-take-le, get_or-take, get_or-drop}
use Rattle.calendar.specs.Meaning.{is_empty, empty}
use Rattle.calendar.specs.Sound.{labels_of}
use Rattle.cursors.proofs.Cells.{get_d_any}
use Rattle.words.proofs.Tally.{tally-zero, tally-suc, tally-same, tally-add}
use Rattle.counts.proofs.Counts.{labelled-more, labelled-same, labelled-end}
use Rattle.row_maps.specs.Making.{labelled}
use Rattle.open_row.specs.Shown.{labelled_before}

-- a cell that is not empty, and one that is
module _ (cells : List ℤ) (i : ℕ) (d : ℤ) (here : i < length cells) where
  same : labelled cells i ≡ cond (is_empty (get_or cells i d)) 0 1
  same = ap (λ (z : ℤ). cond (is_empty z) 0 1) (get_d_any cells i empty d here)

  pub labelled-one : is_empty (get_or cells i d) ≡ false → labelled cells i ≡ 1
  labelled-one e = same ∙ ap (λ (b : Bool). cond b 0 1) e

  pub labelled-zero : is_empty (get_or cells i d) ≡ true → labelled cells i ≡ 0
  labelled-zero e = same ∙ ap (λ (b : Bool). cond b 0 1) e

module _ (cells : List ℤ) where
  -- the labels of the cells from i on
  abbrev left : ℕ → ℕ
  left i = length (labels_of (drop i cells))

  labels-here : (i : ℕ) → i < length cells → left i ≡ labelled cells i + left (i + 1)
  labels-here i h = by (is_empty (get_or cells i empty)) refl
    where
      by : (b : Bool) → is_empty (get_or cells i empty) ≡ b → left i ≡ labelled cells i + left (i + 1)
      by true e = omega (arith, labelled-same cells i empty h e, labelled-zero cells i empty h e)
      by false e = omega (arith, labelled-more cells i empty h e, labelled-one cells i empty h e)

  labels-left : (i : ℕ) → i ≤ length cells → left 0 ≡ labelled_before cells i + left i
  labels-left zero h = omega (arith, tally-zero (labelled cells))
  labels-left (suc i) h =
      let e : i + 1 ≡ suc i = omega arith in
      omega (arith, labels-left i (omega arith), labels-here i h, tally-suc (labelled cells) i, ap left e)

  pub labels-all : length (labels_of cells) ≡ labelled_before cells (length cells)
  labels-all =
      let end = labelled-end cells (length cells) (omega arith) in
      omega (arith, labels-left (length cells) (omega arith))

-- those of a part
pub labels-between : (cells : List ℤ) (a e : ℕ) → a ≤ e → e ≤ length cells
    → labelled_before cells e ≡ labelled_before cells a + length (labels_of (take (e - a) (drop a cells)))
labels-between cells a e h k =
    let part = take (e - a) (drop a cells) in
    let n : length part ≡ e - a = length-take-le (e - a) (drop a cells) (omega (arith, length-drop a cells)) in
    let s : a + (e - a) ≡ e = omega arith in
    let there : (i : ℕ) → i < e - a → get_or part i empty ≡ get_or cells (a + i) empty =
    λ i l. get_or-take (e - a) (drop a cells) i empty l ∙ get_or-drop a cells i empty in
    let same = tally-same (labelled part) (λ i. labelled cells (a + i)) (e - a)
    (λ i l. ap (λ (z : ℤ). cond (is_empty z) 0 1) (there i l)) in
    let both = tally-add (labelled cells) a (e - a) in
    omega (arith, labels-all part, ap (labelled_before part) n, ap (labelled_before cells) s)
