-- The map of a row shows the row's labelled instants, and passes check 13.
-- Assumes nothing.
use mathlib.Core.Path.{◌≡◌, refl, sym, ◌∙◌, ap}
use mathlib.Core.Logic.{◌⊎◌, inl, inr}
use mathlib.Core.Option.{none, some}
use mathlib.Core.Bool.{Bool, true, false, cond}
use mathlib.Core.List.{List}
use Prim.Native.Nat.{ℕ, ◌+◌, ◌*◌, ◌/◌, ◌%◌, ◌^◌, ◌≤◌, ◌<◌}
use native.Mathlib.Nat.{eq-zero-or-pos, zero-div, lt_of_le_of_lt, lt_of_lt_of_le}
use native.Mathlib.Omega.{arith}
use native.Mathlib.Decide.{dec_lt}
use borrow.Author.Tests.{eqb-true, le-leb}
use lib.Count.{count_trailing_zeros}
use lib.Dec.{eqb}
use lib.Pow.{pow_mono, shr_le}
use lib.IntN.{ℤ, ◌*ℤ◌, pos}
use lib.ListN.{length, get_or, get_or-eq_default}
use Rattle.integers.specs.Floor.{floor_div, floor_mod}
use Rattle.calendar.specs.Meaning.{Row, meant, raise, empty, is_empty}
use Rattle.calendar.specs.Lists.{is_some}
use Rattle.calendar.specs.Limits.{pool_limit}
use Rattle.calendar.specs.Sound.{sound}
use Rattle.granules.proofs.Tests.{is_some-iff}
use Rattle.granules.proofs.Sound.{sound-valid, sound-limits}
use Rattle.words.specs.Bits.{bit, cell}
use Rattle.words.proofs.Parts.{bit-none, bit-shr}
use Rattle.words.proofs.Zeros.{bit-above, trailing}
use Rattle.bitmaps.specs.Cells.{words_for}
use Rattle.bitmaps.proofs.Fitting.{Filled, some-set}
use Rattle.open_map.specs.Maps.{Map, is_open, map_sound}
use Rattle.row_maps.specs.Making.{labelled, word_of, map_of}
use Rattle.row_maps.proofs.Packed.{packed_lt, bit-packed}
use Rattle.row_maps.proofs.Written.{length-listed, get_or-listed}

one-le : (b : Bool) → cond b 0 1 ≤ 1
one-le true = omega arith
one-le false = omega arith

pub labelled-le : (cells : List ℤ) (c : ℕ) → labelled cells c ≤ 1
labelled-le cells c = one-le (is_empty (get_or cells c empty))

-- a number without set bits is 0
zero_bits : (w n : ℕ) → w < 2 ^ n → ((j : ℕ) → j < n → bit w j ≡ 0) → w ≡ 0
zero_bits w n h f = by (eq-zero-or-pos w)
  where
    by : (w ≡ 0) ⊎ (0 < w) → w ≡ 0
    by (inl e) = e
    by (inr p) = let t = trailing n w p h in absurd (omega (arith, t.1.set, f (count_trailing_zeros n w) t.0))

-- ---- the words of the map
module _ (cells : List ℤ) where
  word_at : (i : ℕ) → i < words_for (length cells) → get_or (map_of cells) i 0 ≡ word_of cells i
  unfolding map_of
  word_at i h = let e : 0 + i ≡ i = omega arith in get_or-listed (word_of cells) 0 (words_for (length cells)) i h ∙ ap (word_of cells) e

  pub map-length : length (map_of cells) ≡ words_for (length cells)
  unfolding map_of
  map-length = length-listed (word_of cells) 0 (words_for (length cells))

  bit-of : (i k : ℕ) → k < 64 → bit (word_of cells i) k ≡ labelled cells (64 * i + k)
  unfolding word_of
  bit-of i k h = bit-packed (λ j. labelled cells (64 * i + j)) (λ j. labelled-le cells (64 * i + j)) 64 k h

  -- each cell of the map is 1 exactly where the row's cell has a label
  pub cell-map : (c : ℕ) → cell (map_of cells) c ≡ labelled cells c
  unfolding cell
  cell-map c = by (dec_lt (c / 64) (words_for (length cells)))
    where
      by : Dec (c / 64 < words_for (length cells)) → bit (get_or (map_of cells) (c / 64) 0) (c % 64) ≡ labelled cells c
      by (yes h) =
          let e : 64 * (c / 64) + c % 64 ≡ c = omega arith in
          ap (λ (w : ℕ). bit w (c % 64)) (word_at (c / 64) h) ∙ bit-of (c / 64) (c % 64) (omega arith) ∙ ap (labelled cells) e
      by (no h) =
          let past : length cells ≤ c = omega arith in
          ap (λ (w : ℕ). bit w (c % 64)) (get_or-eq_default (map_of cells) 0 (omega (arith, map-length))) ∙ bit-none (c % 64)
          ∙ sym (ap (λ (z : ℤ). cond (is_empty z) 0 1) (get_or-eq_default cells empty past))

  -- the bits behind the last cell are 0
  word_lt : (i : ℕ) → word_of cells i < 2 ^ 64
  unfolding word_of
  word_lt i = packed_lt (λ k. labelled cells (64 * i + k)) (λ k. labelled-le cells (64 * i + k)) 64

  past-cell : (c : ℕ) → length cells ≤ c → labelled cells c ≡ 0
  past-cell c h = ap (λ (z : ℤ). cond (is_empty z) 0 1) (get_or-eq_default cells empty h)

  -- a bit of the word of the last cell, from that cell on
  bit-from : (i : ℕ) → i < words_for (length cells) → (k : ℕ) → length cells ≤ 64 * i + k → bit (get_or (map_of cells) i 0) k ≡ 0
  bit-from i h k l = ap (λ (w : ℕ). bit w k) (word_at i h) ∙ by (dec_lt k 64)
    where
      by : Dec (k < 64) → bit (word_of cells i) k ≡ 0
      by (yes m) = bit-of i k m ∙ past-cell (64 * i + k) l
      by (no m) = bit-above (word_of cells i) k (lt_of_lt_of_le (word_lt i) (pow_mono {i = 64} {j = k} (omega arith)))

  pub behind : let n = length cells in get_or (map_of cells) (n / 64) 0 / 2 ^ (n % 64) ≡ 0
  behind = by (dec_lt (n / 64) (words_for n))
    where
      n : ℕ
      n = length cells

      by : Dec (n / 64 < words_for n) → get_or (map_of cells) (n / 64) 0 / 2 ^ (n % 64) ≡ 0
      by (yes h) =
          let w = get_or (map_of cells) (n / 64) 0 in
          let small : w / 2 ^ (n % 64) < 2 ^ 64 = lt_of_le_of_lt (shr_le w (n % 64)) (rw (word_at (n / 64) h) (word_lt (n / 64))) in
          zero_bits (w / 2 ^ (n % 64)) 64 small
          (λ j l. bit-shr w (n % 64) j ∙ bit-from (n / 64) h (n % 64 + j) (omega arith))
      by (no h) =
          ap (λ (w : ℕ). w / 2 ^ (n % 64)) (get_or-eq_default (map_of cells) 0 (omega (arith, map-length))) ∙ zero-div (2 ^ (n % 64))

-- ---- the map of a row
abbrev pub map_of_row : Row → Map
map_of_row r = record { period = r.period; words = map_of r.cells }

shown : (b : Bool) (z k : ℤ) → eqb (cond b 0 1) 1 ≡ is_some (raise k (cond b none (some z)))
shown true z k = refl
shown false z k = refl

-- "A map made from a row is proved to show that row's open instants."
pub map-shows-row : (r : Row) (t : ℤ) → is_open (map_of_row r) t ≡ is_some (meant r t)
unfolding is_open meant
map-shows-row r t =
    let c = floor_mod t r.period in
    let z = get_or r.cells c empty in
    ap (λ (n : ℕ). eqb n 1) (cell-map r.cells c) ∙ shown (is_empty z) z (pos r.distance *ℤ floor_div t r.period)

-- so each definition over the open instants says the same of the row and of its map
pub map-opens : (r : Row) → is_open (map_of_row r) ≡ (λ t. is_some (meant r t))
map-opens r = λ k t. map-shows-row r t k

set_there : (r : Row) (t : ℤ) → is_open (map_of_row r) t ≡ true → cell (map_of r.cells) (floor_mod t r.period) ≡ 1
unfolding is_open
set_there r t e = eqb-true (cell (map_of r.cells) (floor_mod t r.period)) 1 e

-- such a map passes check 13
pub map-sound : (r : Row) → sound r ≡ true → map_sound (map_of_row r) ≡ true
unfolding map_sound
map-sound r s =
    let v = sound-valid r s in
    let l = sound-limits r s in
    let words = map_of r.cells in
    let t = v.labelled.0 in
    let there : is_open (map_of_row r) t ≡ true = map-shows-row r t ∙ (is_some-iff (meant r t)).1 (v.label, v.labelled.1) in
    let filled : Filled r.period words = record {
      whole = map-length r.cells ∙ ap words_for v.whole;
      behind = ap (λ (n : ℕ). get_or words (n / 64) 0 / 2 ^ (n % 64)) (sym v.whole) ∙ behind r.cells;
    } in
    simp (le-leb 1 r.period v.positive.0, le-leb r.period pool_limit l.1)
    (some-set r.period words filled (floor_mod t r.period) (set_there r t there))
