-- A row beside the map that it would make: the same cells are counted, and the same instants are open.
-- Assumes nothing.
use mathlib.Core.Path.{◌≡◌, ◌∙◌, ap}
use mathlib.Core.Bool.{Bool}
use mathlib.Core.List.{List}
use Prim.Native.Nat.{ℕ, ◌≤◌}
use native.Mathlib.Omega.{arith}
use lib.IntN.{ℤ, pos, ◌+ℤ◌, ◌*ℤ◌}
use lib.ListN.{length}
use Rattle.integers.specs.Parts.{up}
use Rattle.integers.specs.Floor.{floor_div, floor_mod}
use Rattle.integers.proofs.Linear.{ints, ◌∴◌}
use Rattle.calendar.specs.Questions.{given}
use Rattle.calendar.specs.Sound.{labels_of}
use Rattle.cursors.specs.Found.{Sound}
use Rattle.cursors.proofs.Numbers.{numbers}
use Rattle.words.specs.Bits.{cell}
use Rattle.open_steps.specs.Ranked.{Nth}
use Rattle.words.proofs.Tally.{tally-same, tally-le}
use Rattle.open_steps.specs.Steps.{nth_open, between_open}
use Rattle.open_map.specs.Maps.{is_open}
use Rattle.open_map.specs.Turns.{set_before, rank, Turning}
use Rattle.open_map.proofs.Given as G
use Rattle.open_map.proofs.Given.{Given}
use Rattle.row_maps.specs.Making.{labelled, map_of}
use Rattle.row_maps.proofs.Shows.{labelled-le, cell-map, map-opens, map-sound}
use Rattle.open_row.specs.Inquiries.{opens}
use Rattle.open_row.specs.Shown.{labelled_before, shown_by}
use Rattle.open_row.proofs.Labelled.{labels-all}

-- the set cells of the map are those with a label
pub set_before_lem : (period : ℤ) (cells : List ℤ) (c : ℕ) → set_before (shown_by period cells) c ≡ labelled_before cells c
set_before_lem period cells c = tally-same (cell (map_of cells)) (labelled cells) c (λ i l. cell-map cells i)

pub nth-set : (cells : List ℤ) (k i : ℕ) → Nth (labelled cells) k i → Nth (cell (map_of cells)) k i
nth-set cells k i n = record {
  set = cell-map cells i ∙ n.set;
  rank = tally-same (cell (map_of cells)) (labelled cells) i (λ j l. cell-map cells j) ∙ n.rank;
}

-- so the rank of an instant counts the cells with a label
pub rank-row : (period : ℤ) (cells : List ℤ) (t : ℤ)
    → let P = up period in
    rank (shown_by period cells) t ≡ pos (labelled_before cells P) *ℤ floor_div t P +ℤ pos (labelled_before cells (floor_mod t P))
unfolding rank
rank-row period cells t =
    let P = up period in
    let m = shown_by period cells in
    ap (λ (n : ℕ). pos n *ℤ floor_div t P +ℤ pos (set_before m (floor_mod t P))) (set_before_lem period cells P)
    ∙ ap (λ (n : ℕ). pos (labelled_before cells P) *ℤ floor_div t P +ℤ pos n) (set_before_lem period cells (floor_mod t P))

-- no more cells have a label than there are
pub labels-few : (cells : List ℤ) (c : ℕ) → labelled_before cells c ≤ c
labels-few cells c = tally-le (labelled cells) c (labelled-le cells)

module _ (period distance : ℤ) (cells : List ℤ) where
  -- a row that passed check 13 makes a map that passes it
  pub map-given : Sound period distance cells → Given period (map_of cells)
  map-given s = G.given period (map_of cells) (map-sound (given period distance cells) s)

  -- how many cells of a turn have a label: what the code counts, at least one, and within the limits
  pub total-is : Sound period distance cells → length (labels_of cells) ≡ labelled_before cells (up period)
  total-is s = labels-all cells ∙ ap (labelled_before cells) (numbers period distance cells s).whole

  pub total-some : Sound period distance cells → 1 ≤ labelled_before cells (up period)
  total-some s = omega (arith, (map-given s).some, set_before_lem period cells (up period))

  pub total-turning : Sound period distance cells → Turning (pos (labelled_before cells (up period)))
  total-turning s =
      let h = (numbers period distance cells s).high in
      total-some s ∴ labels-few cells (up period) ∴ h ∴ simp ints (omega arith)

  -- the questions say the same of both
  pub opens-same : is_open (shown_by period cells) ≡ opens (given period distance cells)
  opens-same = map-opens (given period distance cells)

  pub nth-same : (x n : ℤ)
      → nth_open (up period) (is_open (shown_by period cells)) x n ≡ nth_open (up period) (opens (given period distance cells)) x n
  nth-same x n = ap (λ (f : ℤ → Bool). nth_open (up period) f x n) opens-same

  pub between-same : (x y : ℤ)
      → between_open (is_open (shown_by period cells)) x y ≡ between_open (opens (given period distance cells)) x y
  between-same x y = ap (λ (f : ℤ → Bool). between_open f x y) opens-same
