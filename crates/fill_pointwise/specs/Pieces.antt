-- A set operation over a piece of both rows: the cells that are written, and how many have a label and one outside the limits.
use Rattle.std.specs.Prelude.{◌≡◌, Bool, not, cond, List, ℕ, zero, suc, ◌+◌, ◌≤◌, ◌<◌, ℤ, length, set, get_or}
use Rattle.std.proofs.Math.Option.{Option, some}
use Rattle.calendar.specs.Meaning.{label_of, is_empty, raise, empty}
use Rattle.calendar.specs.Lists.{if_label}
use Rattle.calendar.specs.Limits.{in_range, pool_limit}
use Rattle.calendar.specs.Compute.{cell_of}
use Rattle.cursors.specs.Found.{Within}
use Rattle.pieces.specs.declared.Place.{Place}
use Rattle.kinds.specs.declared.SetOperation.{SetOperation}
use Rattle.fill_pointwise.specs.Decided.{set_label}

-- a label is outside the limits
abbrev pub is_outside : Option ℤ → Bool
is_outside l = not (if_label l in_range)

-- the cell of an instant with the cells x and y, by what is kept
abbrev pub chosen_cell : Bool → Bool → Bool → ℤ → ℤ → ℤ
chosen_cell first shared second x y =
    cond (is_empty x) (cond second y empty) (cond (is_empty y) (cond first x empty) (cond shared x empty))

-- the pool once the cells of n instants with the labels l are written, from `to` on, and how many of these labels pass a test
abbrev pub label_cells : (ℕ → Option ℤ) → ℕ → ℕ → List ℤ → List ℤ
label_cells l to zero pool = pool
label_cells l to (suc n) pool = set (label_cells l to n pool) (to + n) (cell_of (l n))

abbrev pub label_count : (Option ℤ → Bool) → (ℕ → Option ℤ) → ℕ → ℕ
label_count f l zero = 0
label_count f l (suc n) = label_count f l n + cond (f (l n)) 1 0

-- the label i instants on from a place whose cell is one of the pool, and that of a set operation over two
abbrev pub place_label : Place → List ℤ → ℕ → Option ℤ
place_label p pool i = raise p.rise (label_of (get_or pool (p.cell + i) empty))

abbrev pub piece_label : SetOperation → Place → Place → List ℤ → ℕ → Option ℤ
piece_label by a b pool i = set_label by (place_label a pool i) (place_label b pool i)

-- rows that stand before the cell `to`, with labels that 32 bits hold
pub record PlaceRoom (p : Place) (to count : ℕ) (pool : List ℤ) : Type 0 where
  pub stands : p.cell + count ≤ to
  pub rise : Within 1000000000 p.rise
  pub labels : (i : ℕ) → i < count → (j : ℤ) → label_of (get_or pool (p.cell + i) empty) ≡ some j → Within 1000000000 j

pub record PieceRoom (a b : Place) (to count : ℕ) (pool : List ℤ) : Type 0 where
  pub first : PlaceRoom a to count pool
  pub second : PlaceRoom b to count pool
  pub room : to + count ≤ length pool
  pub few : length pool ≤ pool_limit
