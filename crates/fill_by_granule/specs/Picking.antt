-- A selection from a row of one cell, by the places of instants.
use Rattle.std.specs.Prelude.{List, cond, ℕ, zero, suc, ◌+◌, ◌≤◌, min, ℤ, pos, ◌+ℤ◌, ◌-ℤ◌, ◌≤ℤ◌, length, set}
use Rattle.integers.specs.Parts.{up}
use Rattle.calendar.specs.Limits.{pool_limit, label_limit, between}
use Rattle.calendar.specs.Algebra.{pick_start}
use Rattle.calendar.specs.Lists.{only}
use Rattle.calendar.specs.Compute.{cell_of}
use Rattle.cursors.specs.Found.{Within}
use Rattle.kinds.specs.declared.Pick.{Pick}

-- the pool once the cells of n instants from t on are written; the cell of the instant 0 is the one at `at`. The label of an instant u is
-- c + u, where that is one from lo to hi
abbrev pub chosen_cells : ℤ → ℤ → ℤ → ℕ → ℕ → ℕ → List ℤ → List ℤ
chosen_cells c lo hi at t zero pool = pool
chosen_cells c lo hi at t (suc n) pool =
    let j = c +ℤ pos (t + n) in set (chosen_cells c lo hi at t n pool) (at + (t + n)) (cell_of (only j (between lo hi j)))

-- how many of them have one
abbrev pub chosen_count : ℤ → ℤ → ℤ → ℕ → ℕ → ℕ
chosen_count c lo hi t zero = 0
chosen_count c lo hi t (suc n) = let m = chosen_count c lo hi t n in cond (between lo hi (c +ℤ pos (t + n))) (1 + m) m

-- the labels are within the limits, and there is room for the cells
pub record ChosenRoom (c : ℤ) (from to at : ℕ) (pool : List ℤ) : Type 0 where
  pub label : Within 1000000000 c
  pub labels : (c +ℤ pos to) ≤ℤ label_limit
  pub in_order : from ≤ to
  pub room : at + to ≤ length pool
  pub few : length pool ≤ pool_limit

-- the labels of the first and the last position that Pick takes, of n instants from v on
abbrev pub from_label : Pick → ℤ → ℤ → ℕ → ℤ
from_label p c v n = c +ℤ v +ℤ pick_start p.x n -ℤ pos 1

abbrev pub to_label : Pick → ℤ → ℤ → ℕ → ℤ
to_label p c v n = c +ℤ v +ℤ (pick_start p.x n +ℤ pos (up p.y) -ℤ pos 1) -ℤ pos 1

-- the instant v, or the nearest one of a working row of that period, or behind it
abbrev pub reach_of : ℤ → ℕ → ℕ
reach_of v period = min (up v) period
