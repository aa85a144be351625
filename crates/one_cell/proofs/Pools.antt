-- A row of one cell that stands in a pool beside another: its cell, and the span of the two.
-- Assumes nothing.
use mathlib.Core.Path.{◌≡◌, ◌∙◌, ap}
use mathlib.Core.List.{List}
use Prim.Native.Nat.{ℕ, ◌+◌, ◌≤◌, ◌<◌}
use native.Mathlib.Nat.{le_of_dvd, dvd_refl, one-dvd}
use native.Mathlib.Omega.{arith}
use lib.IntN.{ℤ, pos}
use lib.ListN.{length, get_or, take, drop}
use lib.Seq.{get_or-take, get_or-drop}
use Rattle.integers.proofs.Divisors.{lcm-least}
use Rattle.calendar.specs.Meaning.{Row, empty}
use Rattle.calendar.specs.Size.{turn, span_of}
use Rattle.cursors.proofs.Cells.{get_d_any}

-- a cell of the n from `start` on
pub cell_in : (pool : List ℤ) (start n t : ℕ) → t < n → get_or (take n (drop start pool)) t empty ≡ get_or pool (start + t) empty
cell_in pool start n t h = get_or-take n (drop start pool) t empty h ∙ get_or-drop start pool t empty

pub first-in : (pool : List ℤ) (start n : ℕ) → 1 ≤ n → start < length pool → get_or (take n (drop start pool)) 0 empty ≡ get_or pool start (pos 0)
first-in pool start n h l =
    cell_in pool start n 0 h
    ∙ ap (λ (m : ℕ). get_or pool m empty) {x = start + 0} {y = start} (omega arith)
    ∙ get_d_any pool start empty (pos 0) l

-- the span with a row of one cell is no longer than the other's period
pub span-first : (a b : Row) → a.period ≡ 1 → 1 ≤ b.period → span_of (turn a) (turn b) ≤ b.period
unfolding span_of
span-first a b e h = le_of_dvd h (lcm-least a.period b.period b.period (omega arith) (rw e (one-dvd b.period)) (dvd_refl b.period))

pub span_second : (a b : Row) → b.period ≡ 1 → 1 ≤ a.period → span_of (turn a) (turn b) ≤ a.period
unfolding span_of
span_second a b e h = le_of_dvd h (lcm-least a.period b.period a.period h (dvd_refl a.period) (rw e (one-dvd a.period)))
