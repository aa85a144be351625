-- The cursor of an instant, as a loop over a pool holds it: the cell of the pool, and the rise of the turn.
-- Assumes nothing.
use mathlib.Core.Path.{◌≡◌, sym, ◌∙◌, ap}
use mathlib.Core.List.{List}
use Prim.Native.Nat.{ℕ, ◌+◌, ◌-◌, ◌≤◌, ◌<◌}
use native.Mathlib.Omega.{arith}
use lib.IntN.{ℤ, pos, ◌+ℤ◌}
use lib.ListN.{length, get_or, take, drop, length-take, length-drop}
use lib.Seq.{get_or-take, get_or-drop}
use Rattle.integers.specs.Parts.{up}
use Rattle.integers.proofs.Linear.{ints, ◌∴◌}
use Rattle.calendar.specs.Meaning.{Row, meant, raise, label_of, empty}
use Rattle.cursors.specs.declared.Cursor.{Cursor}
use Rattle.cursors.specs.Found.{Sound, Near}
use Rattle.cursors.specs.Cursor.{cursor_at}
use Rattle.cursors.proofs.Numbers.{Numbers, numbers}
use Rattle.cursors.proofs.Cells.{get_d_any}
use Rattle.cursors.proofs.Cursors.{Bounds, bounds, cursor-of, cursor-moved, cursor-meant}
use Rattle.fill_shared.proofs.Filling.{Lent, row_of}

abbrev pub cells_of : Lent → List ℤ → List ℤ
cells_of a pool = take (a.end - a.start) (drop a.start pool)

-- the cell i of the pool and the rise z are those of the instant u
pub record Cell (a : Lent) (pool : List ℤ) (i : ℕ) (z u : ℤ) : Type 0 where
  pub low : a.start ≤ i
  pub high : i < a.end
  pub is : ◌≡◌ {A = Cursor} (record { index = pos (i - a.start); rise = z }) (cursor_at (row_of a pool) u)

module _ (a : Lent) (pool : List ℤ) (s : Sound a.period a.distance (cells_of a pool)) (in-pool : a.end ≤ length pool) where
  abbrev row : Row
  row = row_of a pool

  n : Numbers a.period a.distance row.cells
  n = numbers a.period a.distance row.cells s

  -- the period is the number of cells
  pub cells_are : up a.period ≡ a.end - a.start
  cells_are = sym n.whole ∙ simp (length-take, length-drop) (omega arith)

  period-is : a.period ≡ pos (a.end - a.start)
  period-is = n.period-is ∙ ap pos cells_are

  some-cell : a.start < a.end
  some-cell = omega (arith, cells_are, n.low, n.middle)

  pub first_cell : Cell a pool a.start (pos 0) (pos 0)
  first_cell = record {
    low = omega arith;
    high = some-cell;
    is = cursor-of row (pos 0) (pos 0) _ _ 0 (simp ints (omega arith)) (omega (arith, n.low, n.middle)) (ap pos (omega arith)) (simp ints (omega arith));
  }

  module _ (i : ℕ) (z u : ℤ) (c : Cell a pool i z u) where
    pub cell-bounds : Near u → Bounds a.period a.distance (record { index = pos (i - a.start); rise = z })
    cell-bounds near = bounds a.period a.distance row.cells s _ (u, near, c.is)

    -- the cell n instants on in the same turn, and the same cell in the next turn
    pub cell-on : (n : ℕ) → i + n < a.end → Cell a pool (i + n) z (u +ℤ pos n)
    cell-on n h = record {
      low = omega (arith, c.low);
      high = h;
      is = cursor-moved a.period a.distance row.cells s _ u (pos n) (pos 0) _ _ c.is
          (c.low ∴ simp ints (omega arith)) (simp ints (omega arith)) (simp ints (omega arith)) (period-is ∴ c.low ∴ simp ints (omega arith));
    }

    pub cell-next : Cell a pool i (z +ℤ a.distance) (u +ℤ pos (a.end - a.start))
    cell-next = record {
      low = c.low;
      high = c.high;
      is = cursor-moved a.period a.distance row.cells s _ u (pos (a.end - a.start)) (pos 1) _ _ c.is
          (period-is ∴ simp ints (omega arith)) (simp ints (omega arith)) (simp ints (omega arith)) (period-is ∴ c.low ∴ c.high ∴ simp ints (omega arith));
    }

    -- the label of the instant, by the cell of a pool in which the row stands as well
    pub label-of-cell : (new : List ℤ) → a.end ≤ length new → row_of a new ≡ row → (d : ℤ) → meant row u ≡ raise z (label_of (get_or new i d))
    label-of-cell new g k d =
        let m : i - a.start < a.end - a.start = omega (arith, c.low, c.high) in
        let e : a.start + (i - a.start) ≡ i = omega (arith, c.low) in
        cursor-meant row _ u c.is
        ∙ ap (λ (y : ℤ). raise z (label_of y))
        (ap (λ (r : Row). get_or r.cells (i - a.start) empty) (sym k)
        ∙ get_or-take (a.end - a.start) (drop a.start new) (i - a.start) empty m
        ∙ get_or-drop a.start new (i - a.start) empty
        ∙ ap (λ (n : ℕ). get_or new n empty) e
        ∙ get_d_any new i empty d (omega (arith, c.high)))
