-- `fill_pointwise::piecewise::fill_piece` meets its contract: each turn of the loop writes and counts the label of one instant.
-- Assumes nothing.
use mathlib.Core.Path.{◌≡◌}
use mathlib.Core.Option.{Option}
use mathlib.Core.List.{List}
use Prim.Native.Nat.{ℕ}
use lib.IntN.{ℤ}
use Rattle.calendar.specs.Lists.{is_some}
use Rattle.pieces.specs.declared.Place.{Place}
use Rattle.fill_pointwise.specs.Pieces.{is_outside, label_cells, label_count}
use Rattle.fill_pointwise.proofs.Pieces.{kept_label}
use Rattle.fill_pointwise.proofs.piecewise.fill_piece.Given as goal

-- before the instant i: the cells of those before are written, and their labels are counted
pub record Inv (l : ℕ → Option ℤ) (to : ℕ) (old new : List ℤ) (labelled outside i : ℕ) : Type 0 where
  pub cells : new ≡ label_cells l to i old
  pub labels : labelled ≡ label_count is_some l i
  pub beyond : outside ≡ label_count is_outside l i

-- the place as the loop holds it
abbrev pub place_as : ℕ → ℤ → Place
place_as cell rise = record { cell = cell; rise = rise }

abbrev pub invariant-loop-i : goal.invariant-loop-i
invariant-loop-i l =
    Inv (kept_label l.first l.shared l.second (place_as l.a_cell l.a_rise) (place_as l.b_cell l.b_rise) l.initial.pool) l.to l.initial.pool l.pool l.labelled l.outside l.i
