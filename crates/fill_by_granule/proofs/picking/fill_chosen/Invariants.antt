-- `fill_by_granule::picking::fill_chosen` meets its contract. The loop's invariant: the cells of the instants before t are written, and the labels counted.
-- Assumes nothing.
use mathlib.Core.Path.{◌≡◌}
use mathlib.Core.List.{List}
use Prim.Native.Nat.{ℕ, ◌-◌}
use lib.IntN.{ℤ, pos, ◌+ℤ◌}
use Rattle.fill_by_granule.specs.Picking.{chosen_cells, chosen_count}
use Rattle.fill_by_granule.proofs.picking.fill_chosen.Given as goal

pub record Inv (c lo hi : ℤ) (from at : ℕ) (old new : List ℤ) (label : ℤ) (count t : ℕ) : Type 0 where
  pub next : label ≡ c +ℤ pos t
  pub cells : new ≡ chosen_cells c lo hi at from (t - from) old
  pub counted : count ≡ chosen_count c lo hi from (t - from)

abbrev pub invariant-loop-t : goal.invariant-loop-t
invariant-loop-t l =
    Inv l.first l.low l.high l.from l.at l.initial.pool l.pool l.label l.count l.t
