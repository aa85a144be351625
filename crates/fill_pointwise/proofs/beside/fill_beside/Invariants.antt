-- `fill_pointwise::beside::fill_beside` meets its contract. The loop's invariant: the cells of the instants before t are written, and those kept are counted.
-- Assumes nothing.
use mathlib.Core.Path.{◌≡◌}
use mathlib.Core.Bool.{Bool}
use mathlib.Core.List.{List}
use Prim.Native.Nat.{ℕ}
use lib.IntN.{ℤ, pos, ◌+ℤ◌}
use Rattle.fill_pointwise.specs.Beside.{kept_cells, kept_count}
use Rattle.fill_pointwise.proofs.beside.fill_beside.Given as goal

pub record Inv (c : ℤ) (bare shared : Bool) (from at : ℕ) (old new : List ℤ) (label : ℤ) (count t : ℕ) : Type 0 where
  pub next : label ≡ c +ℤ pos t
  pub cells : new ≡ kept_cells c bare shared from at t old
  pub counted : count ≡ kept_count bare shared from t old

abbrev pub invariant-loop-t : goal.invariant-loop-t
invariant-loop-t l = Inv l.first l.bare l.shared l.from l.at l.initial.pool l.pool l.label l.count l.t
