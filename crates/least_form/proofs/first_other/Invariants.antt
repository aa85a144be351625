-- `least_form::first_other` meets its contract. The loop keeps that each cell of the blocks passed is repeated; the first block
-- with one that is not ends it, and the cell is found there.
-- Assumes nothing.
use mathlib.Core.Path.{◌≡◌}
use mathlib.Core.List.{List}
use Prim.Native.Nat.{ℕ, ◌+◌, ◌-◌, ◌≤◌, ◌<◌}
use lib.IntN.{ℤ}
use lib.ListN.{length}
use Rattle.least_form.specs.Cells.{RepeatsAt}
use Rattle.least_form.proofs.first_other.Given as goal

pub record Inv (cells : List ℤ) (q : ℕ) (rise : ℤ) (n t : ℕ) : Type 0 where
  pub whole : n + q ≡ length cells
  pub within : t ≤ n
  pub passed : (k : ℕ) → k < t → RepeatsAt cells q rise k

abbrev pub invariant-loop-t : goal.invariant-loop-t
invariant-loop-t l = Inv l.cells l.q l.rise l.n l.t

abbrev pub decreases-loop-t : goal.decreases-loop-t
decreases-loop-t l = l.n - l.t
