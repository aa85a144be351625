-- `fill_unary::renumbering::labels_below` meets its contract: the loop keeps the greatest label so far and how many labels were passed.
-- Assumes nothing.
use mathlib.Core.List.{List}
use Prim.Native.Nat.{ℕ, ◌≤◌}
use lib.IntN.{ℤ}
use Rattle.calendar.specs.Questions.{given}
use Rattle.fill_unary.proofs.Passed.{Passed}
use Rattle.fill_unary.proofs.renumbering.labels_below.Given as goal

pub record Inv (x last : ℤ) (cells : List ℤ) (period distance : ℤ) (label : ℤ) (labels i : ℕ) : Type 0 where
  pub few : labels ≤ i
  pub passed : Passed (given period distance cells) last x label labels i

abbrev pub invariant-loop-cell : goal.invariant-loop-cell
invariant-loop-cell l = Inv l.x l.last l.a_cells l.a_period l.a_distance l.label l.labels l.cell-index
