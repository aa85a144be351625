-- `standing::rows_stand` meets its contract. The loop's invariant: the first i rows stand, up to the cell `used`.
-- Assumes nothing.
use mathlib.Core.Path.{◌≡◌}
use mathlib.Core.Bool.{true}
use mathlib.Core.List.{List}
use Prim.Native.Nat.{ℕ}
use lib.IntN.{ℤ}
use Rattle.standing.specs.Tests.{rows_stand, EndsAt}
use Rattle.standing.proofs.rows_stand.Given as goal

pub record Inv (headings : List ℕ) (pool : List ℤ) (used i : ℕ) : Type 0 where
  pub stand : rows_stand headings pool i ≡ true
  pub ends : EndsAt headings pool i used

abbrev pub invariant-loop-i : goal.invariant-loop-i
invariant-loop-i l = Inv l.headings l.pool l.used l.i
