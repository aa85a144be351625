-- `one_cell::others` meets its contract: the loop counts the cells that it has passed with another label.
-- Assumes nothing.
use mathlib.Core.Path.{◌≡◌}
use mathlib.Core.Option.{some}
use mathlib.Core.List.{List}
use Prim.Native.Nat.{ℕ, ◌≤◌, ◌<◌}
use lib.IntN.{ℤ, pos, ◌+ℤ◌}
use lib.ListN.{get_or}
use Rattle.calendar.specs.Meaning.{label_of, empty}
use Rattle.one_cell.specs.Along.{Along}
use Rattle.one_cell.proofs.others.Given as goal

-- the cell k has the label c + k, or none
abbrev pub At : ℤ → List ℤ → ℕ → Type 0
At c cells k = (j : ℤ) → label_of (get_or cells k empty) ≡ some j → j ≡ c +ℤ pos k

pub record Inv (c : ℤ) (cells : List ℤ) (count : ℕ) (label : ℤ) (i : ℕ) : Type 0 where
  pub few : count ≤ i
  pub next : label ≡ c +ℤ pos i
  pub none : count ≡ 0 → (k : ℕ) → k < i → At c cells k
  pub along : Along c cells → count ≡ 0

abbrev pub invariant-loop-z : goal.invariant-loop-z
invariant-loop-z l = Inv l.first l.cells l.count l.label l.z-index
