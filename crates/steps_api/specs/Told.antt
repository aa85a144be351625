-- What the functions for C answer, and leave in the lists.
use Rattle.std.specs.Prelude.{◌≡◌, cond, List, ℕ, eqb, ℤ, pos, length}
use Rattle.std.proofs.Math.Option.{Option, none, some}
use Rattle.walks.specs.Walk.{Walk, Left, start, call}
use Rattle.steps_api.specs.Codes.{progress_code, progressed, begun}
use Rattle.steps_api.specs.Held.{walk_in}

-- what a start or a call leaves, with the state behind it
pub record After : Type 0 where
  pub left : Left
  pub state : List ℤ

-- the start of a walk, in a state of eight numbers; in any other none begins
abbrev pub started_in : List ℤ → List ℤ → List ℕ → List ℤ → Option After
started_in s t headings pool =
    let l = start t headings pool in
    cond (eqb (length s) 8) (some (record { left = l; state = begun l.walk s })) none

-- a call in the walk that the state holds, where it holds one
abbrev pub called_in : Option Walk → List ℤ → List ℤ → List ℕ → List ℤ → Option After
called_in none s t headings pool = none
called_in (some w) s t headings pool =
    let l = call w t headings pool in
    some (record { left = l; state = progressed l.walk.progress s })

abbrev pub stepped_in : List ℤ → List ℤ → List ℕ → List ℤ → Option After
stepped_in s t headings pool = called_in (walk_in s) s t headings pool

-- ---- what is told: with no walk it is 13 at the entry 0, and nothing changes

abbrev pub code_in : Option After → ℤ
code_in none = pos 1300
code_in (some a) = progress_code a.left.walk.progress

abbrev pub numbers_in : Option After → List ℕ → List ℕ
numbers_in none headings = headings
numbers_in (some a) headings = a.left.headings

abbrev pub cells_in : Option After → List ℤ → List ℤ
cells_in none pool = pool
cells_in (some a) pool = a.left.pool

abbrev pub state_in : Option After → List ℤ → List ℤ
state_in none s = s
state_in (some a) s = a.state

-- the answer, and the lists afterwards
pub record Told (x : Option After) (headings : List ℕ) (pool s : List ℤ) (r : ℤ) (headings' : List ℕ) (pool' s' : List ℤ) : Type 0 where
  pub code : r ≡ code_in x
  pub numbers : headings' ≡ numbers_in x headings
  pub cells : pool' ≡ cells_in x pool
  pub state : s' ≡ state_in x s
