-- The row of an operand in a pool, and its granules.
use Rattle.std.specs.Prelude.{◌≡◌, true, List, ℕ, zero, suc, ◌+◌, ◌≤◌, ℤ, pos, ◌≤ℤ◌, length, take, drop}
use Rattle.integers.specs.Parts.{up}
use Rattle.calendar.specs.Meaning.{Row}
use Rattle.calendar.specs.Sound.{sound}
use Rattle.calendar.specs.Granules as G
use Rattle.calendar.specs.Questions.{given}
use Rattle.kinds.specs.declared.Operand.{Operand}

-- the cell behind its last one
abbrev pub end : Operand → ℕ
end a = a.start + up a.period

-- as many cells as its period says, from its start on
abbrev pub row_in : List ℤ → Operand → Row
row_in pool a = given a.period a.distance (take (up a.period) (drop a.start pool))

-- the row stands in the pool, and is sound
pub record Stands (pool : List ℤ) (a : Operand) : Type 0 where
  pub is-sound : sound (row_in pool a) ≡ true
  pub fits : end a ≤ length pool

-- the granules of the operand are those of its row
pub record Counted (pool : List ℤ) (a : Operand) : Type 0 where
  pub distance : pos 0 ≤ℤ a.distance
  pub granules : a.granules ≡ pos (G.granules (row_in pool a))

-- so many operands have the granules of their rows
abbrev pub CountedFirst : ℕ → List ℤ → Operand → Operand → Type 0
CountedFirst zero pool a b = Unit {0}
CountedFirst (suc n) pool a b = Counted pool a × Counted pool b
