-- The period and the distance of a stored row, with the limits that hold of them and of alter's numbers.
use Rattle.std.specs.Prelude.{◌≡◌, ℕ, ◌*◌, ◌≤◌, ℤ, neg_ℤ, ◌≤ℤ◌}
use Rattle.integers.specs.Parts.{up}
use Rattle.calendar.specs.Limits.{million}
use Rattle.calendar.specs.Size as Size
use Rattle.sizes.specs.declared.Turn.{Turn}

-- a turn of the code, in document 01's terms
abbrev pub turn_of : Turn → Size.Turn
turn_of a = record { period = a.period; distance = a.distance }

-- the longest pool, in cells: no period, no span and no room is above it
abbrev pub longest : ℕ
longest = 4194304

pub record Stored (a : Turn) : Type 0 where
  pub positive : 1 ≤ a.distance
  pub distance-at-most : a.distance ≤ a.period
  pub period-at-most : a.period ≤ longest

-- what alter is given: a, the fine operand, and b, with their span; "x 1 to 1,000,000", "z within ±1,000,000"
pub record Alterable (a b : Turn) (x : ℕ) (z : ℤ) (span : ℕ) : Type 0 where
  pub fine : Stored a
  pub coarse : Stored b
  pub spanned : span ≡ Size.span_of (turn_of a) (turn_of b)
  pub span-at-most : span ≤ longest
  pub positive : 1 ≤ x
  pub x-at-most : x ≤ up million
  pub low : neg_ℤ million ≤ℤ z
  pub high : z ≤ℤ million

-- no lcm(A, x) is above it
abbrev pub most_coarse : ℕ
most_coarse = longest * up million
