-- A set operation with a row of one cell, whose labels the other row keeps or not.
use Rattle.std.proofs.Math.Option.{Option, none, some}
use Rattle.std.specs.Prelude.{Bool, true, false, cond, List, ℕ, zero, suc, ◌+◌, ◌≤◌, ℤ, pos, ◌+ℤ◌, ◌≤ℤ◌, length, set, get_or}
use Rattle.calendar.specs.Meaning.{label_of, empty}
use Rattle.calendar.specs.Lists.{only}
use Rattle.calendar.specs.Limits.{pool_limit, label_limit}
use Rattle.calendar.specs.Compute.{cell_of}
use Rattle.cursors.specs.Found.{Within}
use Rattle.kinds.specs.declared.SetOperation.{SetOperation}
use Rattle.kinds.specs.declared.SetOperation.TheVariants.{Union, Intersection, Difference}

-- a set operation keeps the label of one row where the other has one too; that of a where b has none; that of b where a has none
abbrev pub keeps_shared : SetOperation → Bool
keeps_shared Union = true
keeps_shared Intersection = true
keeps_shared Difference = false

abbrev pub keeps_first : SetOperation → Bool
keeps_first Union = true
keeps_first Intersection = false
keeps_first Difference = true

abbrev pub keeps_second : SetOperation → Bool
keeps_second Union = true
keeps_second Intersection = false
keeps_second Difference = false

-- by the other row's label
abbrev pub kept_by : Bool → Bool → Option ℤ → Bool
kept_by bare shared none = bare
kept_by bare shared (some k) = shared

-- the label of the instant n is kept, by the other row, whose cells stand from `from` on
abbrev pub kept_at : Bool → Bool → ℕ → List ℤ → ℕ → Bool
kept_at bare shared from pool n = kept_by bare shared (label_of (get_or pool (from + n) empty))

-- the pool once the cells of n instants are written, from `at` on: c plus the instant where it is kept
abbrev pub kept_cells : ℤ → Bool → Bool → ℕ → ℕ → ℕ → List ℤ → List ℤ
kept_cells c bare shared from at zero pool = pool
kept_cells c bare shared from at (suc n) pool =
    set (kept_cells c bare shared from at n pool) (at + n) (cell_of (only (c +ℤ pos n) (kept_at bare shared from pool n)))

-- how many of them are kept
abbrev pub kept_count : Bool → Bool → ℕ → ℕ → List ℤ → ℕ
kept_count bare shared from zero pool = 0
kept_count bare shared from (suc n) pool =
    let count = kept_count bare shared from n pool in cond (kept_at bare shared from pool n) (1 + count) count

-- the labels are within the limits, and the other row stands before the cell `at`, behind which there is room
pub record BesideRoom (c : ℤ) (from at period : ℕ) (pool : List ℤ) : Type 0 where
  pub label : Within 1000000000 c
  pub labels : (c +ℤ pos period) ≤ℤ label_limit
  pub stands : from + period ≤ at
  pub room : at + period ≤ length pool
  pub few : length pool ≤ pool_limit
