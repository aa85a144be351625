-- A table whose entries are due, and lists that hold nothing.
use Rattle.std.specs.Prelude.{◌≡◌, List, [], ℕ, ◌*◌, ◌≤◌, ℤ, length}
use Rattle.calendar.specs.Meaning.{empty}
use Rattle.calendar.specs.Limits.{pool_limit, entry_limit, heading_length}
use Rattle.calendar.specs.Lists.{filled}

-- a list of h heading numbers and a pool of p cells hold nothing
pub record Cleared (h p : ℕ) (headings : List ℕ) (pool : List ℤ) : Type 0 where
  pub numbers : headings ≡ filled h 0 []
  pub cells : pool ≡ filled p empty []

-- the n entries of a table that passed checks 1, 2 and 3 are due, and the headings hold nothing
pub record TableDue (t : List ℤ) (n : ℕ) (headings : List ℕ) (pool : List ℤ) : Type 0 where
  pub cleared : headings ≡ filled (length headings) 0 []
  pub in_table : 6 * n ≤ length t
  pub at-most : n ≤ entry_limit
  pub has-headings : heading_length * n ≤ length headings
  pub in-pool : length pool ≤ pool_limit
