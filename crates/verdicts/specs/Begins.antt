-- Lists whose first headings and rows are right, and what the conversion makes of a table's first entries.
use Rattle.std.specs.Prelude.{◌≡◌, List, [], ℕ, ◌*◌, ◌/◌, ℤ, length, take}
use Rattle.calendar.specs.Limits.{heading_length}
use Rattle.calendar.specs.Meaning.{Row}
use Rattle.calendar.specs.Reply.{Reply}
use Rattle.calendar.specs.Table.{admitted}
use Rattle.calendar.specs.Outcome.{Outcome, entries, outcome}
use Rattle.calendar.specs.Stored.{headings_from, joined}

-- checks 1, 2 and 3 of lists as they are lent
abbrev pub admits : List ℤ → List ℕ → List ℤ → Reply ℕ
admits t headings pool = admitted t (length headings / heading_length) (length pool)

-- what our conversion comes to "in a pool of that length"
abbrev pub converts : List ℤ → List ℕ → List ℤ → Outcome
converts t headings pool = outcome t (length headings / heading_length) (length pool)

-- and its first k entries, behind checks 1 to 3
abbrev pub first_entries : List ℤ → ℕ → ℕ → Outcome
first_entries t k pool = entries t k 0 [] pool

-- the headings and rows of the first entries are these; what stands behind them is left open
pub record Begins (l : List Row) (headings : List ℕ) (pool : List ℤ) : Type 0 where
  pub numbers : take (heading_length * length l) headings ≡ headings_from 0 l
  pub cells : take (length (joined l)) pool ≡ joined l
