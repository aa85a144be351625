-- Rows and headings as they stand between two entries.
use Rattle.calendar.specs.declared.Refusal.{Refusal}
use Rattle.std.specs.Prelude.{◌≡◌, true, ℕ, ◌+◌, ◌-◌, ◌*◌, ◌≤◌, ◌<◌, ℤ, length, take, Err, Ok, Result}
use mathlib.Core.List.{List, [], ◌∷◌, ◌++◌, Memᴰ}
use Rattle.calendar.specs.Meaning.{Row}
use Rattle.calendar.specs.Sound.{sound}
use Rattle.calendar.specs.Limits.{pool_limit, heading_length}
use Rattle.calendar.specs.Refusals.{number_of}
use Rattle.calendar.specs.Reply.Reply.{refused, answer}
use Rattle.calendar.specs.Table.{entry_at}
use Rattle.calendar.specs.Outcome.{judged}
use Rattle.calendar.specs.Stored.{joined, headings_from}
use Rattle.calendar.specs.Lists.{filled}

-- the rows l stand in the pool from cell 0 on, up to the cell `used`, with their headings; what stands behind them is left open
pub record Stores (l : List Row) (headings : List ℕ) (pool : List ℤ) (used : ℕ) : Type 0 where
  pub numbers : headings ≡ filled (length headings) 0 (headings_from 0 l)
  pub cells : take used pool ≡ joined l
  pub ends : used ≡ length (joined l)
  pub fits : used ≤ length pool
  pub all_sound : (r : Row) → Memᴰ r l → sound r ≡ true

-- the entry k of the table is due, and there is a heading for it
pub record EntryDue (t : List ℤ) (k : ℕ) (headings : List ℕ) (pool : List ℤ) (used : ℕ) : Type 0 where
  pub rows : (l : List Row) × (length l ≡ k) × Stores l headings pool used
  pub in_table : 6 * k + 5 < length t
  pub has-heading : heading_length * k + heading_length ≤ length headings
  pub at-most : length pool ≤ pool_limit

-- what became of the entry k behind the rows l: after a refusal these still stand, and the cells behind them are scratch
abbrev pub Entered : List ℤ → ℕ → List Row → Result ℕ Refusal → List ℕ → List ℤ → Type 0
Entered t k l (Err n) headings pool =
    (judged l (length pool - length (joined l)) (entry_at t k) ≡ refused (number_of n)) × Stores l headings pool (length (joined l))
Entered t k l (Ok e) headings pool =
    (r : Row) × (judged l (length pool - length (joined l)) (entry_at t k) ≡ answer r) × Stores (l ++ (r ∷ [])) headings pool e
