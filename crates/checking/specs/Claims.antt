-- What the check of finished lists is given, and what it comes to at an entry.
use Rattle.calendar.specs.declared.Refusal.{Refusal}
use Rattle.std.specs.Prelude.{◌≡◌, true, false, ℕ, ◌+◌, ◌*◌, ◌≤◌, ◌<◌, ℤ, length, Some, None, Ok, Err, Option, Result}
use mathlib.Core.List.{List, Memᴰ}
use Rattle.calendar.specs.Limits.{pool_limit, entry_limit, heading_length}
use Rattle.calendar.specs.Meaning.{Row}
use Rattle.calendar.specs.Operation.{Operation}
use Rattle.calendar.specs.Sound.{sound}
use Rattle.calendar.specs.Reply.{Reply}
use Rattle.calendar.specs.Reply.Reply.{refused, answer}
use Rattle.calendar.specs.Refusals.{number_of}
use Rattle.calendar.specs.Stored.{joined}
use Rattle.entries.specs.declared.Named.{Named}
use Rattle.entries.specs.Naming.{Names}
use Rattle.verdicts.specs.Begins.{Begins}
use Rattle.verdicts.specs.Check.{stands}

-- the headings and rows of the first entries are right, and end before the cell `used`
pub record Behind (l : List Row) (headings : List ℕ) (pool : List ℤ) (used : ℕ) : Type 0 where
  pub begins : Begins l headings pool
  pub ends : used ≡ length (joined l)
  pub fits : used ≤ length pool
  pub all_sound : (r : Row) → Memᴰ r l → sound r ≡ true

-- the entry k is to be checked, and there is a heading for it
pub record EntryClaimed (t : List ℤ) (k : ℕ) (headings : List ℕ) (pool : List ℤ) (used : ℕ) : Type 0 where
  pub rows : (l : List Row) × (length l ≡ k) × Behind l headings pool used
  pub in_table : 6 * k + 5 < length t
  pub has-heading : heading_length * k + heading_length ≤ length headings
  pub at-most : length pool ≤ pool_limit

-- and it names an operation over the rows of earlier entries
pub record NamedClaimed (n : Named) (k : ℕ) (headings : List ℕ) (pool : List ℤ) (used : ℕ) : Type 0 where
  pub rows : (l : List Row) × (length l ≡ k) × Behind l headings pool used
  pub names : (o : Operation ℕ) × Names k o n
  pub has-heading : heading_length * k + heading_length ≤ length headings
  pub at-most : length pool ≤ pool_limit

-- the n entries of a table that passed checks 1, 2 and 3 are to be checked
pub record TableClaimed (t : List ℤ) (n : ℕ) (headings : List ℕ) (pool : List ℤ) : Type 0 where
  pub in_table : 6 * n ≤ length t
  pub at-most : n ≤ entry_limit
  pub has-headings : heading_length * n ≤ length headings
  pub in-pool : length pool ≤ pool_limit

-- what the check of the entry k comes to, whose conversion has the reply x
abbrev pub Judges : ℕ → ℕ → List ℕ → List ℤ → Reply Row → Result (Option ℕ) Refusal → Type 0
Judges k used headings pool x (Err n) = x ≡ refused (number_of n)
Judges k used headings pool x (Ok None) = (r : Row) × (x ≡ answer r) × (stands headings pool k used r ≡ false)
Judges k used headings pool x (Ok (Some e)) = (r : Row) × (x ≡ answer r) × (stands headings pool k used r ≡ true) × (e ≡ used + r.period)
