-- What an append writes, in a lent list.
use Rattle.std.specs.Prelude.{◌≡◌, cond, List, [], ℕ, leb, length, Result, Ok, Err}
use Rattle.calendar.specs.Lists.{filled}
use Rattle.journal.specs.Append.{Append, Appends}
use Rattle.journal.specs.Append.Append.{refused_at, writes}
use Rattle.journal.specs.declared.records.RecordError.{RecordError}
use Rattle.journal.specs.declared.records.RecordError.TheVariants.{Refused, TooShort}

-- how many of m bytes are taken, or the line of a refusal
abbrev pub recorded_in : ℕ → Append → Result ℕ RecordError
recorded_in m (refused_at n k) = Err (Refused k)
recorded_in m (writes w) = cond (leb (length w) m) (Ok (length w)) (Err TooShort)

-- what is written; nothing after a refusal, and where the list is too short
abbrev pub bytes_in : ℕ → Append → List ℕ
bytes_in m (refused_at n k) = []
bytes_in m (writes w) = cond (leb (length w) m) w []

-- the answer for s and the list of m bytes show what appending s comes to, with zeros behind it
pub record RecordShows (s : List ℕ) (m : ℕ) (r : Result ℕ RecordError) (out : List ℕ) : Type 0 where
  pub append : Append
  pub appends : Appends s append
  pub answer : r ≡ recorded_in m append
  pub bytes : out ≡ filled m 0 (bytes_in m append)
