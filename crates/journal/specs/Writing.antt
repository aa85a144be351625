-- An append as it is computed, and what writing it into a lent list answers and leaves.
use Rattle.std.specs.Prelude.{◌≡◌, List, [], ◌∷◌, ℕ, Result}
use Rattle.calendar.specs.Lists.{filled}
use Rattle.table_text.specs.Text.{bad_text}
use Rattle.table_text.specs.Parse.{Reading, parse}
use Rattle.table_text.specs.Parse.Reading.{bad, table}
use Rattle.journal.specs.Journal.{record_of}
use Rattle.journal.specs.Append.{Append}
use Rattle.journal.specs.Append.Append.{refused_at, writes}
use Rattle.journal.specs.Lent.{recorded_in, bytes_in}
use Rattle.journal.specs.declared.records.RecordError.{RecordError}

-- by what reading the text comes to
abbrev pub append_read : List ℕ → Reading → Append
append_read s (bad k) = refused_at bad_text k
append_read s (table t) = writes (record_of s)

unfoldable pub append_of : List ℕ → Append
unfolding parse
append_of [] = refused_at bad_text 0
append_of (b ∷ s) = append_read (b ∷ s) (parse (b ∷ s))

-- the contract of `record`: its answer to the text s, and the list of m bytes afterwards, with zeros behind what is
-- written
pub record RecordLeft (s : List ℕ) (m : ℕ) (r : Result ℕ RecordError) (out : List ℕ) : Type 0 where
  pub answer : r ≡ recorded_in m (append_of s)
  pub bytes : out ≡ filled m 0 (bytes_in m (append_of s))
