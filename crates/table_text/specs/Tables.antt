-- The answer of the code for a text, and the numbers that it leaves.
use Rattle.std.specs.Prelude.{◌≡◌, List, [], ℕ, ℤ, pos, length, Result, Ok, Err}
use Rattle.calendar.specs.Lists.{filled}
use Rattle.table_text.specs.Parse.{Reading}
use Rattle.table_text.specs.Parse.Reading.{bad, table}

abbrev pub reading_answer : Reading → Result ℕ ℕ
reading_answer (bad k) = Err k
reading_answer (table t) = Ok (length t)

-- the numbers of a table; after a bad line there are none
abbrev pub numbers_of : Reading → List ℤ
numbers_of (bad k) = []
numbers_of (table t) = t

-- the answer and the numbers, `lent` in all, are those of the reading
pub record Left (lent : ℕ) (r : Reading) (a : Result ℕ ℕ) (l : List ℤ) : Type 0 where
  pub answer : a ≡ reading_answer r
  pub numbers : l ≡ filled lent (pos 0) (numbers_of r)
