-- What is to be printed for a text (document 02, Req 01), by what its table means, and a list that shows it.
use Rattle.std.specs.Prelude.{◌≡◌, ◌⊎◌, List, map, ℕ, ◌<◌, ℤ, length, get_or, Option}
use Rattle.calendar.specs.Limits.{entry_limit}
use Rattle.calendar.specs.Meaning.{Row, bottom_row}
use Rattle.calendar.specs.Lists.{filled}
use Rattle.algebra.specs.TableMeaning.{nothing, TableReply, TableMeans}
use Rattle.algebra.specs.TableMeaning.TableReply.{refused_at, means}
use Rattle.algebra.specs.Represents.{Represents}
use Rattle.table_text.specs.Words.{line, lines}
use Rattle.table_text.specs.Text.{bad_text, sheet_pool, joined, TextOf, BadAt}
use Rattle.table_text.specs.SheetWords.{row_words, refusal_words}
use Rattle.sheet_text.specs.Lent.{written_in, whole_in}

-- "a line for each entry: period, distance, then the cells" of its least row, or "one such line only, 'refused 8 at 1'"
abbrev pub LinesOf : TableReply → List ℕ → Type 0
LinesOf (refused_at n k) out = out ≡ line (refusal_words n k)
LinesOf (means ms) out =
    (l : List Row) × (length l ≡ length ms) × ((k : ℕ) → k < length ms → Represents (get_or ms k nothing) (get_or l k bottom_row))
    × (out ≡ lines (map row_words l))

-- the text s is bad at line k and refused with 19, or it is one of entries, whose meaning is shown
abbrev pub Prints : List ℕ → List ℕ → Type 0
Prints s out =
    ((k : ℕ) × BadAt k s × (out ≡ line (refusal_words bad_text k)))
    ⊎ ((es : List (List ℤ)) × TextOf es s × ((m : TableReply) × TableMeans (joined es) entry_limit sheet_pool m × LinesOf m out))

-- the answer for s and the list of m bytes show what is to be printed, with zeros behind it
pub record SheetShows (s : List ℕ) (m : ℕ) (r : Option ℕ) (out : List ℕ) : Type 0 where
  pub text : List ℕ
  pub prints : Prints s text
  pub answer : r ≡ written_in m text
  pub bytes : out ≡ filled m 0 (whole_in m text)
