-- What a conversion leaves in the lists that it was lent, with a record for each heading, as it is computed.
use Rattle.std.specs.Prelude.{◌≡◌, List, [], ◌∷◌, ℕ, ◌+◌, ℤ}
use Rattle.calendar.specs.Meaning.{Row}
use Rattle.calendar.specs.Outcome.{Outcome, outcome}
use Rattle.calendar.specs.Outcome.Outcome.{refused_at, rows}
use Rattle.calendar.specs.Stored.{pool_after}
use Rattle.calendar.specs.Lists.{filled}
use Rattle.calendar.specs.Granules.{granules}
use Rattle.algebra.specs.TableMeaning.{Meant, TableMeans}
use Rattle.algebra.specs.TableMeaning.TableReply.{means}
use Rattle.conversion.specs.Conversion.{Conversion, Converted}
use Rattle.conversion.specs.Answers.{answered}
use Rattle.conversion.specs.Shows.{start_at, period_at, distance_at, granules_at}
use Rattle.hand_proofs.specs.Tabled.{tabled}
use Rattle.headings.specs.Records.{no_heading, row_at}
use Rattle.headings.specs.declared.Heading.{Heading}

-- "one record for each entry: start, period, distance" and "a fourth number, the slots per period of the least form"; the first row
-- starts at `start`
abbrev pub records_from : ℕ → List Row → List Heading
records_from start [] = []
records_from start (r ∷ l) = record { start = start; period = r.period; distance = r.distance; granules = granules r } ∷ records_from (start + r.period) l

-- a list of n headings: "Headings beyond the last entry are zero"; after a refusal all are
unfoldable pub records_after : ℕ → Outcome → List Heading
unfolding granules
records_after n (refused_at m k) = filled n no_heading []
records_after n (rows l) = filled n no_heading (records_from 0 l)

-- ---- from plain numbers, four a heading

-- the heading i of the numbers; it is zero past them
abbrev pub record_at : List ℕ → ℕ → Heading
record_at plain i = record { start = start_at plain i; period = period_at plain i; distance = distance_at plain i; granules = granules_at plain i }

-- the first n headings of the numbers
abbrev pub records_of : List ℕ → ℕ → List Heading
records_of plain n = tabled (record_at plain) n

-- ---- what `convert` leaves

-- the contract of `convert`: its answer to the table t and the lists afterwards, lent with n headings and p cells of any content
pub record LeftRecords (t : List ℤ) (n p : ℕ) (c : Conversion) (headings : List Heading) (pool : List ℤ) : Type 0 where
  pub answer : c ≡ answered (outcome t n p)
  pub records : headings ≡ records_after n (outcome t n p)
  pub cells : pool ≡ pool_after p (outcome t n p)

-- a table that is answered: the lists as they are left, lent with n headings and p cells, and the calendars that its entries mean, "from the table alone"
pub record ConvertedRecords : Type 0 where
  pub table : List ℤ
  pub n : ℕ
  pub p : ℕ
  pub headings : List Heading
  pub pool : List ℤ
  pub left : LeftRecords table n p Converted headings pool
  pub meanings : List Meant
  pub means : TableMeans table n p (means meanings)

-- the row of its entry k
abbrev pub row_of : ConvertedRecords → ℕ → Row
row_of x k = row_at x.headings x.pool k
