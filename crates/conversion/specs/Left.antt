-- What a conversion leaves in the lists that it was lent, as it is computed.
use Rattle.std.specs.Prelude.{◌≡◌, List, ℕ, ◌/◌, ℤ}
use Rattle.calendar.specs.Limits.{heading_length}
use Rattle.calendar.specs.Meaning.{Row}
use Rattle.calendar.specs.Outcome.{Outcome, outcome}
use Rattle.calendar.specs.Stored.{pool_after, headings_after}
use Rattle.algebra.specs.TableMeaning.{Meant, TableMeans}
use Rattle.algebra.specs.TableMeaning.TableReply.{means}
use Rattle.conversion.specs.Conversion.{Conversion, Converted}
use Rattle.conversion.specs.Answers.{answered}
use Rattle.conversion.specs.Shows.{row_at}

-- the answer and both lists, of h heading numbers and p cells, are those of the outcome o
pub record Ended (h p : ℕ) (o : Outcome) (c : Conversion) (headings : List ℕ) (pool : List ℤ) : Type 0 where
  pub answer : c ≡ answered o
  pub numbers : headings ≡ headings_after h o
  pub cells : pool ≡ pool_after p o

-- the contract of `convert`: its answer to the table t and the lists afterwards, lent with h numbers and p cells of any content
abbrev pub Left : List ℤ → ℕ → ℕ → Conversion → List ℕ → List ℤ → Type 0
Left t h p c headings pool = Ended h p (outcome t (h / heading_length) p) c headings pool

-- ---- answered tables

-- "An entry is answered when its table is converted without a refusal": such a table, the lists as they are left, lent with h numbers and p cells, and
-- the calendars that its entries mean, "from the table alone"
pub record ConvertedTable : Type 0 where
  pub table : List ℤ
  pub h : ℕ
  pub p : ℕ
  pub headings : List ℕ
  pub pool : List ℤ
  pub left : Left table h p Converted headings pool
  pub meanings : List Meant
  pub means : TableMeans table (h / heading_length) p (means meanings)

-- the row of its entry k
abbrev pub row_of : ConvertedTable → ℕ → Row
row_of x k = row_at x.headings x.pool k
