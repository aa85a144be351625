-- Answered tables (document 01: "An entry is answered when its table is converted without a refusal.").
use Rattle.std.specs.Prelude.{◌≡◌, List, ℕ, ℤ}
use Rattle.calendar.specs.Meaning.{Row}
use Rattle.calendar.specs.Outcome.{outcome}
use Rattle.calendar.specs.Outcome.Outcome.{rows}
use Rattle.algebra.specs.TableMeaning.{Meant, TableMeans}
use Rattle.algebra.specs.TableMeaning.TableReply.{means}

-- a table that is answered: what its entries mean, and the rows that are stored
pub record Answered : Type 0 where
  pub table : List ℤ
  pub headings : ℕ
  pub pool : ℕ
  pub meanings : List Meant
  pub stored : List Row
  pub means : TableMeans table headings pool (means meanings)
  pub stores : outcome table headings pool ≡ rows stored
