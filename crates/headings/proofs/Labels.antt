-- Laws of labels on the rows that `convert` leaves, with a record for each heading (document 02, Req 13).
-- Assumes nothing.
use mathlib.Core.Logic.{◌↔◌}
use Prim.Native.Nat.{ℕ, ◌<◌}
use lib.IntN.{ℤ}
use lib.ListN.{length}
use Rattle.calendar.specs.Meaning.{meant, Calendar, Has}
use Rattle.laws.specs.Terms.{Term}
use Rattle.laws.specs.Laws.{LabelLaw}
use Rattle.laws.specs.Matches.{Matches}
use Rattle.conversion.proofs.Labels as plain
use Rattle.headings.specs.LeftRecords.{ConvertedRecords, row_of}
use Rattle.headings.proofs.Demands.{as_plain, row-at}

-- entries that match the two sides of a law of labels have rows with the same labels
pub demand-3-labels : (x y : ConvertedRecords) (k l : ℕ) → k < length x.meanings → l < length y.meanings
    → (s s' : Term) → LabelLaw s s' → (v : ℕ → Calendar)
    → Matches x.table x.meanings v s k → Matches y.table y.meanings v s' l
    → (j : ℤ) → Has (meant (row_of x k)) j ↔ Has (meant (row_of y l)) j
demand-3-labels x y k l h h' s s' law v m m' j =
    rw (row-at x.headings x.pool k, row-at y.headings y.pool l) at (plain.demand-3-labels (as_plain x) (as_plain y) k l h h' s s' law v m m' j)
