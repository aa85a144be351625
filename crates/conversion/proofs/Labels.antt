-- Laws of labels on the rows that `convert` leaves (document 02, Req 13).
-- Assumes nothing.
use mathlib.Core.Logic.{◌↔◌}
use Prim.Native.Nat.{ℕ, ◌<◌}
use lib.IntN.{ℤ}
use lib.ListN.{length}
use Rattle.calendar.specs.Meaning.{meant, Calendar, Has}
use Rattle.laws.specs.Terms.{Term}
use Rattle.laws.specs.Laws.{LabelLaw}
use Rattle.laws.specs.Matches.{Matches, calendar_at}
use Rattle.laws.proofs.Demand3.{labels-through}
use Rattle.laws.proofs.Demand3 as laws
use Rattle.conversion.specs.Left.{ConvertedTable, row_of}
use Rattle.conversion.proofs.Demands.{represented, defined}

-- entries that match the two sides of a law of labels have rows with the same labels
pub demand-3-labels : (x y : ConvertedTable) (k l : ℕ) → k < length x.meanings → l < length y.meanings
    → (s s' : Term) → LabelLaw s s' → (v : ℕ → Calendar)
    → Matches x.table x.meanings v s k → Matches y.table y.meanings v s' l
    → (j : ℤ) → Has (meant (row_of x k)) j ↔ Has (meant (row_of y l)) j
demand-3-labels x y k l h h' s s' law v m m' =
    labels-through (calendar_at x.meanings k) (calendar_at y.meanings l) (meant (row_of x k)) (meant (row_of y l))
    (represented x k h).least.means (represented y l h').least.means
    (laws.demand-3-labels (defined x) (defined y) k l h h' s s' law v m m')
