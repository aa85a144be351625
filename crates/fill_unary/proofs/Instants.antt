-- A row that stands in a pool: an instant of its first turn is a cell of the pool, and one of them has a label.
-- Assumes nothing.
use mathlib.Core.Path.{◌≡◌, ◌∙◌, ap}
use mathlib.Core.Option.{some}
use mathlib.Core.List.{List}
use Prim.Native.Nat.{ℕ, ◌+◌, ◌<◌}
use native.Mathlib.Omega.{arith}
use lib.IntN.{ℤ, pos}
use lib.ListN.{length, get_or, take, drop}
use lib.Seq.{get_or-take, get_or-drop}
use Rattle.integers.specs.Parts.{up}
use Rattle.integers.proofs.Linear.{ints, ◌∴◌}
use Rattle.integers.proofs.Order.{pos-up}
use Rattle.calendar.specs.Meaning.{Row, meant, label_of, empty}
use Rattle.calendar.specs.Questions.{given}
use Rattle.granules.specs.Valid.{Valid}
use Rattle.granules.proofs.Calendars.{labelled-near}
use Rattle.granules.proofs.Rows.{meant-repeats, meant-cell}
use Rattle.cursors.proofs.Cells.{get_d_any}

-- the instant t of the row of the m cells from s on is the cell s + t
pub label-at : (period distance : ℤ) (m s t : ℕ) (pool : List ℤ) → t < up period → t < m → s + t < length pool
    → meant (given period distance (take m (drop s pool))) (pos t) ≡ label_of (get_or pool (s + t) (pos 0))
label-at period distance m s t pool h k l =
    meant-cell (given period distance (take m (drop s pool))) t h
    ∙ ap label_of (get_or-take m (drop s pool) t empty k ∙ get_or-drop s pool t empty ∙ get_d_any pool (s + t) empty (pos 0) l)

-- a labelled instant of the first turn
pub labelled-first : (r : Row) → Valid r → (u : ℕ) × (j : ℤ) × (u < r.period) × (meant r (pos u) ≡ some j)
labelled-first r v =
    let n = labelled-near (meant r) r.period r.distance (meant-repeats r v.positive.0) v.positive.0 v.label v.labelled (pos 0) in
    let e = pos-up n.2 in
    (up n.0, n.1, e ∴ n.3 ∴ simp ints (omega arith), ap (meant r) e ∙ n.4)
