-- `match_unary::match_unary` meets its contract: each turn of the loop compares the label of one instant.
-- Assumes nothing.
use mathlib.Core.Path.{◌≡◌}
use lib.IntN.{pos}
use Rattle.cursors.specs.Cursor.{cursor_at}
use Rattle.kinds.specs.Stands.{row_in}
use Rattle.fill_shared.specs.Placed.{over}
use Rattle.match_shared.specs.Seen.{Compares}
use Rattle.match_unary.specs.Numbered.{kind_of, Counts}
use Rattle.match_unary.proofs.match_unary.Given as goal

abbrev pub invariant-loop-t : goal.invariant-loop-t
invariant-loop-t l =
    Counts l.by (row_in l.pool l.a) (pos l.t) l.k × ((l.cursor ≡ cursor_at (row_in l.pool l.a) (pos l.t)) × Compares (over (kind_of l.by) l.pool l.a l.a) (row_in l.pool l.r) l.t l.seen)
