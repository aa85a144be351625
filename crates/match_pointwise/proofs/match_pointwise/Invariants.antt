-- `match_pointwise::match_pointwise` meets its contract: each turn of the loop compares the label of one instant.
-- Assumes nothing.
use lib.IntN.{pos}
use Rattle.kinds.specs.Stands.{row_in}
use Rattle.fill_shared.specs.Placed.{over}
use Rattle.fill_pointwise.specs.Decided.{kind_of}
use Rattle.fill_pointwise.specs.Scanning.{Scans}
use Rattle.match_shared.specs.Seen.{Compares}
use Rattle.match_pointwise.proofs.match_pointwise.Given as goal

abbrev pub invariant-loop-t : goal.invariant-loop-t
invariant-loop-t l =
    Scans (row_in l.pool l.a) (row_in l.pool l.b) (pos l.t) l.s × Compares (over (kind_of l.by) l.pool l.a l.b) (row_in l.pool l.r) l.t l.seen
