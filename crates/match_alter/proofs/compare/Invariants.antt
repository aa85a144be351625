-- `match_alter::compare` meets its contract: each turn of the loop finds the altered granule of the next label, and compares the stretch that has it.
-- Assumes nothing.
use Prim.Native.Nat.{◌-◌}
use Rattle.kinds.specs.Stands.{row_in}
use Rattle.match_alter.proofs.Scanned.{Scanned}
use Rattle.match_alter.proofs.compare.Given as goal

abbrev pub invariant-loop-seen : goal.invariant-loop-seen
invariant-loop-seen l = Scanned l.by l.repeat (row_in l.pool l.a) (row_in l.pool l.b) (row_in l.pool l.r) l.period l.scan l.seen

abbrev pub decreases-loop-seen : goal.decreases-loop-seen
decreases-loop-seen l = l.period - l.seen.t
