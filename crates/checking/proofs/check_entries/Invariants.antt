-- `checking::check_entries` meets its contract. The loop's invariant: the entries before k are right, and the others decide the verdict.
-- Assumes nothing.
use Prim.Native.Nat.{◌-◌}
use Rattle.checking.proofs.Table.{Checked}
use Rattle.checking.proofs.check_entries.Given as goal

abbrev pub invariant-loop-k : goal.invariant-loop-k
invariant-loop-k l = Checked l.table l.n l.headings l.pool l.used l.k

abbrev pub decreases-loop-k : goal.decreases-loop-k
decreases-loop-k l = l.n - l.k
