-- `conversion::convert_entries` meets its contract. The loop's invariant: the entries before k stand in the lists, and the rest decides the outcome.
-- Assumes nothing.
use Prim.Native.Nat.{◌-◌}
use lib.ListN.{length}
use Rattle.conversion.proofs.Outcomes.{Standing}
use Rattle.conversion.proofs.convert_entries.Given as goal

abbrev pub invariant-loop-k : goal.invariant-loop-k
invariant-loop-k l = Standing l.table l.n (length l.initial.headings) (length l.initial.pool) l.k l.headings l.pool l.used

abbrev pub decreases-loop-k : goal.decreases-loop-k
decreases-loop-k l = l.n - l.k
