-- `journal_store::window::search` meets its contract. The next window ends before this one does, so the search ends.
-- Assumes nothing.
use Prim.Native.Nat.{◌<◌, ◌^◌}
use Rattle.journal_store.proofs.window.search.Given as goal

abbrev pub invariant-loop-start : goal.invariant-loop-start
invariant-loop-start g l = l.end < 2 ^ 63

abbrev pub decreases-loop-start : goal.decreases-loop-start
decreases-loop-start g l = l.end
