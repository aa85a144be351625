-- `bitmaps::any_set` meets its contract. The loop's invariant: the words before j are zero.
-- Assumes nothing.
use Rattle.words.specs.Places.{Clear}
use Prim.Native.Nat.{◌-◌, ◌≤◌}
use lib.ListN.{length, get_or}
use Rattle.bitmaps.proofs.any_set.Given as goal

abbrev pub invariant-loop-j : goal.invariant-loop-j
invariant-loop-j l = (l.j ≤ length l.words) × Clear (λ m. get_or l.words m 0) 0 l.j

abbrev pub decreases-loop-j : goal.decreases-loop-j
decreases-loop-j l = length l.words - l.j
