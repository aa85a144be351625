-- `bitmaps::nonzero_from` meets its contract. The loop's invariant: the words from i up to j are zero.
-- Assumes nothing.
use Rattle.words.specs.Places.{Clear}
use lib.ListN.{get_or}
use Rattle.bitmaps.proofs.nonzero_from.Given as goal

abbrev pub invariant-loop-j : goal.invariant-loop-j
invariant-loop-j l = Clear (λ m. get_or l.words m 0) l.i l.j
