-- `bitmaps::nonzero_below` meets its contract. The loop's invariant: the words from m up to i are zero.
-- Assumes nothing.
use Rattle.words.specs.Places.{Clear}
use lib.ListN.{get_or}
use Rattle.bitmaps.proofs.nonzero_below.Given as goal

abbrev pub invariant-loop-m : goal.invariant-loop-m
invariant-loop-m l = Clear (λ m. get_or l.words m 0) l.m l.i
