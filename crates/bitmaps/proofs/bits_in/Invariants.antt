-- `bitmaps::bits_in` meets its contract. The loop's invariant: where no bit is found, the words from i up to m are zero.
-- Assumes nothing.
use Rattle.bitmaps.specs.Zeros.{BitsIn}
use Rattle.bitmaps.proofs.bits_in.Given as goal

abbrev pub invariant-loop-m : goal.invariant-loop-m
invariant-loop-m l = BitsIn l.words l.i l.m l.bits
