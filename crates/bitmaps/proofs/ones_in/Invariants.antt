-- `bitmaps::ones_in` meets its contract. The loop's invariant: the set cells of the words from i up to m are counted.
-- Assumes nothing.
use Prim.Native.Nat.{◌+◌, ◌*◌}
use mathlib.Core.Path.{◌≡◌}
use Rattle.words.specs.Bits.{cell, tally}
use Rattle.bitmaps.proofs.ones_in.Given as goal

abbrev pub invariant-loop-m : goal.invariant-loop-m
invariant-loop-m l = tally (cell l.words) (64 * l.i) + l.count ≡ tally (cell l.words) (64 * l.m)
