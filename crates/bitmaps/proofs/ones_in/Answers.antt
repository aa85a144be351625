-- `bitmaps::ones_in` meets its contract. The loop's invariant: the set cells of the words from i up to m are counted.
-- Assumes nothing.
use Prim.Native.Nat.{◌*◌}
use native.Mathlib.Omega.{arith}
use lib.ListN.{get_or}
use Rattle.words.specs.Bits.{bit, cell}
use Rattle.words.proofs.Tally.{tally-le}
use Rattle.words.proofs.Ones.{bit_le}
use Rattle.bitmaps.proofs.Words.{cell-le, tally-whole}
use Rattle.bitmaps.proofs.ones_in.Goals as goal

-- a word has at most 64, and the words before it 64 each
pub overflow_add-count : goal.overflow_add-count
overflow_add-count c =
    let l = c.args.words.now in
    let m = c.loop-m.m in
    let w = get_or l m 0 in
    omega (arith, c.ones_of-count.ensures, tally-le (bit w) 64 (bit_le w), tally-le (cell l) (64 * m) (cell-le l))

pub loop-m-preserved : goal.loop-m-preserved
loop-m-preserved c = omega (arith, tally-whole c.args.words.now c.loop-m.m)
