-- `bitmaps::ones_before` meets its contract.
-- Assumes nothing.
use native.Mathlib.Omega.{arith}
use Rattle.words.specs.Bits.{cell}
use Rattle.words.proofs.Tally.{tally-zero}
use Rattle.bitmaps.proofs.ones_before.Goals as goal

pub returns : goal.returns
returns c = omega (arith, c.ones_between.ensures, tally-zero (cell c.args.words.now))
