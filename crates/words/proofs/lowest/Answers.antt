-- `words::lowest` meets its contract.
-- Assumes nothing.
use native.Mathlib.Omega.{arith}
use lib.Count.{trailing_le}
use Rattle.words.proofs.Zeros.{trailing}
use Rattle.words.proofs.lowest.Goals as goal

pub overflow_cast-result : goal.overflow_cast-result
overflow_cast-result c = record { fits = omega (arith, trailing_le 64 c.args.w) }

pub returns : goal.returns
returns c = trailing 64 c.args.w c.requires c.ranges.w.fits
