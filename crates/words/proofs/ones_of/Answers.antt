-- `words::ones_of` meets its contract.
-- Assumes nothing.
use native.Mathlib.Omega.{arith}
use lib.Count.{ones-le}
use Rattle.words.proofs.Ones.{ones-whole}
use Rattle.words.proofs.ones_of.Goals as goal

pub overflow_cast-result : goal.overflow_cast-result
overflow_cast-result c = record { fits = omega (arith, ones-le 64 c.args.w c.ranges.w.fits) }

pub returns : goal.returns
returns c = ones-whole c.args.w c.ranges.w.fits
