-- `words::highest` meets its contract.
-- Assumes nothing.
use mathlib.Core.Path.{refl}
use native.Mathlib.Omega.{arith}
use lib.Count.{leading_le}
use Rattle.words.proofs.Zeros.{leading, leading_lt}
use Rattle.words.proofs.highest.Goals as goal

pub overflow_cast-result : goal.overflow_cast-result
overflow_cast-result c = record { fits = omega (arith, leading_le 64 c.args.w) }

pub overflow_sub-result : goal.overflow_sub-result
overflow_sub-result c = leading_lt c.args.w c.requires c.ranges.w.fits

pub returns : goal.returns
returns c = leading c.args.w _ c.requires c.ranges.w.fits refl
