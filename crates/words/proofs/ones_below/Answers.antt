-- `words::ones_below` meets its contract.
-- Assumes nothing.
use mathlib.Core.Path.{◌≡◌, ◌∙◌, ap}
use native.Mathlib.Omega.{arith}
use lib.Count.{ones}
use Rattle.words.specs.Bits.{bit, tally}
use Rattle.words.proofs.Tally.{tally-le}
use Rattle.words.proofs.Ones.{bit_le, ones_low}
use Rattle.words.proofs.ones_below.Goals as goal
use Rattle.words.proofs.ones_below.Goals.{After-low_bits-low}

counted : (c : After-low_bits-low) → ones c.low_bits-low.result ≡ tally (bit c.before.args.w) c.before.args.k
counted c = ap ones c.low_bits-low.ensures ∙ ones_low c.before.args.w c.before.args.k

pub overflow_cast-result : goal.overflow_cast-result
overflow_cast-result c = record { fits = omega (arith, counted c, tally-le (bit c.before.args.w) c.before.args.k (bit_le c.before.args.w)) }

pub returns : goal.returns
returns c = counted c
