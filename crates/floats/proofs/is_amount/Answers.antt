-- `floats::is_amount` meets its contract.
use mathlib.Core.Bool.{false}
use lib.Ieee.{inf, of_bits, div, lt, le}
use Rattle.floats.proofs.Words.{positive-zero, and_then, and-else, amount-tests}
use Rattle.floats.proofs.is_amount.Goals as goal

pub returns-then-v : goal.returns-then-v
unfolding of_bits div
returns-then-v c = let v = c.args.v in and_then (le positive-zero v) (lt v (inf false)) (amount-tests v) c.if-v.true

pub returns-else-v : goal.returns-else-v
unfolding of_bits
returns-else-v c = let v = c.args.v in and-else (le positive-zero v) (lt v (inf false)) (amount-tests v) c.if-v.false
