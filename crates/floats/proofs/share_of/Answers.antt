-- `floats::share_of` meets its contract.
use native.Mathlib.Omega.{arith}
use lib.Ieee.{of_bits}
use Rattle.floats.proofs.Whole.{cast_fits}
use Rattle.floats.proofs.Parts.{share-value}
use Rattle.floats.proofs.share_of.Goals as goal

pub int_to_float-result : goal.int_to_float-result
int_to_float-result c = cast_fits _ (omega arith)

pub returns : goal.returns
unfolding of_bits
returns c = share-value _ c.requires
