-- `floats::is_positive_share` meets its contract.
use mathlib.Core.Path.{sym, ◌∙◌}
use lib.Ieee.{of_bits, ne}
use Rattle.floats.specs.Allowance.{share}
use Rattle.floats.proofs.Words.{positive-zero, and_then, and-else, positive-share-tests}
use Rattle.floats.proofs.is_positive_share.Goals as goal

pub returns-then-is_share : goal.returns-then-is_share
unfolding of_bits
returns-then-is_share c = let v = c.args.v in and_then (share v) (ne v positive-zero) (positive-share-tests v) (sym c.is_share.ensures ∙ c.if-is_share.true)

pub returns-else-is_share : goal.returns-else-is_share
returns-else-is_share c =
    let v = c.args.v in
    let e = c.is_share.ensures in
    e ∙ and-else (share v) (ne v positive-zero) (positive-share-tests v) (sym e ∙ c.if-is_share.false)
