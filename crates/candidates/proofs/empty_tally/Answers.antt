-- `candidates::empty_tally` meets its contract: no position holds a member of the empty list.
-- Assumes nothing.
use Rattle.candidates.proofs.Tallying.{tally-none}
use Rattle.candidates.proofs.empty_tally.Goals as goal

pub returns : goal.returns
returns c = tally-none
