-- `match_shared::still_same` meets its contract: once it is false it stays so.
-- Assumes nothing.
use Rattle.match_shared.proofs.still_same.Goals as goal

pub returns-then-same : goal.returns-then-same
returns-then-same c = rw c.if-same.true c.same_label.ensures
