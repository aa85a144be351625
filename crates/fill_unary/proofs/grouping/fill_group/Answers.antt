-- `fill_unary::grouping::fill_group` meets its contract: both ways do.
-- Assumes nothing.
use Rattle.integers.proofs.Machine.{plain}
use Rattle.fill_unary.proofs.grouping.fill_group.Goals as goal

pub returns-then-x-ge-LONG_GROUP : goal.returns-then-x-ge-LONG_GROUP
returns-then-x-ge-LONG_GROUP c =
    let x = c.ranges.x in
    simp plain at c.fill_along.ensures

pub returns-else-a-eq1 : goal.returns-else-a-eq1
returns-else-a-eq1 c =
    let x = c.ranges.x in
    simp plain at c.fill_turns.ensures
