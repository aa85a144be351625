-- `steps::take_due` meets its contract: where the test fails it is 13, and else the entry is taken.
-- Assumes nothing.
use mathlib.Core.Path.{sym}
use Rattle.steps.proofs.Taking.{test-fails, test-passes}
use Rattle.steps.proofs.take_due.Goals as goal

pub returns-in_default : goal.returns-in_default
returns-in_default c =
    let a = c.args in
    rw c.number.ensures (test-fails a.lengths a.k a.table.now a.headings.now a.pool.now (sym c.in_default.ensures.test) _ _ c.clear.ensures)

pub returns : goal.returns
returns c =
    let a = c.args in
    test-passes a.lengths a.k a.table.now a.headings.now a.pool.now (sym c.in-Some.ensures.test) _ _ _ c.take_entry.ensures
