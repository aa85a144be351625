-- `steps::start` meets its contract: the lengths are read, checks 1 to 3 made, and both lists cleared.
-- Assumes nothing.
use mathlib.Core.Path.{refl, sym, ◌∙◌, ap}
use Rattle.entries.specs.Entries.{begun_reply}
use Rattle.steps.proofs.Taking.{start-refused, start-begun}
use Rattle.steps.proofs.start.Goals as goal
use Rattle.steps.proofs.start.Goals.{After-begin-begun, After-clear}

pub returns-in-Err : goal.returns-in-Err
returns-in-Err c =
    let l = (goal.at.returns-in-Err c).After-clear in
    let b = (goal.at.After-clear l).After-begin-begun in
    let a = b.args in
    rw c.number.ensures
    (start-refused a.table.now a.headings.now a.pool.now _ refl _ _ l.clear.ensures _
    (sym b.begin-begun.ensures ∙ ap begun_reply c.in-Err.is))

pub returns-in-Ok : goal.returns-in-Ok
returns-in-Ok c =
    let l = (goal.at.returns-in-Ok c).After-clear in
    let b = (goal.at.After-clear l).After-begin-begun in
    let a = b.args in
    start-begun a.table.now a.headings.now a.pool.now _ refl _ _ l.clear.ensures _
    (sym b.begin-begun.ensures ∙ ap begun_reply c.in-Ok.is)
