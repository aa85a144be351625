-- `open_steps::downward::nth_cell` meets its contract: there are enough set cells.
-- Assumes nothing.
use mathlib.Core.Path.{subst}
use native.Mathlib.Omega.{arith}
use Rattle.open_steps.specs.Ranked.{NthBelow}
use Rattle.open_steps.proofs.downward.nth_cell.Goals as goal
use Rattle.open_steps.proofs.downward.nth_cell.Goals.{After-nth_below-found, Start}

pub returns-in-Ok : goal.returns-in-Ok
returns-in-Ok c =
    let f = (goal.at.returns-in-Ok c).After-nth_below-found in
    let s = (goal.at.After-nth_below-found f).Start in
    subst (NthBelow s.args.words.now s.args.c s.args.k) c.in-Ok.is f.nth_below-found.ensures

pub returns-in-Err : goal.returns-in-Err
returns-in-Err c =
    let f = (goal.at.returns-in-Err c).After-nth_below-found in
    let s = (goal.at.After-nth_below-found f).Start in
    let n = subst (NthBelow s.args.words.now s.args.c s.args.k) c.in-Err.is f.nth_below-found.ensures in
    absurd (omega (arith, n, s.requires.1))
