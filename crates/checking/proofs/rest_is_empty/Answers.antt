-- `checking::rest_is_empty` meets its contract.
-- Assumes nothing.
use mathlib.Core.Path.{sym, ◌∙◌, ap}
use mathlib.Core.Bool.{Bool, ◌&&◌}
use borrow.Author.Tests.{not-false}
use lib.ListN.{drop}
use Rattle.granules.proofs.Tests.{not_iff}
use Rattle.standing.specs.Tests.{all_empty}
use Rattle.checking.proofs.rest_is_empty.Goals as goal
use Rattle.checking.proofs.rest_is_empty.Goals.{After-is_clear}

pub returns-then-not-is_clear : goal.returns-then-not-is_clear
returns-then-not-is_clear c =
    let k = (goal.at.returns-then-not-is_clear c).After-is_clear in
    let a = k.args in
    sym (ap (λ (b : Bool). b && all_empty (drop a.used a.pool.now)) (sym k.is_clear.ensures ∙ (not_iff _).0 c.if-not-is_clear.true-raw))

pub returns : goal.returns
returns c =
    let k = (goal.at.returns c).After-is_clear in
    let a = k.args in
    c.is_blank.ensures
    ∙ sym (ap (λ (b : Bool). b && all_empty (drop a.used a.pool.now)) (sym k.is_clear.ensures ∙ not-false _ c.if-not-is_clear.false-raw))
