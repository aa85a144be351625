-- `checking::entry::weigh` meets its contract: the claimed row is compared, or the first operand where that row cannot be right.
-- Assumes nothing.
use Rattle.calendar.specs.declared.Refusal.{Refusal}
use Rattle.std.specs.Prelude.{Result, Bool}
use mathlib.Core.Path.{sym, ◌∙◌, ap}
use native.Mathlib.Omega.{arith}
use Rattle.kinds.specs.Stands.{row_in}
use Rattle.fill_shared.specs.Placed.{over}
use Rattle.checking.specs.Weighing.{judged_as}
use Rattle.checking.proofs.Weighed.{weighed-row, weighed-other, weighed-bottom}
use Rattle.checking.proofs.entry.weigh.Goals as goal

-- a row that may be right
pub returns-then-is_some : goal.returns-then-is_some
returns-then-is_some c =
    let a = c.args in
    c.judge.ensures
    ∙ ap (λ (x : Result Bool Refusal). judged_as x a.claim) c.compare-with_row.ensures
    ∙ weighed-row (over a.kind a.pool.now a.a a.b) (row_in a.pool.now a.r) a.claim

-- a row that cannot be right
pub returns-then-operands-lt1 : goal.returns-then-operands-lt1
returns-then-operands-lt1 c =
    let a = c.args in
    weighed-bottom a.kind (row_in a.pool.now a.a) (row_in a.pool.now a.b) (row_in a.pool.now a.r) a.claim
    (omega (arith, c.operands.ensures, c.if-operands-lt1.true)) (sym c.if-is_some.ensures)

pub returns : goal.returns
returns c =
    let a = c.args in
    c.judge-2.ensures
    ∙ ap (λ (x : Result Bool Refusal). judged_as x a.claim) c.compare-without.ensures
    ∙ weighed-other (over a.kind a.pool.now a.a a.b) (row_in a.pool.now a.r) (row_in a.pool.now a.a) a.claim (sym c.if-is_some.ensures)
