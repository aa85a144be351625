-- `fill_stretches::in_limits` meets its contract.
-- Assumes nothing.
use borrow.Author.Rules.{rules}
use mathlib.Core.Path.{sym, ◌∙◌, ap}
use mir.Syntax.{w64}
use mir.Val.{SFits}
use Rattle.integers.proofs.Machine.{plain}
use Rattle.calendar.specs.Lists.{if_label}
use Rattle.calendar.specs.Limits.{in_range}
use Rattle.cursors.specs.Found.{found}
use Rattle.fill_stretches.proofs.in_limits.Goals as goal
use Rattle.fill_stretches.proofs.in_limits.Goals.{In-Some}

pub returns-in-Some : goal.returns-in-Some
returns-in-Some c =
    let k = (goal.at.returns-in-Some c).In-Some in
    let w : SFits w64 k.in-Some.j = search rules in
    let e = simp plain at c.in_range.ensures in
    e ∙ ap (λ x. if_label (found x) in_range) (sym k.in-Some.is)
