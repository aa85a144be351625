-- `match_stretches::at_most` meets its contract.
-- Assumes nothing.
use borrow.Author.Rules.{rules}
use mathlib.Core.Path.{sym, ap}
use lib.Signed.{le_z}
use mir.Syntax.{w64}
use mir.Val.{SFits}
use Rattle.integers.proofs.Machine.{plain}
use Rattle.calendar.specs.Lists.{if_label}
use Rattle.cursors.specs.Found.{found}
use Rattle.match_stretches.proofs.at_most.Goals as goal
use Rattle.match_stretches.proofs.at_most.Goals.{Start}

pub returns-in-Some : goal.returns-in-Some
returns-in-Some c =
    let s = (goal.at.returns-in-Some c).Start in
    let w : SFits w64 c.in-Some.j = search rules in
    let h = s.ranges.high in
    simp plain (ap (λ x. if_label (found x) (λ j. le_z j s.args.high)) (sym c.in-Some.is))
