-- `match_unary::numbered` meets its contract: a number where there is a label.
-- Assumes nothing.
use Rattle.std.specs.Prelude.{Option, ℤ}
use mathlib.Core.Path.{sym, ◌∙◌, ap}
use mathlib.Core.Option.{some, map}
use mir.Facts.{to_z-of_z}
use Rattle.cursors.specs.Found.{found}
use Rattle.match_unary.proofs.numbered.Goals as goal
use Rattle.match_unary.proofs.numbered.Goals.{Start}

pub returns-in-Some : goal.returns-in-Some
returns-in-Some c =
    let s = (goal.at.returns-in-Some c).Start in
    ap some (to_z-of_z s.ranges.number) ∙ sym (ap (λ (l : Option ℤ). map (λ j. s.args.number) (found l)) c.in-Some.is)
