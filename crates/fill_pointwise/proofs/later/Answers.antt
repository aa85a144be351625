-- `fill_pointwise::later` meets its contract.
-- Assumes nothing.
use Rattle.std.specs.Prelude.{Option, ℤ}
use borrow.Author.Rules.{rules}
use mathlib.Core.Path.{sym, ◌∙◌, ap}
use mir.Facts.{to_z-of_z}
use mir.Syntax.{w64}
use Rattle.cursors.specs.Found.{found}
use Rattle.fill_pointwise.specs.Decided.{later_label}
use Rattle.fill_pointwise.proofs.later.Goals as goal
use Rattle.fill_pointwise.proofs.later.Goals.{Start}

pub returns-in-Some : goal.returns-in-Some
returns-in-Some c =
    let s = (goal.at.returns-in-Some c).Start in
    to_z-of_z {w = w64} (search rules) ∙ sym (ap (λ (y : Option ℤ). later_label s.args.last (found y)) c.in-Some.is)

pub returns-in-None : goal.returns-in-None
returns-in-None c =
    let s = (goal.at.returns-in-None c).Start in
    to_z-of_z s.ranges.last ∙ sym (ap (λ (y : Option ℤ). later_label s.args.last (found y)) c.in-None.is)
