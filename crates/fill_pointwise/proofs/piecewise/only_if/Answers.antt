-- `fill_pointwise::piecewise::only_if` meets its contract.
-- Assumes nothing.
use mathlib.Core.Path.{sym, ◌∙◌, ap}
use mathlib.Core.Bool.{Bool, cond}
use mir.Facts.{to_z-of_z}
use Rattle.calendar.specs.Meaning.{empty}
use Rattle.fill_pointwise.proofs.piecewise.only_if.Goals as goal
use Rattle.fill_pointwise.proofs.piecewise.only_if.Goals.{Start}

pub returns-then-keep : goal.returns-then-keep
returns-then-keep c = let s = (goal.at.returns-then-keep c).Start in to_z-of_z s.ranges.cell ∙ sym (ap (λ (b : Bool). cond b s.args.cell empty) c.if-keep.true)

pub returns-else-keep : goal.returns-else-keep
returns-else-keep c = let s = (goal.at.returns-else-keep c).Start in sym (ap (λ (b : Bool). cond b s.args.cell empty) c.if-keep.false)
