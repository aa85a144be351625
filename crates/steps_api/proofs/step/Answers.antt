-- `steps_api::step` meets its contract: a call in the walk that the state holds.
-- Assumes nothing.
use mathlib.Core.Path.{sym, ◌∙◌, ap}
use mathlib.Core.Option.{Option}
use Rattle.walks.specs.Walk as W
use Rattle.steps_api.specs.Held.{held_as}
use Rattle.steps_api.specs.Told.{called_in}
use Rattle.steps_api.proofs.Telling.{walk-eight, told-nothing, told-step}
use borrow.Author.Rules.{sfits_of}
use mir.Facts.{to_z-of_z}
use mir.Syntax.{w64}
use Rattle.steps_api.proofs.step.Goals as goal
use Rattle.steps_api.proofs.step.Goals.{After-read-held, After-step-next, After-write_progress, In-Some}

pub write_progress-requires : goal.write_progress-requires
write_progress-requires c =
    let k = (goal.at.write_progress-requires c).In-Some in
    let r = (goal.at.In-Some k).After-read-held in
    walk-eight r.args.state.now _ (sym r.read-held.ensures ∙ ap held_as k.in-Some.is)

pub returns-in-Some : goal.returns-in-Some
returns-in-Some c =
    let w = (goal.at.returns-in-Some c).After-write_progress in
    let d = (goal.at.After-write_progress w).After-step-next in
    let k = (goal.at.After-step-next d).In-Some in
    let r = (goal.at.In-Some k).After-read-held in
    let a = r.args in
    told-step a.headings.now a.pool.now a.state.now a.table.now d.step-next.result _ _ _ _ (to_z-of_z {w = w64} (sfits_of c.code.type_inv) ∙ c.code.ensures)
    k.in-Some.walk (sym (ap held_as k.in-Some.is) ∙ r.read-held.ensures) d.step-next.ensures w.write_progress.ensures

pub returns-in-None : goal.returns-in-None
returns-in-None c =
    let r = (goal.at.returns-in-None c).After-read-held in
    let a = r.args in
    told-nothing a.headings.now a.pool.now a.state.now _
    (ap (λ (x : Option W.Walk). called_in x a.state.now a.table.now a.headings.now a.pool.now) (sym (ap held_as c.in-None.is) ∙ r.read-held.ensures))
