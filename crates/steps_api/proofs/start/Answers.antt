-- `steps_api::start` meets its contract: the lengths are kept in the state, and then how far the walk is.
-- Assumes nothing.
use mathlib.Core.Path.{◌≡◌, ◌∙◌, ap}
use borrow.Author.Tests.{ne_eqb}
use Rattle.steps_api.specs.Told.{started_in}
use Rattle.steps_api.proofs.Telling.{told-nothing, told-start}
use borrow.Author.Rules.{sfits_of}
use native.Mathlib.Omega.{arith}
use lib.IntN.{pos}
use lib.ListN.{length}
use mir.Facts.{to_z-of_z}
use mir.Syntax.{w64}
use mir.Val.{to_z}
use Rattle.steps.specs.State.{progress_of}
use Rattle.steps_api.specs.Codes.{progressed}
use Rattle.steps_api.proofs.Numbers.{back}
use Rattle.steps_api.proofs.start.Goals as goal
use Rattle.steps_api.proofs.start.Goals.{After-start-walk, After-write_lengths, After-write_progress, Else-state-ne-STATE_LENGTH}

pub returns-then-state-ne-STATE_LENGTH : goal.returns-then-state-ne-STATE_LENGTH
returns-then-state-ne-STATE_LENGTH c =
    let a = c.args in
    told-nothing a.headings.now a.pool.now a.state.now (started_in a.state.now a.table.now a.headings.now a.pool.now)
    (simp (ne_eqb _ _ c.if-state-ne-STATE_LENGTH.true))

pub returns : goal.returns
returns c =
    let w = (goal.at.returns c).After-write_progress in
    let l = (goal.at.After-write_progress w).After-start-walk in
    let m = (goal.at.After-start-walk l).After-write_lengths in
    let e = (goal.at.After-write_lengths m).Else-state-ne-STATE_LENGTH in
    let a = e.args in
    let g = e.well_formed in
    let t : to_z w64 (length a.table.now) ≡ pos (length a.table.now) = back _ (omega (arith, g.0.1)) in
    let h : to_z w64 (length a.headings.now) ≡ pos (length a.headings.now) = back _ (omega (arith, g.1.0.1)) in
    let p : to_z w64 (length a.pool.now) ≡ pos (length a.pool.now) = back _ (omega (arith, g.1.1.0.1)) in
    told-start a.headings.now a.pool.now a.state.now a.table.now l.start-walk.result _ _ _ _ (to_z-of_z {w = w64} (sfits_of c.code.type_inv) ∙ c.code.ensures)
    e.if-state-ne-STATE_LENGTH.false l.start-walk.ensures
    (w.write_progress.ensures ∙ ap (progressed (progress_of l.start-walk.result.progress)) (rw (t, h, p) at m.write_lengths.ensures))
