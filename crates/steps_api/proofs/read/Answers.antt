-- `steps_api::read` meets its contract: five numbers of the state, each not below 0.
-- Assumes nothing.
use mathlib.Core.Path.{◌≡◌, sym, ◌∙◌, ap, ap₂}
use lib.IntN.{pos}
use lib.ListN.{get_or}
use mir.Facts.{to_z-of_z}
use mir.Syntax.{w64}
use Rattle.integers.specs.Parts.{up}
use Rattle.steps_api.specs.Held.{staged_as, progress_in}
use Rattle.steps_api.proofs.Telling.{other_length, held_none, held-walk}
use borrow.Author.Rules.{sfits_of}
use Rattle.steps_api.proofs.read.Goals as goal
use Rattle.steps_api.proofs.read.Goals.{After-natural, After-natural-2, After-natural-3, After-natural-4, After-natural-5, After-progress_in, Else-state-ne-STATE_LENGTH, Start}

pub returns-then-state-ne-STATE_LENGTH : goal.returns-then-state-ne-STATE_LENGTH
returns-then-state-ne-STATE_LENGTH c = other_length c.args.state.now c.if-state-ne-STATE_LENGTH.true

abbrev start : After-natural-5 → Start
start c = (goal.at.After-natural-5 c).Start

abbrev eight : After-natural-5 → Else-state-ne-STATE_LENGTH
eight c = (goal.at.After-natural-5 c).Else-state-ne-STATE_LENGTH

staged : (c : After-progress_in) → let s = (start (goal.at.After-progress_in c).After-natural-5).args.state.now in
    staged_as c.progress_in.result ≡ progress_in (up (get_or s 0 (pos 0))) (up (get_or s 1 (pos 0)))
staged c =
    let f = (goal.at.After-progress_in c).After-natural-5 in
    let d = (goal.at.After-natural-5 f).After-natural-4 in
    let s = (start f).args.state.now in
    let a : d.natural-4.result ≡ up (get_or s 0 (pos 0)) = d.natural-4.ensures ∙ ap up {y = get_or s 0 (pos 0)} (to_z-of_z {w = w64} (sfits_of d.natural-arg-4-1.given)) in
    let b : f.natural-5.result ≡ up (get_or s 1 (pos 0)) = f.natural-5.ensures ∙ ap up {y = get_or s 1 (pos 0)} (to_z-of_z {w = w64} (sfits_of f.natural-arg-5-1.given)) in
    c.progress_in.ensures ∙ ap₂ progress_in a b

pub returns : goal.returns
returns c =
    let p = (goal.at.returns c).After-progress_in in
    let n3 = (goal.at.After-progress_in p).After-natural-3 in
    let n2 = (goal.at.After-natural-3 n3).After-natural-2 in
    let n1 = (goal.at.After-natural-2 n2).After-natural in
    let s = (start (goal.at.After-progress_in p).After-natural-5).args.state.now in
    held-walk s (eight (goal.at.After-progress_in p).After-natural-5).if-state-ne-STATE_LENGTH.false _ c.in_ok-progress.progress
    (n1.natural.ensures ∙ ap up {y = get_or s 2 (pos 0)} (to_z-of_z {w = w64} (sfits_of n1.natural-arg-1.given)))
    (n2.natural-2.ensures ∙ ap up {y = get_or s 3 (pos 0)} (to_z-of_z {w = w64} (sfits_of n2.natural-arg-2-1.given)))
    (n3.natural-3.ensures ∙ ap up {y = get_or s 4 (pos 0)} (to_z-of_z {w = w64} (sfits_of n3.natural-arg-3-1.given)))
    (sym (ap staged_as c.in_ok-progress.was) ∙ staged p)

pub returns-in_err-progress : goal.returns-in_err-progress
returns-in_err-progress c =
    let p = (goal.at.returns-in_err-progress c).After-progress_in in
    rw c.from_residual.ensures
    (held_none (start (goal.at.After-progress_in p).After-natural-5).args.state.now (eight (goal.at.After-progress_in p).After-natural-5).if-state-ne-STATE_LENGTH.false (sym (ap staged_as c.in_err-progress.was) ∙ staged p))
