-- `open_api::steps::nth` meets its contract, arm by arm: what `open_steps::nth` answers.
-- Assumes nothing.
use Rattle.std.specs.Prelude.{Ok}
use borrow.Author.Rules.{rules, sfits_of}
use mathlib.Core.Path.{◌≡◌, sym, ◌∙◌, ap}
use mir.Facts.{to_z-of_z}
use mir.Syntax.{w64}
use Rattle.integers.proofs.Machine.{plain}
use Rattle.open_map.specs.Maps.{map_given}
use Rattle.open_steps.specs.Inquiries.{nth_reply}
use Rattle.open_steps.specs.Answers.{step_reply}
use Rattle.open_api.specs.StepCodes.{step_code, step_left}
use Rattle.open_api.proofs.steps.nth.Goals as goal
use Rattle.open_api.proofs.steps.nth.Goals.{After-nth-step, Start}

replied : (c : After-nth-step) → let s = (goal.at.After-nth-step c).Start in
    step_reply c.nth-step.result ≡ nth_reply (map_given s.args.period s.args.words.now) s.args.x s.args.n
replied c =
    let s = (goal.at.After-nth-step c).Start in
    let p = s.ranges.period in
    let f = s.ranges.x in
    let g = s.ranges.n in
    simp plain at c.nth-step.ensures

pub returns-in-Ok-Some : goal.returns-in-Ok-Some
returns-in-Ok-Some c =
    let e = sym (ap step_reply (c.in-Ok-Some.is ∙ ap Ok (rw c.in-Ok-Some.is at c.in-Ok-Some.field-0-is))) ∙ replied (goal.at.returns-in-Ok-Some c).After-nth-step in
    record { code = ap step_code e; found = to_z-of_z {w = w64} (search rules) ∙ ap step_left e }

pub returns-in-Ok-None : goal.returns-in-Ok-None
returns-in-Ok-None c =
    let e = sym (ap step_reply (c.in-Ok-None.is ∙ ap Ok (rw c.in-Ok-None.is at c.in-Ok-None.field-0-is))) ∙ replied (goal.at.returns-in-Ok-None c).After-nth-step in
    record { code = ap step_code e; found = ap step_left e }

pub returns-in-Err : goal.returns-in-Err
returns-in-Err c =
    let e = sym (ap step_reply c.in-Err.is) ∙ replied (goal.at.returns-in-Err c).After-nth-step in
    record { code = to_z-of_z {w = w64} (sfits_of c.refusal_code.type_inv) ∙ c.refusal_code.ensures ∙ ap step_code e; found = ap step_left e }
