-- `open_api::steps::between` meets its contract: what `open_steps::between` answers, or its refusal and 0.
-- Assumes nothing.
use borrow.Author.Rules.{rules, sfits_of}
use mathlib.Core.Path.{◌≡◌, sym, ◌∙◌, ap}
use mir.Facts.{to_z-of_z}
use mir.Syntax.{w64}
use Rattle.integers.proofs.Machine.{plain}
use Rattle.codes.specs.Codes.{value_code, value_left}
use Rattle.open_map.specs.Maps.{map_given}
use Rattle.open_map.specs.Answers.{number_reply}
use Rattle.open_steps.specs.Inquiries.{between_reply}
use Rattle.open_api.proofs.steps.between.Goals as goal
use Rattle.open_api.proofs.steps.between.Goals.{After-between-counted, Start}

replied : (c : After-between-counted) → let s = (goal.at.After-between-counted c).Start in
    number_reply c.between-counted.result ≡ between_reply (map_given s.args.period s.args.words.now) s.args.x s.args.y
replied c =
    let s = (goal.at.After-between-counted c).Start in
    let p = s.ranges.period in
    let f = s.ranges.x in
    let g = s.ranges.y in
    simp plain at c.between-counted.ensures

pub returns-in-Ok : goal.returns-in-Ok
returns-in-Ok c =
    let e = sym (ap number_reply c.in-Ok.is) ∙ replied (goal.at.returns-in-Ok c).After-between-counted in
    record { code = ap value_code e; number = to_z-of_z {w = w64} (search rules) ∙ ap value_left e }

pub returns-in-Err : goal.returns-in-Err
returns-in-Err c =
    let e = sym (ap number_reply c.in-Err.is) ∙ replied (goal.at.returns-in-Err c).After-between-counted in
    record { code = to_z-of_z {w = w64} (sfits_of c.refusal_code.type_inv) ∙ c.refusal_code.ensures ∙ ap value_code e; number = ap value_left e }
