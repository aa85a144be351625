-- `open_api::count` meets its contract: what `open_map::count` answers, or its refusal.
-- Assumes nothing.
use borrow.Author.Rules.{rules, sfits_of}
use mathlib.Core.Path.{◌≡◌, sym, ◌∙◌, ap}
use mir.Facts.{to_z-of_z}
use mir.Syntax.{w64}
use Rattle.integers.proofs.Machine.{plain}
use Rattle.codes.specs.Codes.{count_code}
use Rattle.open_map.specs.Maps.{map_given}
use Rattle.open_map.specs.Inquiries.{count_reply}
use Rattle.open_map.specs.Answers.{number_reply}
use Rattle.open_api.proofs.count.Goals as goal
use Rattle.open_api.proofs.count.Goals.{After-count-counted, Start}

replied : (c : After-count-counted) → let s = (goal.at.After-count-counted c).Start in
    number_reply c.count-counted.result ≡ count_reply (map_given s.args.period s.args.words.now) s.args.s s.args.t
replied c =
    let s = (goal.at.After-count-counted c).Start in
    let p = s.ranges.period in
    let f = s.ranges.s in
    let g = s.ranges.t in
    simp plain at c.count-counted.ensures

pub returns-in-Ok : goal.returns-in-Ok
returns-in-Ok c =
    let e = sym (ap number_reply c.in-Ok.is) ∙ replied (goal.at.returns-in-Ok c).After-count-counted in
    to_z-of_z {w = w64} (search rules) ∙ ap count_code e

pub returns-in-Err : goal.returns-in-Err
returns-in-Err c =
    let e = sym (ap number_reply c.in-Err.is) ∙ replied (goal.at.returns-in-Err c).After-count-counted in
    to_z-of_z {w = w64} (sfits_of c.refusal_code.type_inv) ∙ c.refusal_code.ensures ∙ ap count_code e
