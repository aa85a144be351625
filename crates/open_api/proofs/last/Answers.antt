-- `open_api::last` meets its contract: the code and the instant of what `open_map::last` answers.
-- Assumes nothing.
use borrow.Author.Rules.{sfits_of}
use mathlib.Core.Path.{◌≡◌, ◌∙◌, ap}
use mir.Facts.{to_z-of_z}
use mir.Syntax.{w64}
use Rattle.integers.proofs.Machine.{plain}
use Rattle.codes.specs.Codes.{value_code, value_left}
use Rattle.open_map.specs.Maps.{map_given}
use Rattle.open_map.specs.Inquiries.{last_reply}
use Rattle.open_map.specs.Answers.{instant_reply}
use Rattle.open_api.proofs.last.Goals as goal
use Rattle.open_api.proofs.last.Goals.{After-last-instant, Start}

replied : (c : After-last-instant) → let s = (goal.at.After-last-instant c).Start in
    instant_reply c.last-instant.result ≡ last_reply (map_given s.args.period s.args.words.now) s.args.x
replied c =
    let s = (goal.at.After-last-instant c).Start in
    let p = s.ranges.period in
    let f = s.ranges.x in
    simp plain at c.last-instant.ensures

pub returns : goal.returns
returns c =
    let e = replied (goal.at.returns c).After-last-instant in
    record { code = to_z-of_z {w = w64} (sfits_of c.told.type_inv) ∙ c.told.ensures.code ∙ ap value_code e; found = c.told.ensures.found ∙ ap value_left e }
