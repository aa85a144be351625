-- `civil_api::instant` meets its contract: what `dates::instant_of` answers, or its refusal and 0.
-- Assumes nothing.
use borrow.Author.Rules.{rules, sfits_of}
use mathlib.Core.Path.{◌≡◌, sym, ◌∙◌, ap}
use mir.Facts.{to_z-of_z}
use mir.Syntax.{w64}
use Rattle.integers.proofs.Machine.{plain}
use Rattle.civil.specs.Instants.{instant_reply}
use Rattle.dates.specs.Answers.{found_reply}
use Rattle.civil_api.specs.Codes.{instant_code, instant_left}
use Rattle.civil_api.proofs.instant.Goals as goal
use Rattle.civil_api.proofs.instant.Goals.{After-instant_of-found, Start}

replied : (c : After-instant_of-found) → found_reply c.instant_of-found.result
    ≡ instant_reply c.args.year c.args.month c.args.day
replied c =
    let s = (goal.at.After-instant_of-found c).Start in
    let y = s.ranges.year in
    let m = s.ranges.month in
    let d = s.ranges.day in
    simp plain at c.instant_of-found.ensures

pub returns-in-Ok : goal.returns-in-Ok
returns-in-Ok c =
    let e = sym (ap found_reply c.in-Ok.is) ∙ replied (goal.at.returns-in-Ok c).After-instant_of-found in
    record { code = ap instant_code e; instant = to_z-of_z {w = w64} (search rules) ∙ ap instant_left e }

pub returns-in-Err : goal.returns-in-Err
returns-in-Err c =
    let e = sym (ap found_reply c.in-Err.is) ∙ replied (goal.at.returns-in-Err c).After-instant_of-found in
    record { code = to_z-of_z {w = w64} (sfits_of c.refusal_code.type_inv) ∙ c.refusal_code.ensures ∙ ap instant_code e; instant = ap instant_left e }
