-- `open_api::told` meets its contract, arm by arm.
-- Assumes nothing.
use borrow.Author.Rules.{rules, sfits_of}
use mathlib.Core.Path.{sym, ◌∙◌, ap}
use mir.Facts.{to_z-of_z}
use mir.Syntax.{w64}
use Rattle.codes.specs.Codes.{value_code, value_left}
use Rattle.open_map.specs.Answers.{instant_reply}
use Rattle.open_api.proofs.told.Goals as goal

pub returns-in-Ok : goal.returns-in-Ok
returns-in-Ok c =
    let e = sym (ap instant_reply c.in-Ok.is) in
    record { code = ap value_code e; found = to_z-of_z {w = w64} (search rules) ∙ ap value_left e }

pub returns-in-Err : goal.returns-in-Err
returns-in-Err c =
    let e = sym (ap instant_reply c.in-Err.is) in
    record { code = to_z-of_z {w = w64} (sfits_of c.refusal_code.type_inv) ∙ c.refusal_code.ensures ∙ ap value_code e; found = ap value_left e }
