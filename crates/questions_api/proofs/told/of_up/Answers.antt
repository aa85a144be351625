-- `questions_api::told::of_up` meets its contract, arm by arm.
use Rattle.std.specs.Prelude.{Ok}
use borrow.Author.Rules.{rules, sfits_of}
use mathlib.Core.Path.{sym, ◌∙◌, ap}
use mir.Facts.{to_z-of_z}
use mir.Syntax.{w64}
use mir.Val.{SFits}
use Rattle.questions.specs.Answers.{up_reply}
use Rattle.questions_api.specs.Codes.{up_code, up_label}
use Rattle.questions_api.proofs.told.of_up.Goals as goal

pub returns-in-Ok-Some : goal.returns-in-Ok-Some
returns-in-Ok-Some c =
    let e = sym (ap up_reply (c.in-Ok-Some.is ∙ ap Ok (rw c.in-Ok-Some.is at c.in-Ok-Some.field-0-is))) in
    let f : SFits w64 c.in-Ok-Some.j = search rules in
    record { code = ap up_code e; label = to_z-of_z f ∙ ap up_label e }

pub returns-in-Ok-None : goal.returns-in-Ok-None
returns-in-Ok-None c =
    let e = sym (ap up_reply (c.in-Ok-None.is ∙ ap Ok (rw c.in-Ok-None.is at c.in-Ok-None.field-0-is))) in
    record { code = ap up_code e; label = ap up_label e }

pub returns-in-Err : goal.returns-in-Err
returns-in-Err c =
    let e = sym (ap up_reply c.in-Err.is) in
    record { code = to_z-of_z {w = w64} (sfits_of c.refusal_code.type_inv) ∙ c.refusal_code.ensures ∙ ap up_code e; label = ap up_label e }
