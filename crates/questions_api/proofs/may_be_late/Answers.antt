-- `questions_api::may_be_late` meets its contract: the code of what `questions::may_be_late` answers for the rule's allowance.
use borrow.Author.Rules.{sfits_of}
use mathlib.Core.Path.{◌≡◌, ◌∙◌, ap}
use mathlib.Core.Bool.{Bool}
use mir.Facts.{to_z-of_z}
use mir.Syntax.{w64}
use Rattle.integers.proofs.Machine.{plain}
use Rattle.calendar.specs.Reply.{Reply}
use Rattle.calendar.specs.Questions.{given}
use Rattle.floats.specs.declared.Allowance.{Allowance}
use Rattle.questions.specs.Answers.{late_reply, may_be_late}
use Rattle.questions_api.specs.Codes.{allowance_of, late_code}
use Rattle.questions_api.proofs.may_be_late.Goals as goal
use Rattle.questions_api.proofs.may_be_late.Goals.{After-allowance_of, After-may_be_late-late, Start}

abbrev asked : Start → Allowance → Reply Bool
asked s a = may_be_late (given s.args.period s.args.distance s.args.cells.now) s.args.z s.args.d a

abbrev reply : Start → Reply Bool
reply s = asked s (allowance_of s.args.rule s.args.amount)

allowance : (c : After-allowance_of) → c.allowance_of.result ≡ allowance_of c.args.rule c.args.amount
allowance c = let r = c.ranges.rule in simp plain at c.allowance_of.ensures

replied : (c : After-may_be_late-late) → late_reply c.may_be_late-late.result ≡ reply (goal.at.After-may_be_late-late c).Start
replied c =
    let a = (goal.at.After-may_be_late-late c).After-allowance_of in
    let s = (goal.at.After-allowance_of a).Start in
    let p = s.ranges.period in
    let n = s.ranges.distance in
    let z = s.ranges.z in
    let d = s.ranges.d in
    (simp plain at c.may_be_late-late.ensures) ∙ ap (asked s) (allowance a)

pub returns : goal.returns
returns c = to_z-of_z {w = w64} (sfits_of c.of_late.type_inv) ∙ c.of_late.ensures ∙ ap late_code (replied (goal.at.returns c).After-may_be_late-late)
