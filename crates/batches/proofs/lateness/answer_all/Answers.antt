-- `batches::lateness::answer_all` meets its contract. The loop's invariant: the front of the list has the answers to the
-- first i slots.
use borrow.Author.Rules.{sfits_of}
use mathlib.Core.Path.{◌≡◌, ◌∙◌, ap}
use lib.IntN.{ℤ, pos}
use lib.ListN.{get_or}
use mir.Syntax.{w64}
use mir.Val.{to_z, of_z}
use mir.Facts.{to_z-of_z}
use Rattle.integers.proofs.Machine.{plain}
use Rattle.calendar.specs.Meaning.{Row}
use Rattle.calendar.specs.Questions.{given}
use Rattle.questions.specs.Answers.{late_reply, may_be_late}
use Rattle.questions_api.specs.Codes.{late_code}
use Rattle.batches.proofs.Fronts.{front-more, front-all}
use Rattle.batches.proofs.lateness.answer_all.Invariants.{code}
use Rattle.batches.proofs.lateness.answer_all.Goals as goal
use Rattle.batches.proofs.lateness.answer_all.Goals.{After-asked-late, At-loop-i, Start}

abbrev row : Start → Row
row s = given (to_z w64 (of_z w64 s.args.period)) (to_z w64 (of_z w64 s.args.distance)) s.args.cells.now

abbrev late : Start → ℤ
late s = to_z w64 (of_z w64 s.args.d)

abbrev codes : Start → ℤ → ℤ
codes s = code (row s) (late s) s.args.allowance

replied : (c : After-asked-late) → let a = (goal.at.After-asked-late c).At-loop-i in let s = (goal.at.At-loop-i a).Start in
    late_reply c.asked-late.result ≡ may_be_late (row s) (get_or s.args.zs.now a.loop-i.i (pos 0)) (late s) s.args.allowance
replied c =
    let s = (goal.at.After-asked-late c).Start in
    c.asked-late.ensures
    ∙ ap (λ (z : ℤ). may_be_late (row s) z (late s) s.args.allowance) (to_z-of_z {w = w64} (sfits_of c.asked-arg-1.given))

pub loop-i-preserved : goal.loop-i-preserved
loop-i-preserved c =
    let a = (goal.at.loop-i-preserved c).At-loop-i in
    let s = (goal.at.At-loop-i a).Start in
    let here = c.loop-i-test.true in
    let k = to_z-of_z {w = w64} (sfits_of c.of_late.type_inv) ∙ c.of_late.ensures ∙ ap late_code (replied (goal.at.loop-i-preserved c).After-asked-late) in
    front-more (codes s) s.args.zs.now _ a.loop-i.i here s.requires k a.loop-i.invariant

pub returns : goal.returns
returns c =
    let s = (goal.at.returns c).Start in
    let p = s.ranges.period in
    let n = s.ranges.distance in
    let d = s.ranges.d in
    let x = front-all (codes s) s.args.zs.now _ c.loop-i.i c.loop-i-test.false c.loop-i.invariant in
    simp plain at x
