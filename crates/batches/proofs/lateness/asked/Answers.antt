-- `batches::lateness::asked` meets its contract: 13, or what `checked::may_be_late` says.
use mathlib.Core.Path.{sym, ◌∙◌}
use borrow.Author.Tests.{not-false}
use Rattle.integers.proofs.Machine.{plain}
use Rattle.questions.specs.Answers.{may_be_late}
use Rattle.granules.proofs.Tests.{not_iff}
use Rattle.granules.proofs.Replies.{failed}
use Rattle.batches.proofs.lateness.asked.Goals as goal
use Rattle.batches.proofs.lateness.asked.Goals.{Start}

pub returns-then-not-sound : goal.returns-then-not-sound
unfolding may_be_late
returns-then-not-sound c = sym (failed 13 _ (sym c.requires ∙ (not_iff _).0 c.if-not-sound.true-raw))

pub may_be_late-requires : goal.may_be_late-requires
may_be_late-requires c =
    let p = c.ranges.period in
    let n = c.ranges.distance in
    simp plain (sym c.requires ∙ not-false _ c.if-not-sound.false-raw)

pub returns : goal.returns
returns c =
    let s = (goal.at.returns c).Start in
    let p = s.ranges.period in
    let n = s.ranges.distance in
    let z = s.ranges.z in
    let d = s.ranges.d in
    simp plain at c.may_be_late.ensures
