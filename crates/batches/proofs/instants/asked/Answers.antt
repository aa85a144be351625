-- `batches::instants::asked` meets its contract: 13, or what `checked::up_instant` says.
use mathlib.Core.Path.{sym, ◌∙◌}
use borrow.Author.Tests.{not-false}
use Rattle.integers.proofs.Machine.{plain}
use Rattle.calendar.specs.Questions.{up_from_instant}
use Rattle.granules.proofs.Tests.{not_iff}
use Rattle.granules.proofs.Replies.{failed}
use Rattle.batches.proofs.instants.asked.Goals as goal
use Rattle.batches.proofs.instants.asked.Goals.{Start}

pub returns-then-not-sound : goal.returns-then-not-sound
unfolding up_from_instant
returns-then-not-sound c = sym (failed 13 _ (sym c.requires ∙ (not_iff _).0 c.if-not-sound.true-raw))

pub up_instant-requires : goal.up_instant-requires
up_instant-requires c =
    let p = c.ranges.period in
    let n = c.ranges.distance in
    simp plain (sym c.requires ∙ not-false _ c.if-not-sound.false-raw)

pub returns : goal.returns
returns c =
    let s = (goal.at.returns c).Start in
    let p = s.ranges.period in
    let n = s.ranges.distance in
    let t = s.ranges.t in
    simp plain at c.up_instant.ensures
