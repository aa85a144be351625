-- `questions::up_instant` meets its contract: 13, then what `checked::up_instant` says.
use mathlib.Core.Path.{◌≡◌, sym, ◌∙◌}
use mathlib.Core.Bool.{true}
use borrow.Author.Tests.{not-false}
use Rattle.integers.proofs.Machine.{plain}
use Rattle.calendar.specs.Meaning.{Row}
use Rattle.calendar.specs.Sound.{sound}
use Rattle.calendar.specs.Questions.{given, up_from_instant}
use Rattle.granules.proofs.Tests.{not_iff}
use Rattle.granules.proofs.Replies.{failed}
use Rattle.questions.proofs.up_instant.Goals as goal
use Rattle.questions.proofs.up_instant.Goals.{After-sound, Else-not-sound, Start}

abbrev row : Start → Row
row s = given s.args.period s.args.distance s.args.cells.now

tested : (c : After-sound) → c.sound.result ≡ sound (row (goal.at.After-sound c).Start)
tested c =
    let p = c.ranges.period in
    let n = c.ranges.distance in
    simp plain at c.sound.ensures

pub returns-then-not-sound : goal.returns-then-not-sound
unfolding up_from_instant
returns-then-not-sound c = sym (failed 13 _ (sym (tested (goal.at.returns-then-not-sound c).After-sound) ∙ (not_iff _).0 c.if-not-sound.true-raw))

is-sound : (c : Else-not-sound) → sound (row (goal.at.Else-not-sound c).Start) ≡ true
is-sound c = sym (tested (goal.at.Else-not-sound c).After-sound) ∙ not-false _ c.if-not-sound.false-raw

pub up_instant-requires : goal.up_instant-requires
up_instant-requires c =
    let s = (goal.at.up_instant-requires c).Start in
    let p = s.ranges.period in
    let n = s.ranges.distance in
    simp plain (is-sound c)

pub returns : goal.returns
returns c =
    let s = (goal.at.returns c).Start in
    let p = s.ranges.period in
    let n = s.ranges.distance in
    let t = s.ranges.t in
    simp plain at c.up_instant.ensures
