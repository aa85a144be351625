-- `questions::up_granule` meets its contract: 13 twice, then what `checked::up_granule` says.
use mathlib.Core.Path.{◌≡◌, sym, ◌∙◌}
use mathlib.Core.Bool.{true}
use borrow.Author.Tests.{not-false}
use Rattle.integers.proofs.Machine.{plain}
use Rattle.calendar.specs.Meaning.{Row}
use Rattle.calendar.specs.Sound.{sound}
use Rattle.calendar.specs.Questions.{given, up_from_granule}
use Rattle.granules.proofs.Tests.{not_iff}
use Rattle.granules.proofs.Replies.{passed, failed}
use Rattle.questions.proofs.up_granule.Goals as goal
use Rattle.questions.proofs.up_granule.Goals.{After-sound, After-sound-2, Else-not-sound, Else-not-sound-2, Start}

abbrev g-row : Start → Row
g-row s = given s.args.g_period s.args.g_distance s.args.g_cells.now

abbrev h-row : Start → Row
h-row s = given s.args.h_period s.args.h_distance s.args.h_cells.now

g-tested : (c : After-sound) → c.sound.result ≡ sound (g-row (goal.at.After-sound c).Start)
g-tested c =
    let p = c.ranges.g_period in
    let n = c.ranges.g_distance in
    simp plain at c.sound.ensures

pub returns-then-not-sound : goal.returns-then-not-sound
unfolding up_from_granule
returns-then-not-sound c = sym (failed 13 _ (sym (g-tested (goal.at.returns-then-not-sound c).After-sound) ∙ (not_iff _).0 c.if-not-sound.true-raw))

g-sound : (c : Else-not-sound) → sound (g-row (goal.at.Else-not-sound c).Start) ≡ true
g-sound c = sym (g-tested (goal.at.Else-not-sound c).After-sound) ∙ not-false _ c.if-not-sound.false-raw

h-tested : (c : After-sound-2) → c.sound-2.result ≡ sound (h-row (goal.at.After-sound-2 c).Start)
h-tested c =
    let s = (goal.at.After-sound-2 c).Start in
    let p = s.ranges.h_period in
    let n = s.ranges.h_distance in
    simp plain at c.sound-2.ensures

pub returns-then-not-sound-2 : goal.returns-then-not-sound-2
unfolding up_from_granule
returns-then-not-sound-2 c = sym (passed 13 _ (g-sound (goal.at.returns-then-not-sound-2 c).Else-not-sound) ∙ failed 13 _ (sym (h-tested (goal.at.returns-then-not-sound-2 c).After-sound-2) ∙ (not_iff _).0 c.if-not-sound-2.true-raw))

h-sound : (c : Else-not-sound-2) → sound (h-row (goal.at.Else-not-sound-2 c).Start) ≡ true
h-sound c = sym (h-tested (goal.at.Else-not-sound-2 c).After-sound-2) ∙ not-false _ c.if-not-sound-2.false-raw

-- ---- the rest
pub up_granule-requires : goal.up_granule-requires
up_granule-requires c =
    let s = (goal.at.up_granule-requires c).Start in
    let p = s.ranges.g_period in
    let n = s.ranges.g_distance in
    let q = s.ranges.h_period in
    let m = s.ranges.h_distance in
    record { sound = simp plain (g-sound (goal.at.up_granule-requires c).Else-not-sound); sound_2 = simp plain (h-sound c) }

pub returns : goal.returns
returns c =
    let s = (goal.at.returns c).Start in
    let p = s.ranges.g_period in
    let n = s.ranges.g_distance in
    let q = s.ranges.h_period in
    let m = s.ranges.h_distance in
    let z = s.ranges.z in
    simp plain at c.up_granule.ensures
