-- `batches::slots::both_sound` meets its contract.
use borrow.Author.Tests.{not-false}
use mathlib.Core.Path.{◌≡◌, sym, ◌∙◌, ap}
use mathlib.Core.Bool.{Bool, ◌&&◌}
use Rattle.integers.proofs.Machine.{plain}
use Rattle.calendar.specs.Meaning.{Row}
use Rattle.calendar.specs.Sound.{sound}
use Rattle.calendar.specs.Questions.{given}
use Rattle.granules.proofs.Tests.{not_iff}
use Rattle.batches.proofs.slots.both_sound.Goals as goal
use Rattle.batches.proofs.slots.both_sound.Goals.{After-sound, Else-not-sound, Start}

abbrev g-row : Start → Row
g-row s = given s.args.g_period s.args.g_distance s.args.g_cells.now

abbrev h-row : Start → Row
h-row s = given s.args.h_period s.args.h_distance s.args.h_cells.now

g-tested : (c : After-sound) → c.sound.result ≡ sound (g-row (goal.at.After-sound c).Start)
g-tested c =
    let p = c.ranges.g_period in
    let n = c.ranges.g_distance in
    simp plain at c.sound.ensures

pub returns-then-not-sound : goal.returns-then-not-sound
returns-then-not-sound c =
    let s = (goal.at.returns-then-not-sound c).Start in
    sym (ap (λ (b : Bool). b && sound (h-row s)) (sym (g-tested (goal.at.returns-then-not-sound c).After-sound) ∙ (not_iff _).0 c.if-not-sound.true-raw))

pub returns : goal.returns
returns c =
    let e = (goal.at.returns c).Else-not-sound in
    let s = (goal.at.Else-not-sound e).Start in
    let p = s.ranges.h_period in
    let n = s.ranges.h_distance in
    (simp plain at c.sound-2.ensures)
    ∙ sym (ap (λ (b : Bool). b && sound (h-row s)) (sym (g-tested (goal.at.Else-not-sound e).After-sound) ∙ not-false _ e.if-not-sound.false-raw))
