-- `batches::slots::asked` meets its contract: 13, or what `checked::up_granule` says.
use mathlib.Core.Path.{◌≡◌, refl, sym, ◌∙◌}
use mathlib.Core.Bool.{Bool, true, false, ◌&&◌}
use lib.IntN.{ℤ}
use borrow.Author.Tests.{not-false}
use Rattle.integers.proofs.Machine.{plain}
use Rattle.calendar.specs.Meaning.{Row}
use Rattle.calendar.specs.Sound.{sound}
use Rattle.calendar.specs.Reply.{Reply, require}
use Rattle.calendar.specs.Reply.Reply.{refused}
use Rattle.calendar.specs.Questions.{up_from_granule}
use Rattle.granules.proofs.Tests.{not_iff, and-iff}
use Rattle.granules.proofs.Replies.{failed}
use Rattle.batches.proofs.slots.asked.Goals as goal
use Rattle.batches.proofs.slots.asked.Goals.{Start}

-- one of two checks fails
either : {A : Type 0} (a b : Bool) (r : Reply A) → a && b ≡ false → require 13 a (require 13 b r) ≡ refused 13
either false b r e = refl
either true b r e = failed 13 r e

not_sound : (g h : Row) (z : ℤ) → sound g && sound h ≡ false → up_from_granule g h z ≡ refused 13
unfolding up_from_granule
not_sound g h z e = either (sound g) (sound h) _ e

pub returns-then-not-sound : goal.returns-then-not-sound
returns-then-not-sound c = sym (not_sound _ _ _ (sym c.requires ∙ (not_iff _).0 c.if-not-sound.true-raw))

pub up_granule-requires : goal.up_granule-requires
up_granule-requires c =
    let p = c.ranges.g_period in
    let n = c.ranges.g_distance in
    let q = c.ranges.h_period in
    let m = c.ranges.h_distance in
    let e = (and-iff _ _).0 (sym c.requires ∙ not-false _ c.if-not-sound.false-raw) in
    record { sound = simp plain e.0; sound_2 = simp plain e.1 }

pub returns : goal.returns
returns c =
    let s = (goal.at.returns c).Start in
    let p = s.ranges.g_period in
    let n = s.ranges.g_distance in
    let q = s.ranges.h_period in
    let m = s.ranges.h_distance in
    let z = s.ranges.z in
    simp plain at c.up_granule.ensures
