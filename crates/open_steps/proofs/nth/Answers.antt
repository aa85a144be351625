-- `open_steps::nth` meets its contract: 13, 14, then the instant.
-- Assumes nothing.
use mathlib.Core.Path.{◌≡◌, ◌∙◌, sym, ap}
use mathlib.Core.Bool.{true}
use mathlib.Core.Option.{some}
use borrow.Author.Rules.{rules}
use borrow.Author.Tests.{not-true, not-false}
use mir.Facts.{to_z-of_z}
use mir.Syntax.{w64}
use Rattle.integers.specs.Parts.{up}
use Rattle.integers.proofs.Machine.{plain}
use Rattle.calendar.specs.Reply.Reply.{answer}
use Rattle.cursors.specs.Found.{found}
use Rattle.open_steps.specs.Steps.{nth_open}
use Rattle.open_map.specs.Maps.{Map, map_given, map_sound, is_open}
use Rattle.open_steps.specs.Inquiries.{may_step, nth_reply}
use Rattle.granules.proofs.Replies.{passed, failed}
use Rattle.open_steps.proofs.Replied.{step-replied}
use Rattle.open_steps.proofs.nth.Goals as goal
use Rattle.open_steps.proofs.nth.Goals.{After-may_step, After-nth_of, After-sound, Else-not-may_step, Else-not-sound, Start}

abbrev map : Start → Map
map s = map_given s.args.period s.args.words.now

tested : (c : After-sound) → c.sound.result ≡ map_sound (map (goal.at.After-sound c).Start)
tested c = let p = c.ranges.period in simp plain at c.sound.ensures

pub returns-then-not-sound : goal.returns-then-not-sound
unfolding nth_reply
returns-then-not-sound c = sym (failed 13 _ (sym (tested (goal.at.returns-then-not-sound c).After-sound) ∙ not-true _ c.if-not-sound.true-raw))

is-sound : (c : Else-not-sound) → map_sound (map (goal.at.Else-not-sound c).Start) ≡ true
is-sound c = sym (tested (goal.at.Else-not-sound c).After-sound) ∙ not-false _ c.if-not-sound.false-raw

ranged : (c : After-may_step) → let s = (goal.at.After-may_step c).Start in c.may_step.result ≡ may_step s.args.x s.args.n
ranged c =
    let s = (goal.at.After-may_step c).Start in
    let f = s.ranges.x in
    let g = s.ranges.n in
    simp plain at c.may_step.ensures

pub returns-then-not-may_step : goal.returns-then-not-may_step
unfolding nth_reply
returns-then-not-may_step c = sym (passed 13 _ (is-sound (goal.at.returns-then-not-may_step c).Else-not-sound) ∙ failed 14 _ (sym (ranged (goal.at.returns-then-not-may_step c).After-may_step) ∙ not-true _ c.if-not-may_step.true-raw))

is-near : (c : Else-not-may_step) → let s = (goal.at.Else-not-may_step c).Start in may_step s.args.x s.args.n ≡ true
is-near c = sym (ranged (goal.at.Else-not-may_step c).After-may_step) ∙ not-false _ c.if-not-may_step.false-raw

pub nth_of-requires : goal.nth_of-requires
nth_of-requires c =
    let s = (goal.at.nth_of-requires c).Start in
    let p = s.ranges.period in
    let f = s.ranges.x in
    let g = s.ranges.n in
    record { sound = simp plain (is-sound (goal.at.nth_of-requires c).Else-not-sound); n_value = simp plain (is-near c) }

-- what the question answers, by the instant found
replied : (c : After-nth_of) → let s = (goal.at.After-nth_of c).Start in nth_reply (map s) s.args.x s.args.n ≡ answer (found c.nth_of.result)
unfolding nth_reply
replied c =
    let d = (goal.at.After-nth_of c).Else-not-may_step in
    let s = (goal.at.Else-not-may_step d).Start in
    let p = s.ranges.period in
    let f = s.ranges.x in
    let g = s.ranges.n in
    let e : found c.nth_of.result ≡ nth_open (up s.args.period) (is_open (map s)) s.args.x s.args.n = simp plain at c.nth_of.ensures in
    passed 13 _ (is-sound (goal.at.Else-not-may_step d).Else-not-sound) ∙ passed 14 _ (is-near d) ∙ ap answer (sym e)

pub returns : goal.returns
returns c = step-replied c.nth_of.result ∙ sym (replied (goal.at.returns c).After-nth_of)
