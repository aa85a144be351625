-- `open_row::between` meets its contract: 13, 14, then the number.
-- Assumes nothing.
use mathlib.Core.Path.{◌≡◌, ◌∙◌, sym, ap}
use mathlib.Core.Bool.{true, ◌&&◌}
use borrow.Author.Rules.{sfits_of}
use borrow.Author.Tests.{not-true, not-false}
use mir.Facts.{to_z-of_z}
use mir.Syntax.{w64}
use Rattle.integers.proofs.Machine.{plain}
use Rattle.calendar.specs.Meaning.{Row}
use Rattle.calendar.specs.Reply.Reply.{answer}
use Rattle.calendar.specs.Limits.{in_range}
use Rattle.calendar.specs.Sound.{sound}
use Rattle.calendar.specs.Questions.{given}
use Rattle.granules.proofs.Replies.{passed, failed}
use Rattle.open_steps.specs.Steps.{between_open}
use Rattle.open_row.specs.Inquiries.{opens, between_reply}
use Rattle.open_row.proofs.between.Goals as goal
use Rattle.open_row.proofs.between.Goals.{After-both_in_range, After-sound, Else-not-both_in_range, Else-not-sound, Start}

abbrev row : Start → Row
row s = given s.args.period s.args.distance s.args.cells.now

tested : (c : After-sound) → c.sound.result ≡ sound (row (goal.at.After-sound c).Start)
tested c =
    let p = c.ranges.period in
    let d = c.ranges.distance in
    simp plain at c.sound.ensures

pub returns-then-not-sound : goal.returns-then-not-sound
unfolding between_reply
returns-then-not-sound c = sym (failed 13 _ (sym (tested (goal.at.returns-then-not-sound c).After-sound) ∙ not-true _ c.if-not-sound.true-raw))

is-sound : (c : Else-not-sound) → sound (row (goal.at.Else-not-sound c).Start) ≡ true
is-sound c = sym (tested (goal.at.Else-not-sound c).After-sound) ∙ not-false _ c.if-not-sound.false-raw

ranged : (c : After-both_in_range) → let s = (goal.at.After-both_in_range c).Start in
    c.both_in_range.result ≡ (in_range s.args.x && in_range s.args.y)
ranged c =
    let s = (goal.at.After-both_in_range c).Start in
    let f = s.ranges.x in
    let g = s.ranges.y in
    simp plain at c.both_in_range.ensures

pub returns-then-not-both_in_range : goal.returns-then-not-both_in_range
unfolding between_reply
returns-then-not-both_in_range c = sym (passed 13 _ (is-sound (goal.at.returns-then-not-both_in_range c).Else-not-sound) ∙ failed 14 _ (sym (ranged (goal.at.returns-then-not-both_in_range c).After-both_in_range) ∙ not-true _ c.if-not-both_in_range.true-raw))

is-near : (c : Else-not-both_in_range) → let s = (goal.at.Else-not-both_in_range c).Start in
    (in_range s.args.x && in_range s.args.y) ≡ true
is-near c = sym (ranged (goal.at.Else-not-both_in_range c).After-both_in_range) ∙ not-false _ c.if-not-both_in_range.false-raw

pub between_of-requires : goal.between_of-requires
between_of-requires c =
    let s = (goal.at.between_of-requires c).Start in
    let p = s.ranges.period in
    let d = s.ranges.distance in
    let f = s.ranges.x in
    let g = s.ranges.y in
    record { sound = simp plain (is-sound (goal.at.between_of-requires c).Else-not-sound); y_value = simp plain (is-near c) }

pub returns : goal.returns
unfolding between_reply
returns c =
    let k = (goal.at.returns c).Else-not-both_in_range in
    let s = (goal.at.Else-not-both_in_range k).Start in
    let p = s.ranges.period in
    let d = s.ranges.distance in
    let f = s.ranges.x in
    let g = s.ranges.y in
    let e : c.between_of.result ≡ between_open (opens (row s)) s.args.x s.args.y = simp plain at c.between_of.ensures in
    ap answer (to_z-of_z {w = w64} (sfits_of c.between_of.type_inv) ∙ e) ∙ sym (passed 13 _ (is-sound (goal.at.Else-not-both_in_range k).Else-not-sound) ∙ passed 14 _ (is-near k))
