-- `open_map::last` meets its contract: 13, 14, then the instant.
-- Assumes nothing.
use mathlib.Core.Path.{◌≡◌, ◌∙◌, sym, ap}
use mathlib.Core.Bool.{true}
use borrow.Author.Rules.{sfits_of}
use borrow.Author.Tests.{not-true, not-false}
use mir.Facts.{to_z-of_z}
use mir.Syntax.{w64}
use Rattle.integers.specs.Parts.{up}
use Rattle.integers.proofs.Machine.{plain}
use Rattle.calendar.specs.Reply.Reply.{answer}
use Rattle.calendar.specs.Limits.{in_range}
use Rattle.cursors.proofs.Bounds.{in-range}
use Rattle.open_map.specs.Instants.{last_open}
use Rattle.open_map.specs.Maps.{Map, map_given, map_sound, is_open}
use Rattle.open_map.specs.Inquiries.{last_reply}
use Rattle.granules.proofs.Replies.{passed, failed}
use Rattle.open_map.proofs.last.Goals as goal
use Rattle.open_map.proofs.last.Goals.{After-in_range, After-sound, Else-not-in_range, Else-not-sound, Start}

abbrev map : Start → Map
map s = map_given s.args.period s.args.words.now

tested : (c : After-sound) → c.sound.result ≡ map_sound (map (goal.at.After-sound c).Start)
tested c = let p = c.ranges.period in simp plain at c.sound.ensures

pub returns-then-not-sound : goal.returns-then-not-sound
unfolding last_reply
returns-then-not-sound c = sym (failed 13 _ (sym (tested (goal.at.returns-then-not-sound c).After-sound) ∙ not-true _ c.if-not-sound.true-raw))

is-sound : (c : Else-not-sound) → map_sound (map (goal.at.Else-not-sound c).Start) ≡ true
is-sound c = sym (tested (goal.at.Else-not-sound c).After-sound) ∙ not-false _ c.if-not-sound.false-raw

ranged : (c : After-in_range) → c.in_range.result ≡ in_range c.args.x
ranged c = let x = c.ranges.x in simp plain at c.in_range.ensures

pub returns-then-not-in_range : goal.returns-then-not-in_range
unfolding last_reply
returns-then-not-in_range c = sym (passed 13 _ (is-sound (goal.at.returns-then-not-in_range c).Else-not-sound) ∙ failed 14 _ (sym (ranged (goal.at.returns-then-not-in_range c).After-in_range) ∙ not-true _ c.if-not-in_range.true-raw))

is-near : (c : Else-not-in_range) → in_range c.args.x ≡ true
is-near c = sym (ranged (goal.at.Else-not-in_range c).After-in_range) ∙ not-false _ c.if-not-in_range.false-raw

pub last_of-requires : goal.last_of-requires
last_of-requires c =
    let s = (goal.at.last_of-requires c).Start in
    let p = s.ranges.period in
    let x = s.ranges.x in
    record { sound = simp plain (is-sound (goal.at.last_of-requires c).Else-not-sound); within = simp plain ((in-range s.args.x).0 (is-near c)) }

pub returns : goal.returns
unfolding last_reply
returns c =
    let d = (goal.at.returns c).Else-not-in_range in
    let s = (goal.at.Else-not-in_range d).Start in
    let p = s.ranges.period in
    let x = s.ranges.x in
    let e : c.last_of.result ≡ last_open (up s.args.period) (is_open (map s)) s.args.x = simp plain at c.last_of.ensures in
    ap answer (to_z-of_z {w = w64} (sfits_of c.last_of.type_inv) ∙ e) ∙ sym (passed 13 _ (is-sound (goal.at.Else-not-in_range d).Else-not-sound) ∙ passed 14 _ (is-near d))
