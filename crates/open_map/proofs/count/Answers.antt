-- `open_map::count` meets its contract: 13, 14, then the count.
-- Assumes nothing.
use mathlib.Core.Path.{◌≡◌, ◌∙◌, sym, ap}
use mathlib.Core.Bool.{true}
use borrow.Author.Rules.{sfits_of}
use borrow.Author.Tests.{not-true, not-false}
use lib.IntN.{pos}
use mir.Facts.{to_z-of_z}
use mir.Syntax.{w64}
use Rattle.integers.proofs.Machine.{plain}
use Rattle.calendar.specs.Reply.Reply.{answer}
use Rattle.open_map.specs.Instants.{open_in}
use Rattle.open_map.specs.Maps.{Map, map_given, map_sound, is_open}
use Rattle.open_map.specs.Inquiries as I
use Rattle.open_map.specs.Inquiries.{count_reply}
use Rattle.granules.proofs.Replies.{passed, failed}
use Rattle.open_map.proofs.count.Goals as goal
use Rattle.open_map.proofs.count.Goals.{After-ordered, After-sound, Else-not-ordered, Else-not-sound, Start}

abbrev map : Start → Map
map s = map_given s.args.period s.args.words.now

tested : (c : After-sound) → c.sound.result ≡ map_sound (map (goal.at.After-sound c).Start)
tested c = let p = c.ranges.period in simp plain at c.sound.ensures

pub returns-then-not-sound : goal.returns-then-not-sound
unfolding count_reply
returns-then-not-sound c = sym (failed 13 _ (sym (tested (goal.at.returns-then-not-sound c).After-sound) ∙ not-true _ c.if-not-sound.true-raw))

is-sound : (c : Else-not-sound) → map_sound (map (goal.at.Else-not-sound c).Start) ≡ true
is-sound c = sym (tested (goal.at.Else-not-sound c).After-sound) ∙ not-false _ c.if-not-sound.false-raw

in_order : (c : After-ordered) → c.ordered.result ≡ I.ordered c.args.s c.args.t
in_order c =
    let f = c.ranges.s in
    let g = c.ranges.t in
    simp plain at c.ordered.ensures

pub returns-then-not-ordered : goal.returns-then-not-ordered
unfolding count_reply
returns-then-not-ordered c = sym (passed 13 _ (is-sound (goal.at.returns-then-not-ordered c).Else-not-sound) ∙ failed 14 _ (sym (in_order (goal.at.returns-then-not-ordered c).After-ordered) ∙ not-true _ c.if-not-ordered.true-raw))

is-ordered : (c : Else-not-ordered) → I.ordered c.args.s c.args.t ≡ true
is-ordered c = sym (in_order (goal.at.Else-not-ordered c).After-ordered) ∙ not-false _ c.if-not-ordered.false-raw

pub count_of-requires : goal.count_of-requires
count_of-requires c =
    let s = (goal.at.count_of-requires c).Start in
    let p = s.ranges.period in
    let f = s.ranges.s in
    let g = s.ranges.t in
    record { sound = simp plain (is-sound (goal.at.count_of-requires c).Else-not-sound); t_value = simp plain (is-ordered c) }

pub returns : goal.returns
unfolding count_reply
returns c =
    let d = (goal.at.returns c).Else-not-ordered in
    let s = (goal.at.Else-not-ordered d).Start in
    let p = s.ranges.period in
    let f = s.ranges.s in
    let g = s.ranges.t in
    let e : c.count_of.result ≡ pos (open_in (is_open (map s)) s.args.s s.args.t) = simp plain at c.count_of.ensures in
    ap answer (to_z-of_z {w = w64} (sfits_of c.count_of.type_inv) ∙ e) ∙ sym (passed 13 _ (is-sound (goal.at.Else-not-ordered d).Else-not-sound) ∙ passed 14 _ (is-ordered d))
