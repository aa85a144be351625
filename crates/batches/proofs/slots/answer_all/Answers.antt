-- `batches::slots::answer_all` meets its contract. The loop's invariant: the front of each list has the answers to the
-- first i slots.
use borrow.Author.Rules.{sfits_of}
use mathlib.Core.Path.{◌≡◌, ◌∙◌, ap}
use lib.IntN.{pos}
use lib.ListN.{get_or}
use mir.Syntax.{w64}
use mir.Val.{to_z, of_z}
use mir.Facts.{to_z-of_z}
use Rattle.integers.proofs.Machine.{plain}
use Rattle.calendar.specs.Meaning.{Row}
use Rattle.calendar.specs.Questions.{given, up_from_granule}
use Rattle.questions.specs.Answers.{up_reply}
use Rattle.questions_api.specs.Codes.{up_code, up_label}
use Rattle.batches.proofs.Fronts.{front-more, front-all}
use Rattle.batches.proofs.slots.answer_all.Invariants.{code, label}
use Rattle.batches.proofs.slots.answer_all.Goals as goal
use Rattle.batches.proofs.slots.answer_all.Goals.{After-asked-up, At-loop-i, Start}

abbrev g-row : Start → Row
g-row s = given (to_z w64 (of_z w64 s.args.g_period)) (to_z w64 (of_z w64 s.args.g_distance)) s.args.g_cells.now

abbrev h-row : Start → Row
h-row s = given (to_z w64 (of_z w64 s.args.h_period)) (to_z w64 (of_z w64 s.args.h_distance)) s.args.h_cells.now

replied : (c : After-asked-up) → let a = (goal.at.After-asked-up c).At-loop-i in let s = (goal.at.At-loop-i a).Start in
    up_reply c.asked-up.result ≡ up_from_granule (g-row s) (h-row s) (get_or s.args.zs.now a.loop-i.i (pos 0))
replied c =
    let s = (goal.at.After-asked-up c).Start in
    c.asked-up.ensures ∙ ap (up_from_granule (g-row s) (h-row s)) (to_z-of_z {w = w64} (sfits_of c.asked-arg-1.given))

pub loop-i-preserved : goal.loop-i-preserved
loop-i-preserved c =
    let a = (goal.at.loop-i-preserved c).At-loop-i in
    let s = (goal.at.At-loop-i a).Start in
    let g = g-row s in
    let h = h-row s in
    let zs = s.args.zs.now in
    let i = a.loop-i.i in
    let v = a.loop-i.invariant in
    let here = c.loop-i-test.true in
    let e = replied (goal.at.loop-i-preserved c).After-asked-up in
    let k = c.of_up.ensures in
    let f = to_z-of_z {w = w64} (sfits_of c.of_up.type_inv) in (
      front-more (code g h) zs _ i here s.requires.zs_in_bounds (f ∙ k.code ∙ ap up_code e) v.0,
      front-more (label g h) zs _ i here s.requires.zs_in_bounds_2 (k.label ∙ ap up_label e) v.1,
    )

pub returns : goal.returns
returns c =
    let s = (goal.at.returns c).Start in
    let p = s.ranges.g_period in
    let n = s.ranges.g_distance in
    let q = s.ranges.h_period in
    let m = s.ranges.h_distance in
    let v = c.loop-i.invariant in
    let e = c.loop-i-test.false in
    let i = c.loop-i.i in
    let zs = s.args.zs.now in
    let x = front-all (code (g-row s) (h-row s)) zs _ i e v.0 in
    let y = front-all (label (g-row s) (h-row s)) zs _ i e v.1 in
    record { answers = simp plain at x; labels = simp plain at y }
