-- `batches::instants::answer_all` meets its contract. The loop's invariant: the front of each list has the answers to the
-- first i instants.
use borrow.Author.Rules.{sfits_of}
use mathlib.Core.Path.{◌≡◌, ◌∙◌, ap}
use lib.IntN.{pos}
use lib.ListN.{get_or}
use mir.Syntax.{w64}
use mir.Val.{to_z, of_z}
use mir.Facts.{to_z-of_z}
use Rattle.integers.proofs.Machine.{plain}
use Rattle.calendar.specs.Meaning.{Row}
use Rattle.calendar.specs.Questions.{given, up_from_instant}
use Rattle.questions.specs.Answers.{placed_reply}
use Rattle.questions_api.specs.Codes.{placed_code, placed_label, placed_place}
use Rattle.questions_api.proofs.Places.{place-small}
use Rattle.batches.proofs.Fronts.{front-more, front-all}
use Rattle.batches.proofs.instants.answer_all.Invariants.{code, label, place}
use Rattle.batches.proofs.instants.answer_all.Goals as goal
use Rattle.batches.proofs.instants.answer_all.Goals.{After-asked-placing, At-loop-i, Start}

abbrev row : Start → Row
row s = given (to_z w64 (of_z w64 s.args.period)) (to_z w64 (of_z w64 s.args.distance)) s.args.cells.now

replied : (c : After-asked-placing) → let a = (goal.at.After-asked-placing c).At-loop-i in let s = (goal.at.At-loop-i a).Start in
    placed_reply c.asked-placing.result ≡ up_from_instant (row s) (get_or s.args.ts.now a.loop-i.i (pos 0))
replied c =
    let s = (goal.at.After-asked-placing c).Start in
    c.asked-placing.ensures ∙ ap (up_from_instant (row s)) (to_z-of_z {w = w64} (sfits_of c.asked-arg-1.given))

pub of_placing-requires : goal.of_placing-requires
of_placing-requires c = rw (replied (goal.at.of_placing-requires c).After-asked-placing) (place-small _ _)

pub loop-i-preserved : goal.loop-i-preserved
loop-i-preserved c =
    let a = (goal.at.loop-i-preserved c).At-loop-i in
    let s = (goal.at.At-loop-i a).Start in
    let r = row s in
    let ts = s.args.ts.now in
    let i = a.loop-i.i in
    let v = a.loop-i.invariant in
    let here = c.loop-i-test.true in
    let e = replied (goal.at.loop-i-preserved c).After-asked-placing in
    let k = c.of_placing.ensures in
    let f = to_z-of_z {w = w64} (sfits_of c.of_placing.type_inv) in (
      front-more (code r) ts _ i here s.requires.ts_in_bounds (f ∙ k.code ∙ ap placed_code e) v.0,
      front-more (label r) ts _ i here s.requires.ts_in_bounds_2 (k.label ∙ ap placed_label e) v.1,
      front-more (place r) ts _ i here s.requires.ts_in_bounds_3 (k.place ∙ ap placed_place e) v.2,
    )

pub returns : goal.returns
returns c =
    let s = (goal.at.returns c).Start in
    let p = s.ranges.period in
    let n = s.ranges.distance in
    let v = c.loop-i.invariant in
    let e = c.loop-i-test.false in
    let i = c.loop-i.i in
    let ts = s.args.ts.now in
    let x = front-all (code (row s)) ts _ i e v.0 in
    let y = front-all (label (row s)) ts _ i e v.1 in
    let z = front-all (place (row s)) ts _ i e v.2 in
    record { answers = simp plain at x; labels = simp plain at y; places = simp plain at z }
