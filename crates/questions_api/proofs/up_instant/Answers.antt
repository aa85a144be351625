-- `questions_api::up_instant` meets its contract: the code, the label and the place of what `questions::up_instant`
-- answers.
use borrow.Author.Rules.{sfits_of}
use mathlib.Core.Path.{◌≡◌, ◌∙◌, ap}
use mathlib.Core.Option.{Option}
use mir.Facts.{to_z-of_z}
use mir.Syntax.{w64}
use Rattle.integers.proofs.Machine.{plain}
use Rattle.calendar.specs.Meaning.{Row}
use Rattle.calendar.specs.Reply.{Reply}
use Rattle.calendar.specs.Questions.{given, Placed, up_from_instant}
use Rattle.questions.specs.Answers.{placed_reply}
use Rattle.questions_api.specs.Codes.{placed_code, placed_label, placed_place}
use Rattle.questions_api.proofs.Places.{place-small}
use Rattle.questions_api.proofs.up_instant.Goals as goal
use Rattle.questions_api.proofs.up_instant.Goals.{After-up_instant-placing, Start}

abbrev row : Start → Row
row s = given s.args.period s.args.distance s.args.cells.now

abbrev reply : Start → Reply (Option Placed)
reply s = up_from_instant (row s) s.args.t

replied : (c : After-up_instant-placing) → placed_reply c.up_instant-placing.result ≡ reply (goal.at.After-up_instant-placing c).Start
replied c =
    let s = (goal.at.After-up_instant-placing c).Start in
    let p = s.ranges.period in
    let n = s.ranges.distance in
    let t = s.ranges.t in
    simp plain at c.up_instant-placing.ensures

pub of_placing-requires : goal.of_placing-requires
of_placing-requires c =
    let a = (goal.at.of_placing-requires c).After-up_instant-placing in
    let s = (goal.at.After-up_instant-placing a).Start in
    rw (replied a) (place-small (row s) s.args.t)

pub returns : goal.returns
returns c =
    let e = replied (goal.at.returns c).After-up_instant-placing in
    let k = c.of_placing.ensures in
    record { code = to_z-of_z {w = w64} (sfits_of c.of_placing.type_inv) ∙ k.code ∙ ap placed_code e; label = k.label ∙ ap placed_label e; place = k.place ∙ ap placed_place e }
