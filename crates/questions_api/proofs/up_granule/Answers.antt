-- `questions_api::up_granule` meets its contract: the code and the label of what `questions::up_granule` answers.
use borrow.Author.Rules.{sfits_of}
use mathlib.Core.Path.{◌≡◌, ◌∙◌, ap}
use mathlib.Core.Option.{Option}
use lib.IntN.{ℤ}
use mir.Facts.{to_z-of_z}
use mir.Syntax.{w64}
use Rattle.integers.proofs.Machine.{plain}
use Rattle.calendar.specs.Reply.{Reply}
use Rattle.calendar.specs.Questions.{given, up_from_granule}
use Rattle.questions.specs.Answers.{up_reply}
use Rattle.questions_api.specs.Codes.{up_code, up_label}
use Rattle.questions_api.proofs.up_granule.Goals as goal
use Rattle.questions_api.proofs.up_granule.Goals.{After-up_granule-up, Start}

abbrev reply : Start → Reply (Option ℤ)
reply s =
    up_from_granule (given s.args.g_period s.args.g_distance s.args.g_cells.now)
    (given s.args.h_period s.args.h_distance s.args.h_cells.now)
    s.args.z

replied : (c : After-up_granule-up) → up_reply c.up_granule-up.result ≡ reply (goal.at.After-up_granule-up c).Start
replied c =
    let s = (goal.at.After-up_granule-up c).Start in
    let p = s.ranges.g_period in
    let n = s.ranges.g_distance in
    let q = s.ranges.h_period in
    let m = s.ranges.h_distance in
    let z = s.ranges.z in
    simp plain at c.up_granule-up.ensures

pub returns : goal.returns
returns c =
    let e = replied (goal.at.returns c).After-up_granule-up in
    record { code = to_z-of_z {w = w64} (sfits_of c.of_up.type_inv) ∙ c.of_up.ensures.code ∙ ap up_code e; label = c.of_up.ensures.label ∙ ap up_label e }
