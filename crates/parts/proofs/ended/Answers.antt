-- `parts::ended` meets its contract: the nearest label on from there is that of the latest part, or another.
-- Assumes nothing.
use borrow.Author.Rules.{sfits_of}
use mathlib.Core.Path.{refl, subst}
use mathlib.Core.Bool.{false}
use mir.Syntax.{w64}
use mir.Val.{SFits}
use Rattle.integers.proofs.Machine.{plain, test-eq}
use Rattle.calendar.specs.Meaning.{Row}
use Rattle.calendar.specs.Questions.{given}
use Rattle.containment.specs.Places.{instant}
use Rattle.parts.specs.Walk.{Nearest}
use Rattle.parts.proofs.ended.Goals as goal
use Rattle.parts.proofs.ended.Goals.{After-nearest_label-next, Start}

abbrev row : Start → Row
row s = given s.args.period s.args.distance s.args.cells.now

label-fits : (c : After-nearest_label-next) → SFits w64 c.nearest_label-next.result
label-fits c = sfits_of c.nearest_label-next.type_inv

nearest : (c : After-nearest_label-next) → let s = (goal.at.After-nearest_label-next c).Start in Nearest false (row s) (instant (row s) s.args.from) c.nearest_label-next.result
nearest c =
    let s = (goal.at.After-nearest_label-next c).Start in
    let p = s.ranges.period in
    let d = s.ranges.distance in
    simp plain at c.nearest_label-next.ensures

pub returns-then-next-latest : goal.returns-then-next-latest
returns-then-next-latest c =
    let d = (goal.at.returns-then-next-latest c).After-nearest_label-next in
    let s = (goal.at.After-nearest_label-next d).Start in
    subst (Nearest false (row s) (instant (row s) s.args.from)) ((test-eq w64 _ _ (label-fits d) s.ranges.latest).0 c.if-next-latest.true) (nearest d)

pub returns : goal.returns
returns c =
    let d = (goal.at.returns c).After-nearest_label-next in
    (refl, (_, nearest d, λ e. c.if-next-latest.false ((test-eq w64 _ _ (label-fits d) d.ranges.latest).1 e)))
