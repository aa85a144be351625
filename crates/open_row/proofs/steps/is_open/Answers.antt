-- `open_row::steps::is_open` meets its contract.
-- Assumes nothing.
use mathlib.Core.Path.{◌≡◌, ◌∙◌, sym, ap}
use native.Mathlib.Omega.{arith}
use Rattle.integers.proofs.Linear.{ints, ◌∴◌}
use Rattle.integers.proofs.Machine.{plain}
use Rattle.calendar.specs.Meaning.{meant}
use Rattle.calendar.specs.Lists.{is_some}
use Rattle.calendar.specs.Questions.{given}
use Rattle.cursors.specs.Found.{found}
use Rattle.open_row.proofs.steps.is_open.Goals as goal
use Rattle.open_row.proofs.steps.is_open.Goals.{After-label_at-label, Start}

pub label_at-label-requires : goal.label_at-label-requires
label_at-label-requires s =
    let p = s.ranges.period in
    let d = s.ranges.distance in
    let x = s.ranges.x in
    record { sound = simp plain s.requires.sound; near = simp plain (s.requires.within ∴ simp ints (omega arith)) }

labelled : (c : After-label_at-label) → let s = (goal.at.After-label_at-label c).Start in
    found c.label_at-label.result ≡ meant (given s.args.period s.args.distance s.args.cells.now) s.args.x
labelled c =
    let s = (goal.at.After-label_at-label c).Start in
    let p = s.ranges.period in
    let d = s.ranges.distance in
    let x = s.ranges.x in
    simp plain at c.label_at-label.ensures

pub returns-in-Some : goal.returns-in-Some
returns-in-Some c = ap is_some (sym (ap found c.in-Some.is) ∙ labelled (goal.at.returns-in-Some c).After-label_at-label)

pub returns-in-None : goal.returns-in-None
returns-in-None c = ap is_some (sym (ap found c.in-None.is) ∙ labelled (goal.at.returns-in-None c).After-label_at-label)
