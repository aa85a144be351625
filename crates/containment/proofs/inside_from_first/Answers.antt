-- `containment::inside_from_first` meets its contract: no instant before the first is in the granule, so the walk on sees it whole.
-- Assumes nothing.
use mathlib.Core.Path.{◌≡◌, ◌∙◌}
use mathlib.Core.Bool.{false}
use Rattle.integers.proofs.Machine.{plain}
use Rattle.calendar.specs.Meaning.{Row}
use Rattle.calendar.specs.Questions.{given}
use Rattle.cursors.proofs.Numbers.{valid}
use Rattle.containment.specs.Sides.{inside_toward}
use Rattle.containment.proofs.Sides.{from_first}
use Rattle.containment.proofs.inside_from_first.Goals as goal
use Rattle.containment.proofs.inside_from_first.Goals.{After-inside_toward, Start}

abbrev b-row : Start → Row
b-row s = given s.args.b_period s.args.b_distance s.args.b_cells.now

abbrev a-row : Start → Row
a-row s = given s.args.a_period s.args.a_distance s.args.a_cells.now

forward : (c : After-inside_toward) → let s = (goal.at.After-inside_toward c).Start in c.inside_toward.result ≡ inside_toward false (b-row s) (a-row s) s.args.from
forward c =
    let s = (goal.at.After-inside_toward c).Start in
    let p = s.ranges.b_period in
    let n = s.ranges.b_distance in
    let q = s.ranges.a_period in
    let m = s.ranges.a_distance in
    simp plain at c.inside_toward.ensures

pub returns : goal.returns
returns c =
    let s = (goal.at.returns c).Start in
    let v = valid s.args.b_period s.args.b_distance s.args.b_cells.now s.requires.sound in
    record { whole = forward (goal.at.returns c).After-inside_toward ∙ from_first (b-row s) (a-row s) v s.args.from s.requires.from_value }
