-- `containment::inside_at` meets its contract: the granule lies in the other if it does on both sides of the place.
-- Assumes nothing.
use mathlib.Core.Path.{◌≡◌, sym, ◌∙◌, ap}
use mathlib.Core.Bool.{Bool, true, false, ◌&&◌}
use Rattle.integers.proofs.Machine.{plain}
use Rattle.calendar.specs.Meaning.{Row}
use Rattle.calendar.specs.Granules.{inside}
use Rattle.calendar.specs.Questions.{given}
use Rattle.cursors.proofs.Numbers.{valid}
use Rattle.containment.specs.Sides.{inside_toward}
use Rattle.containment.proofs.Sides.{both-sides}
use Rattle.containment.proofs.inside_at.Goals as goal
use Rattle.containment.proofs.inside_at.Goals.{After-inside_toward, After-inside_toward-then-inside_toward, Start}

abbrev b-row : Start → Row
b-row s = given s.args.b_period s.args.b_distance s.args.b_cells.now

abbrev a-row : Start → Row
a-row s = given s.args.a_period s.args.a_distance s.args.a_cells.now

-- what is found on the two sides, and what they are together
forward : (c : After-inside_toward) → let s = (goal.at.After-inside_toward c).Start in c.inside_toward.result ≡ inside_toward false (b-row s) (a-row s) s.args.from
forward c =
    let s = (goal.at.After-inside_toward c).Start in
    let p = s.ranges.b_period in
    let n = s.ranges.b_distance in
    let q = s.ranges.a_period in
    let m = s.ranges.a_distance in
    simp plain at c.inside_toward.ensures

back : (c : After-inside_toward-then-inside_toward) → let s = (goal.at.After-inside_toward-then-inside_toward c).Start in c.inside_toward-then-inside_toward.result ≡ inside_toward true (b-row s) (a-row s) s.args.from
back c =
    let s = (goal.at.After-inside_toward-then-inside_toward c).Start in
    let p = s.ranges.b_period in
    let n = s.ranges.b_distance in
    let q = s.ranges.a_period in
    let m = s.ranges.a_distance in
    simp plain at c.inside_toward-then-inside_toward.ensures

both : (s : Start) → let f = s.args.from in inside_toward false (b-row s) (a-row s) f && inside_toward true (b-row s) (a-row s) f ≡ inside (b-row s) f.k (a-row s) f.i
both s = both-sides (b-row s) (a-row s) (valid s.args.b_period s.args.b_distance s.args.b_cells.now s.requires.sound) s.args.from

pub returns-then-inside_toward : goal.returns-then-inside_toward
returns-then-inside_toward c =
    let d = (goal.at.returns-then-inside_toward c).After-inside_toward in
    let s = (goal.at.After-inside_toward d).Start in
    back c ∙ ap (λ (x : Bool). x && inside_toward true (b-row s) (a-row s) s.args.from) (sym c.if-inside_toward.true ∙ forward d) ∙ both s

pub returns-else-inside_toward : goal.returns-else-inside_toward
returns-else-inside_toward c =
    let s = (goal.at.returns-else-inside_toward c).Start in
    c.if-inside_toward.false ∙ ap (λ (x : Bool). x && inside_toward true (b-row s) (a-row s) s.args.from) (sym c.if-inside_toward.false ∙ forward (goal.at.returns-else-inside_toward c).After-inside_toward) ∙ both s
