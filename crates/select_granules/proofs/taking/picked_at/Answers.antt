-- `select_granules::taking::picked_at` meets its contract: Pick takes the last alone, or what stands
-- from its start on.
-- Assumes nothing.
use mathlib.Core.Path.{◌≡◌, ap}
use mathlib.Core.List.{List}
use native.Mathlib.Omega.{arith}
use lib.IntN.{ℤ, pos, negsuc}
use mir.Syntax.{w64}
use mir.Val.{SFits}
use Rattle.integers.proofs.Linear.{ints, ◌∴◌}
use Rattle.integers.proofs.Machine.{plain, test-eq}
use Rattle.calendar.specs.Meaning.{Row}
use Rattle.calendar.specs.Algebra.{Rising}
use Rattle.calendar.specs.Questions.{given}
use Rattle.granules.specs.Valid.{Valid}
use Rattle.granules.proofs.Questions.{first-at-most}
use Rattle.cursors.proofs.Numbers.{valid}
use Rattle.cursors.proofs.Bounds.{first-bounds}
use Rattle.containment.specs.First.{FirstInstant}
use Rattle.candidates.specs.Tallies.{candidates, last_or}
use Rattle.candidates.proofs.Candidates.{candidates-lists}
use Rattle.select_granules.specs.declared.Picked.{Picked}
use Rattle.select_granules.specs.Memos.{picked_of}
use Rattle.select_granules.proofs.Starts.{picks-last}
use Rattle.select_granules.proofs.taking.picked_at.Goals as goal
use Rattle.select_granules.proofs.taking.picked_at.Goals.{After-began-first, After-picked_last, Start, Then-pick-eq18446744073709551615}

abbrev a-row : Start → Row
a-row s = given s.args.a_period s.args.a_distance s.args.a_cells.now

abbrev b-row : Start → Row
b-row s = given s.args.b_period s.args.b_distance s.args.b_cells.now

-- the granules in question
abbrev asked : Start → List ℤ
asked s = candidates s.args.whole (a-row s) (b-row s) s.args.i

a-rules : (s : Start) → Valid (a-row s)
a-rules s = valid s.args.a_period s.args.a_distance s.args.a_cells.now s.requires.sound

b-rules : (s : Start) → Valid (b-row s)
b-rules s = valid s.args.b_period s.args.b_distance s.args.b_cells.now s.requires.sound_2

first_fits : (c : After-began-first) → SFits w64 c.began-first.result.at
first_fits c = let l = c.began-first.ensures.near in l.0 ∴ l.1 ∴ simp ints (omega arith)

begins : (c : After-began-first) → let s = (goal.at.After-began-first c).Start in FirstInstant (b-row s) s.args.i c.began-first.result.at
begins c =
    let s = (goal.at.After-began-first c).Start in
    let q = s.ranges.b_period in
    let m = s.ranges.b_distance in
    let i = s.ranges.i in
    let r = b-row s in
    let f = first-bounds r (b-rules s) s.args.t s.args.i s.requires.t_value in
    let e = simp plain at c.began-first.ensures.at in
    record { near = c.began-first.ensures.near; label = rw e f.0; least = rw e (first-at-most r (b-rules s) s.args.i) }

from_last : (c : Then-pick-eq18446744073709551615) → c.args.pick.x ≡ negsuc 0
from_last c =
    let s = (goal.at.Then-pick-eq18446744073709551615 c).Start in
    let l = s.requires.pick_limits in
    let x : SFits w64 s.args.pick.x = l.x-low ∴ l.x-high ∴ simp ints (omega arith) in
    (test-eq w64 s.args.pick.x (negsuc 0) x (simp ints (omega arith))).0 c.if-pick-eq18446744073709551615.true

rises : (s : Start) → Rising (asked s)
rises s = (candidates-lists s.args.whole (a-row s) (b-row s) (a-rules s) (b-rules s) s.args.i).rising

last-is : (c : After-picked_last) → let s = (goal.at.After-picked_last c).Start in
    c.picked_last.result ≡ picked_of s.args.i (last_or (pos 1) (asked s)) (last_or (pos 0) (asked s))
last-is c =
    let s = (goal.at.After-picked_last c).Start in
    let p = s.ranges.a_period in
    let n = s.ranges.a_distance in
    let q = s.ranges.b_period in
    let m = s.ranges.b_distance in
    let i = s.ranges.i in
    simp plain at c.picked_last.ensures

pub returns-then-pick-eq18446744073709551615-clause-picks : goal.returns-then-pick-eq18446744073709551615-clause-picks
returns-then-pick-eq18446744073709551615-clause-picks c =
    let s = (goal.at.returns-then-pick-eq18446744073709551615-clause-picks c).Start in
    let e = last-is (goal.at.returns-then-pick-eq18446744073709551615-clause-picks c).After-picked_last in
    picks-last s.args.pick (asked s) (rises s) (from_last (goal.at.returns-then-pick-eq18446744073709551615-clause-picks c).Then-pick-eq18446744073709551615) s.requires.pick_limits.y-low c.picked_last.result
    (ap (λ (m : Picked). m.low) e)
    (ap (λ (m : Picked). m.high) e)

pub picked_last-requires-clause-first_instant : goal.picked_last-requires-clause-first_instant
picked_last-requires-clause-first_instant c =
    let q = c.ranges.b_period in
    let m = c.ranges.b_distance in
    let i = c.ranges.i in
    simp plain (begins (goal.at.picked_last-requires-clause-first_instant c).After-began-first)

pub picked_from-requires-clause-first_instant : goal.picked_from-requires-clause-first_instant
picked_from-requires-clause-first_instant c =
    let q = c.ranges.b_period in
    let m = c.ranges.b_distance in
    let i = c.ranges.i in
    simp plain (begins (goal.at.picked_from-requires-clause-first_instant c).After-began-first)

pub returns-clause-picks : goal.returns-clause-picks
returns-clause-picks c =
    let p = c.ranges.a_period in
    let n = c.ranges.a_distance in
    let q = c.ranges.b_period in
    let m = c.ranges.b_distance in
    let i = c.ranges.i in
    simp plain at c.picked_from.ensures.picks
