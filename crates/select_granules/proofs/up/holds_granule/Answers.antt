-- `select_granules::up::holds_granule` meets its contract: a tally from the granule's first instant on finds one.
-- Assumes nothing.
use borrow.Author.Rules.{rules}
use mathlib.Core.Path.{◌≡◌, ◌∙◌, ap, ap₂}
use mathlib.Core.Bool.{true}
use Prim.Native.Nat.{◌^◌}
use lib.IntN.{pos}
use lib.Signed.{le_z}
use mir.Facts.{to_z-of_z}
use mir.Syntax.{w64}
use mir.Val.{SFits}
use Rattle.integers.proofs.Machine.{plain}
use Rattle.calendar.specs.Meaning.{Row, meant}
use Rattle.calendar.specs.Lists.{first}
use Rattle.calendar.specs.Granules.{granule}
use Rattle.calendar.specs.Questions.{given}
use Rattle.granules.specs.Valid.{Valid}
use Rattle.granules.proofs.Questions.{first-labelled, first-at-most}
use Rattle.cursors.specs.Found.{Within}
use Rattle.cursors.specs.Cursor.{cursor_at}
use Rattle.cursors.proofs.Numbers.{valid}
use Rattle.containment.specs.First.{FirstInstant}
use Rattle.candidates.specs.Tallies.{candidates, tally_of}
use Rattle.select_granules.proofs.Holding.{holds-is}
use Rattle.select_granules.proofs.up.holds_granule.Goals as goal
use Rattle.select_granules.proofs.up.holds_granule.Goals.{After-began-start, After-tallied-tally, Start}

abbrev a-row : Start → Row
a-row s = given s.args.a_period s.args.a_distance s.args.a_cells.now

abbrev b-row : Start → Row
b-row s = given s.args.b_period s.args.b_distance s.args.b_cells.now

a-rules : (s : Start) → Valid (a-row s)
a-rules s = valid s.args.a_period s.args.a_distance s.args.a_cells.now s.requires.sound

b-rules : (s : Start) → Valid (b-row s)
b-rules s = valid s.args.b_period s.args.b_distance s.args.b_cells.now s.requires.sound_2

start_is : (c : After-began-start) → let s = (goal.at.After-began-start c).Start in let x = c.began-start.result in
    (x.at ≡ first (granule (a-row s) s.args.j)) × ((x.own ≡ cursor_at (a-row s) x.at) × ((x.other ≡ cursor_at (b-row s) x.at) × Within (2 ^ 58) x.at))
start_is c =
    let s = (goal.at.After-began-start c).Start in
    let p = s.ranges.a_period in
    let n = s.ranges.a_distance in
    let q = s.ranges.b_period in
    let m = s.ranges.b_distance in
    let j = s.ranges.j in
    let e = simp plain at c.began-start.ensures in
    (e.at, (e.own, (e.other, e.near)))

begins : (c : After-began-start) → let s = (goal.at.After-began-start c).Start in FirstInstant (a-row s) s.args.j c.began-start.result.at
begins c =
    let s = (goal.at.After-began-start c).Start in
    let e = (start_is c).0 in
    record {
      near = (start_is c).1.1.1;
      label = ap (meant (a-row s)) e ∙ first-labelled (a-row s) (a-rules s) s.args.j (s.args.t, s.requires.t_value);
      least = rw e (first-at-most (a-row s) (a-rules s) s.args.j);
    }

pub tallied-tally-requires-clause-first_instant : goal.tallied-tally-requires-clause-first_instant
tallied-tally-requires-clause-first_instant c =
    let b = (goal.at.tallied-tally-requires-clause-first_instant c).After-began-start in
    let s = (goal.at.After-began-start b).Start in
    let p = s.ranges.a_period in
    let n = s.ranges.a_distance in
    let q = s.ranges.b_period in
    let m = s.ranges.b_distance in
    let j = s.ranges.j in
    let t : SFits w64 b.began-start.result.at = search rules in
    simp plain (begins b)

-- the first of the granules of b inside it, if there is one
found : (c : After-tallied-tally) → let s = (goal.at.After-tallied-tally c).Start in let t = tally_of (pos 1) (pos 1) (candidates true (b-row s) (a-row s) s.args.j) in
    (c.tallied-tally.result.low ≡ t.low) × (c.tallied-tally.result.high ≡ t.high)
found c =
    let s = (goal.at.After-tallied-tally c).Start in
    let p = s.ranges.a_period in
    let n = s.ranges.a_distance in
    let q = s.ranges.b_period in
    let m = s.ranges.b_distance in
    let j = s.ranges.j in
    (simp plain at c.tallied-tally.ensures.low, simp plain at c.tallied-tally.ensures.high)

pub returns : goal.returns
returns c =
    let t = (goal.at.returns c).After-tallied-tally in
    let s = (goal.at.After-tallied-tally t).Start in
    let l : SFits w64 t.tallied-tally.result.low = search rules in
    let h : SFits w64 t.tallied-tally.result.high = search rules in
    let e = found t in
    rw (to_z-of_z {w = w64} l, to_z-of_z {w = w64} h) (ap₂ le_z e.0 e.1 ∙ holds-is (a-row s) (b-row s) (a-rules s) (b-rules s) s.args.j)
