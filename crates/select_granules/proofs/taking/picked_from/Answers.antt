-- `select_granules::taking::picked_from` meets its contract: Pick takes what the tally from its start on says.
-- Assumes nothing.
use borrow.Author.Rules.{rules}
use mathlib.Core.Path.{◌≡◌, refl, ◌∙◌, ap}
use mathlib.Core.List.{List}
use Prim.Native.Nat.{◌^◌}
use native.Mathlib.Omega.{arith}
use lib.IntN.{ℤ, pos, ◌+ℤ◌, ◌-ℤ◌}
use lib.ListN.{length}
use mir.Syntax.{w64}
use mir.Val.{SFits}
use Rattle.integers.proofs.Linear.{ints, ◌∴◌}
use Rattle.integers.proofs.Machine.{plain}
use Rattle.calendar.specs.Meaning.{Row}
use Rattle.calendar.specs.Algebra.{pick_start}
use Rattle.calendar.specs.Questions.{given}
use Rattle.granules.specs.Valid.{Valid}
use Rattle.cursors.specs.Found.{Within}
use Rattle.cursors.proofs.Numbers.{valid}
use Rattle.candidates.specs.Tallies.{candidates, tally_of}
use Rattle.candidates.proofs.Tallying.{tally-fields}
use Rattle.candidates.proofs.Candidates.{candidates-lists}
use Rattle.select_granules.specs.declared.Picked.{Picked}
use Rattle.select_granules.specs.Memos.{picked_of}
use Rattle.select_granules.proofs.Starts.{picks}
use Rattle.select_granules.proofs.taking.picked_from.Goals as goal
use Rattle.select_granules.proofs.taking.picked_from.Goals.{After-pick_start-low, After-picked_of, After-tallied-tally, Start}

abbrev a-row : Start → Row
a-row s = given s.args.a_period s.args.a_distance s.args.a_cells.now

abbrev b-row : Start → Row
b-row s = given s.args.b_period s.args.b_distance s.args.b_cells.now

-- the granules in question
abbrev asked : Start → List ℤ
asked s = candidates s.args.whole (a-row s) (b-row s) s.args.i

a-rules : (s : Start) → Valid (a-row s)
a-rules s = valid s.args.a_period s.args.a_distance s.args.a_cells.now s.requires.sound

b-rules : (s : Start) → Valid (b-row s)
b-rules s = valid s.args.b_period s.args.b_distance s.args.b_cells.now s.requires.sound_2

low-is : (c : After-pick_start-low) → let s = (goal.at.After-pick_start-low c).Start in
    (c.pick_start-low.result ≡ pick_start s.args.pick.x (length (asked s))) × Within (2 ^ 23) c.pick_start-low.result
low-is c =
    let s = (goal.at.After-pick_start-low c).Start in
    let p = s.ranges.a_period in
    let n = s.ranges.a_distance in
    let q = s.ranges.b_period in
    let m = s.ranges.b_distance in
    let i = s.ranges.i in
    (simp plain at c.pick_start-low.ensures.at, c.pick_start-low.ensures.near)

-- the numbers on the way
record Sums (low y : ℤ) : Type 0 where
  pub low_fits : SFits w64 low
  pub y-fits : SFits w64 y
  pub sum_fits : SFits w64 (low +ℤ y)
  pub high_fits : SFits w64 (low +ℤ y -ℤ pos 1)

sums : (c : After-pick_start-low) → Sums c.pick_start-low.result c.args.pick.y
sums c =
    let l = c.requires.pick_limits in
    let n = (low-is c).1 in
    record {
      low_fits = n.0 ∴ n.1 ∴ simp ints (omega arith);
      y-fits = l.y-low ∴ l.y-high ∴ simp ints (omega arith);
      sum_fits = n.0 ∴ n.1 ∴ l.y-low ∴ l.y-high ∴ simp ints (omega arith);
      high_fits = n.0 ∴ n.1 ∴ l.y-low ∴ l.y-high ∴ simp ints (omega arith);
    }

abbrev started : After-tallied-tally → After-pick_start-low
started c = (goal.at.After-tallied-tally c).After-pick_start-low

abbrev begun : After-tallied-tally → Start
begun c = (goal.at.After-tallied-tally c).Start

abbrev low : After-tallied-tally → ℤ
low c = c.pick_start-low.result

abbrev high : After-tallied-tally → ℤ
high c = low c +ℤ c.args.pick.y -ℤ pos 1

ends-are : (c : After-tallied-tally) → let all = tally_of (low c) (high c) (asked (begun c)) in
    (c.tallied-tally.result.low ≡ all.low) × (c.tallied-tally.result.high ≡ all.high)
ends-are c =
    let s = begun c in
    let p = s.ranges.a_period in
    let n = s.ranges.a_distance in
    let q = s.ranges.b_period in
    let m = s.ranges.b_distance in
    let i = s.ranges.i in
    let x = (sums (started c)).low_fits in
    let y = (sums (started c)).y-fits in
    let e = (sums (started c)).sum_fits in
    let h = (sums (started c)).high_fits in
    (simp plain at c.tallied-tally.ensures.low, simp plain at c.tallied-tally.ensures.high)

picked-is : (c : After-picked_of) → c.picked_of.result ≡ picked_of c.args.i c.tallied-tally.result.low c.tallied-tally.result.high
picked-is c =
    let i = c.ranges.i in
    let l : SFits w64 c.tallied-tally.result.low = search rules in
    let h : SFits w64 c.tallied-tally.result.high = search rules in
    simp plain at c.picked_of.ensures

pub returns-clause-picks : goal.returns-clause-picks
returns-clause-picks c =
    let t = (goal.at.returns-clause-picks c).After-tallied-tally in
    let s = begun t in
    let e = picked-is (goal.at.returns-clause-picks c).After-picked_of in
    let f = ends-are t in
    let all = tally-fields (low t) (high t) (asked s) (tally_of (low t) (high t) (asked s)) refl in
    let r = (candidates-lists s.args.whole (a-row s) (b-row s) (a-rules s) (b-rules s) s.args.i).rising in
    picks s.args.pick (asked s) r (low t) (high t) (low-is (started t)).0 refl s.requires.pick_limits.y-low c.picked_of.result
    (ap (λ (m : Picked). m.low) e ∙ f.0 ∙ all.low-is)
    (ap (λ (m : Picked). m.high) e ∙ f.1 ∙ all.high_is)
