-- `candidates::ends::began` meets its contract: it is t, or the first instant of the granule with the cursors there.
-- Assumes nothing.
use borrow.Author.Rules.{sfits_of}
use mathlib.Core.Path.{◌≡◌}
use Prim.Native.Nat.{◌^◌}
use native.Mathlib.Omega.{arith}
use lib.IntN.{ℤ}
use mir.Syntax.{w64}
use mir.Val.{SFits}
use Rattle.integers.proofs.Linear.{ints, ◌∴◌}
use Rattle.integers.proofs.Machine.{plain}
use Rattle.calendar.specs.Meaning.{Row}
use Rattle.calendar.specs.Lists.{first}
use Rattle.calendar.specs.Granules.{granule}
use Rattle.calendar.specs.Questions.{given}
use Rattle.cursors.specs.Found.{Within}
use Rattle.cursors.proofs.Numbers.{numbers, valid}
use Rattle.cursors.proofs.Bounds.{first-bounds}
use Rattle.candidates.proofs.ends.began.Goals as goal
use Rattle.candidates.proofs.ends.began.Goals.{After-first_instant-at, Start}

abbrev row : Start → Row
row s = given s.args.g_period s.args.g_distance s.args.g_cells.now

abbrev end : After-first_instant-at → ℤ
end c = c.first_instant-at.result

end_is : (c : After-first_instant-at) → end c ≡ first (granule (row (goal.at.After-first_instant-at c).Start) c.args.j)
end_is c =
    let s = (goal.at.After-first_instant-at c).Start in
    let p = s.ranges.g_period in
    let n = s.ranges.g_distance in
    let t = s.ranges.t in
    (simp plain at c.first_instant-at.ensures) s.args.j s.requires.t_value

near : (c : After-first_instant-at) → Within (2 ^ 58) (end c)
near c =
    let s = (goal.at.After-first_instant-at c).Start in
    let n = numbers s.args.g_period s.args.g_distance s.args.g_cells.now s.requires.sound in
    let v = valid s.args.g_period s.args.g_distance s.args.g_cells.now s.requires.sound in
    let f = first-bounds (row s) v s.args.t s.args.j s.requires.t_value in
    s.requires.within ∴ f.1 ∴ f.2 ∴ end_is c ∴ n.period-is ∴ n.high ∴ simp ints (omega arith)

fits : (c : After-first_instant-at) → SFits w64 (end c)
fits c = sfits_of c.first_instant-at.type_inv

pub cursor_at-own-requires-clause-near : goal.cursor_at-own-requires-clause-near
cursor_at-own-requires-clause-near c = let v = fits c in simp plain (near c ∴ simp ints (omega arith))

pub cursor_at-other-requires-clause-near : goal.cursor_at-other-requires-clause-near
cursor_at-other-requires-clause-near c =
    let d = (goal.at.cursor_at-other-requires-clause-near c).After-first_instant-at in
    let v = fits d in
    simp plain (near d ∴ simp ints (omega arith))

pub returns-clause-near : goal.returns-clause-near
returns-clause-near c =
    let d = (goal.at.returns-clause-near c).After-first_instant-at in
    let v = fits d in
    simp plain (near d)

pub returns-clause-at : goal.returns-clause-at
returns-clause-at c =
    let d = (goal.at.returns-clause-at c).After-first_instant-at in
    let v = fits d in
    let p = c.ranges.g_period in
    let n = c.ranges.g_distance in
    simp plain (end_is d)
