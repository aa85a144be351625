-- `entries::altering` meets its contract: y is tested where x is within its limits, and z where y is.
-- Assumes nothing.
use mathlib.Core.Path.{◌≡◌}
use lib.IntN.{pos}
use borrow.Author.Rules.{rules}
use mir.ValLaws.{to_z-of_z}
use Rattle.calendar.specs.Limits.{between, million}
use Rattle.entries.proofs.Fields.{Fields}
use Rattle.entries.proofs.altering.Goals as goal
use Rattle.entries.proofs.altering.Goals.{After-between, After-between-then-between, Start, Then-between}

fields : (c : Start) → Fields c.args.e
fields c = search rules

-- the tests of x and y
x-test : (c : After-between) → c.between.result ≡ between (pos 1) million c.args.e.x
x-test c = simp (to_z-of_z, (fields (goal.at.After-between c).Start).x) at c.between.ensures

y-test : (c : After-between-then-between) → let e = c.args.e in
    c.between-then-between.result ≡ between (pos 1) e.x e.y
y-test c =
    let f = fields (goal.at.After-between-then-between c).Start in
    simp (to_z-of_z, f.x, f.y) at c.between-then-between.ensures

pub returns-then-between-2 : goal.returns-then-between-2
returns-then-between-2 c =
    let second = (goal.at.returns-then-between-2 c).After-between-then-between in
    let t = (goal.at.After-between-then-between second).Then-between in
    simp (← x-test (goal.at.Then-between t).After-between, t.if-between.true, ← y-test second, c.if-between-2.true)
    (simp (to_z-of_z, (fields (goal.at.Then-between t).Start).z) at c.between-then-between-2.ensures)

pub returns-else-between-2 : goal.returns-else-between-2
returns-else-between-2 c =
    let t = (goal.at.returns-else-between-2 c).Then-between in
    simp (← x-test (goal.at.Then-between t).After-between, t.if-between.true, ← y-test (goal.at.returns-else-between-2 c).After-between-then-between, c.if-between-2.false)

pub returns-else-between : goal.returns-else-between
returns-else-between c = simp (← x-test (goal.at.returns-else-between c).After-between, c.if-between.false)
