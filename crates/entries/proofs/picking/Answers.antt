-- `entries::picking` meets its contract: each test is made where those before it passed.
-- Assumes nothing.
use mathlib.Core.Path.{◌≡◌}
use lib.IntN.{pos, neg_ℤ}
use borrow.Author.Rules.{rules}
use mir.ValLaws.{to_z-of_z}
use Rattle.calendar.specs.Limits.{between, million}
use Rattle.calendar.specs.Table.{zero?}
use Rattle.entries.proofs.Fields.{Fields}
use Rattle.entries.proofs.picking.Goals as goal
use Rattle.entries.proofs.picking.Goals.{After-between, After-between-then-between, After-is_zero, Start, Then-between, Then-between-2, Then-not-is_zero}

fields : (c : Start) → Fields c.args.e
fields c = search rules

-- the tests of x and y
x-test : (c : After-is_zero) → c.is_zero.result ≡ zero? c.args.e.x
x-test c = simp (to_z-of_z, (fields (goal.at.After-is_zero c).Start).x) at c.is_zero.ensures

x-limits : (c : After-between) → c.between.result ≡ between (neg_ℤ million) million c.args.e.x
x-limits c = simp (to_z-of_z, (fields (goal.at.After-between c).Start).x) at c.between.ensures

y-limits : (c : After-between-then-between) → c.between-then-between.result ≡ between (pos 1) million c.args.e.y
y-limits c = simp (to_z-of_z, (fields (goal.at.After-between-then-between c).Start).y) at c.between-then-between.ensures

pub returns-else-not-is_zero : goal.returns-else-not-is_zero
returns-else-not-is_zero c = simp (← x-test (goal.at.returns-else-not-is_zero c).After-is_zero, c.if-not-is_zero.false-raw)

pub returns-else-between : goal.returns-else-between
returns-else-between c =
    let t = (goal.at.returns-else-between c).Then-not-is_zero in
    simp (← x-test (goal.at.Then-not-is_zero t).After-is_zero, t.if-not-is_zero.true-raw, ← x-limits (goal.at.returns-else-between c).After-between, c.if-between.false)

pub returns-else-between-2 : goal.returns-else-between-2
returns-else-between-2 c =
    let u = (goal.at.returns-else-between-2 c).Then-between in
    let t = (goal.at.Then-between u).Then-not-is_zero in
    simp (← x-test (goal.at.Then-not-is_zero t).After-is_zero, t.if-not-is_zero.true-raw, ← x-limits (goal.at.Then-between u).After-between, u.if-between.true, ← y-limits (goal.at.returns-else-between-2 c).After-between-then-between, c.if-between-2.false)

pub returns-then-between-2 : goal.returns-then-between-2
returns-then-between-2 c =
    let v = (goal.at.returns-then-between-2 c).Then-between-2 in
    let u = (goal.at.Then-between-2 v).Then-between in
    let t = (goal.at.Then-between u).Then-not-is_zero in
    simp (← x-test (goal.at.Then-not-is_zero t).After-is_zero, t.if-not-is_zero.true-raw, ← x-limits (goal.at.Then-between u).After-between, u.if-between.true, ← y-limits (goal.at.Then-between-2 v).After-between-then-between, v.if-between-2.true)
    (simp (to_z-of_z, (fields (goal.at.Then-not-is_zero t).Start).z) at c.is_zero-then-between-2.ensures)
