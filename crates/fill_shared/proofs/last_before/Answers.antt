-- `fill_shared::last_before` meets its contract: it is a walk back from the instant −1.
-- Assumes nothing.
use borrow.Author.Rules.{rules}
use mathlib.Core.Path.{◌≡◌, sym, ◌∙◌, ap}
use mathlib.Core.Option.{none}
use native.Mathlib.Omega.{arith}
use lib.IntN.{ℤ}
use mir.Facts.{to_z-of_z}
use mir.Syntax.{w64}
use mir.Val.{to_z, of_z, SFits}
use Rattle.integers.proofs.Linear.{ints, ◌∴◌}
use Rattle.integers.proofs.Machine.{plain}
use Rattle.calendar.specs.Meaning.{Row, meant}
use Rattle.calendar.specs.Questions.{given}
use Rattle.granules.specs.Valid.{Valid}
use Rattle.cursors.specs.Found.{Sound, Near, found}
use Rattle.cursors.proofs.Numbers.{numbers, valid}
use Rattle.containment.specs.Places.{instant}
use Rattle.fill_shared.proofs.Before.{back_start, back_end, back_on, back-less}
use Rattle.fill_shared.proofs.last_before.Goals as goal
use Rattle.fill_shared.proofs.last_before.Goals.{After-cursor_label-label, At-loop-j, In-None, Start as Start-place}

-- the row as the machine has it
abbrev Start : Type 0
Start = Start-place

abbrev P : Start → ℤ
P s = to_z w64 (of_z w64 s.args.period)

abbrev N : Start → ℤ
N s = to_z w64 (of_z w64 s.args.distance)

abbrev row : Start → Row
row s = given (P s) (N s) s.args.cells.now

sound : (s : Start) → Sound (P s) (N s) s.args.cells.now
sound s =
    let p = s.ranges.period in
    let d = s.ranges.distance in
    simp plain s.requires

rules_own : (s : Start) → Valid (row s)
rules_own s = valid (P s) (N s) s.args.cells.now (sound s)

pub cursor_at-c-requires : goal.cursor_at-c-requires
cursor_at-c-requires c = record { sound = sound c; near = simp ints (omega arith) }

pub loop-j-init : goal.loop-j-init
loop-j-init c = back_start (row (goal.at.loop-j-init c).Start) (rules_own (goal.at.loop-j-init c).Start) c.cursor_at-c.result c.cursor_at-c.ensures

-- where the walk is
near : (c : At-loop-j) → Near (instant (row (goal.at.At-loop-j c).Start) c.loop-j.c)
near c =
    let s = (goal.at.At-loop-j c).Start in
    let n = numbers (P s) (N s) s.args.cells.now (sound s) in
    n.high ∴ c.loop-j.invariant.low ∴ c.loop-j.invariant.high ∴ simp ints (omega arith)

pub cursor_label-label-requires : goal.cursor_label-label-requires
cursor_label-label-requires c = record { sound = sound (goal.at.cursor_label-label-requires c).Start; standing = (instant (row (goal.at.cursor_label-label-requires c).Start) c.loop-j.c, near c, c.loop-j.invariant.cursor) }

label_is : (c : After-cursor_label-label) → let r = row (goal.at.After-cursor_label-label c).Start in meant r (instant r c.loop-j.c) ≡ found c.cursor_label-label.result
label_is c = sym (c.cursor_label-label.ensures (instant (row (goal.at.After-cursor_label-label c).Start) c.loop-j.c) c.loop-j.invariant.cursor)

pub returns-in-Some : goal.returns-in-Some
returns-in-Some c =
    let l = (goal.at.returns-in-Some c).After-cursor_label-label in
    let s = (goal.at.After-cursor_label-label l).Start in
    let p = s.ranges.period in
    let d = s.ranges.distance in
    let k : SFits w64 c.in-Some.j = search rules in
    let e = back_end (row s) (rules_own s) l.loop-j.c l.loop-j.invariant c.in-Some.j (label_is l ∙ ap found c.in-Some.is) in
    to_z-of_z k ∙ (simp plain at e)

pub cursor_back-c-requires : goal.cursor_back-c-requires
cursor_back-c-requires c =
    let l = (goal.at.cursor_back-c-requires c).At-loop-j in
    record { sound = sound (goal.at.At-loop-j l).Start; standing = (instant (row (goal.at.At-loop-j l).Start) l.loop-j.c, near l, l.loop-j.invariant.cursor) }

-- no label shows
none_here : (c : In-None) → let l = (goal.at.In-None c).At-loop-j in meant (row (goal.at.At-loop-j l).Start) (instant (row (goal.at.At-loop-j l).Start) l.loop-j.c) ≡ none
none_here c = label_is (goal.at.In-None c).After-cursor_label-label ∙ ap found c.in-None.is

pub loop-j-smaller : goal.loop-j-smaller
loop-j-smaller c =
    let l = (goal.at.loop-j-smaller c).At-loop-j in
    let s = (goal.at.At-loop-j l).Start in
    back-less (row s) (rules_own s) l.loop-j.c c.cursor_back-c.result l.loop-j.invariant (c.cursor_back-c.ensures (instant (row s) l.loop-j.c) l.loop-j.invariant.cursor) (none_here (goal.at.loop-j-smaller c).In-None)

pub loop-j-preserved : goal.loop-j-preserved
loop-j-preserved c =
    let l = (goal.at.loop-j-preserved c).At-loop-j in
    let s = (goal.at.At-loop-j l).Start in
    back_on (row s) (rules_own s) l.loop-j.c c.cursor_back-c.result l.loop-j.invariant (c.cursor_back-c.ensures (instant (row s) l.loop-j.c) l.loop-j.invariant.cursor) (none_here (goal.at.loop-j-preserved c).In-None)
