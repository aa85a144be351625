-- `parts::nearest_label` meets its contract: it is a walk over a gap.
-- Assumes nothing.
use borrow.Author.Rules.{rules}
use mathlib.Core.Path.{◌≡◌, sym, ◌∙◌, ap}
use mathlib.Core.Option.{none}
use lib.IntN.{ℤ}
use mir.Syntax.{w64}
use mir.Val.{to_z, of_z, SFits}
use Rattle.integers.proofs.Machine.{plain}
use Rattle.calendar.specs.Meaning.{Row, meant}
use Rattle.calendar.specs.Questions.{given}
use Rattle.granules.specs.Valid.{Valid}
use Rattle.cursors.specs.Found.{Sound, Near, found}
use Rattle.cursors.specs.Cursor.{cursor_at}
use Rattle.cursors.specs.Direction.{stepped}
use Rattle.cursors.proofs.Numbers.{numbers, valid}
use Rattle.cursors.proofs.Direction.{away-near}
use Rattle.containment.specs.Places.{instant}
use Rattle.containment.proofs.Places.{instant-is}
use Rattle.parts.specs.Walk.{Roomy}
use Rattle.parts.proofs.WalkGaps.{gap-start, gap-label, gap_step, gap-less}
use Rattle.parts.proofs.nearest_label.Goals as goal
use Rattle.parts.proofs.nearest_label.Goals.{After-cursor_label-label, After-cursor_step-c, At-loop-j, In-Some, Start as Start-place}

-- the row as the machine has it
abbrev Start : Type 0
Start = Start-place

abbrev P : Start → ℤ
P s = to_z w64 (of_z w64 s.args.period)

abbrev N : Start → ℤ
N s = to_z w64 (of_z w64 s.args.distance)

abbrev row : Start → Row
row s = given (P s) (N s) s.args.cells.now

sound : (s : Start) → Sound (P s) (N s) s.args.cells.now
sound s =
    let p = s.ranges.period in
    let d = s.ranges.distance in
    simp plain s.requires.sound

roomy : (s : Start) → Roomy (row s) s.args.from
roomy s =
    let p = s.ranges.period in
    let d = s.ranges.distance in
    simp plain s.requires.roomy

rules_own : (s : Start) → Valid (row s)
rules_own s = valid (P s) (N s) s.args.cells.now (sound s)

abbrev begin : Start → ℤ
begin s = instant (row s) s.args.from

pub loop-j-init : goal.loop-j-init
loop-j-init s = gap-start s.args.back (row s) (rules_own s) (begin s) s.args.from (roomy s).1

-- where the walk is
abbrev here : At-loop-j → ℤ
here c = instant (row (goal.at.At-loop-j c).Start) c.loop-j.c

near : (c : At-loop-j) → Near (here c)
near c =
    let s = (goal.at.At-loop-j c).Start in
    let n = numbers (P s) (N s) s.args.cells.now (sound s) in
    (away-near s.args.back _ _ _ (roomy s).0 n.high c.loop-j.invariant.low c.loop-j.invariant.high).0

pub cursor_label-label-requires : goal.cursor_label-label-requires
cursor_label-label-requires c = record { sound = sound (goal.at.cursor_label-label-requires c).Start; standing = (here c, near c, c.loop-j.invariant.cursor) }

label_is : (c : After-cursor_label-label) → meant (row (goal.at.After-cursor_label-label c).Start) (here (goal.at.After-cursor_label-label c).At-loop-j) ≡ found c.cursor_label-label.result
label_is c = sym (c.cursor_label-label.ensures (here (goal.at.After-cursor_label-label c).At-loop-j) c.loop-j.invariant.cursor)

-- a label
label-fits : (c : In-Some) → SFits w64 c.in-Some.j
label-fits c = search rules

pub returns-in-Some : goal.returns-in-Some
returns-in-Some c =
    let l = (goal.at.returns-in-Some c).After-cursor_label-label in
    let s = (goal.at.After-cursor_label-label l).Start in
    let p = s.ranges.period in
    let d = s.ranges.distance in
    let k = label-fits c in
    let x = gap-label s.args.back (row s) (rules_own s) (begin s) l.loop-j.c (here (goal.at.After-cursor_label-label l).At-loop-j) l.loop-j.invariant _ (label_is l ∙ ap found c.in-Some.is) in
    simp plain (simp plain at x)

-- none
pub cursor_step-c-requires : goal.cursor_step-c-requires
cursor_step-c-requires c = let l = (goal.at.cursor_step-c-requires c).At-loop-j in record { sound = sound (goal.at.At-loop-j l).Start; standing = (here l, near l, l.loop-j.invariant.cursor) }

abbrev next : After-cursor_step-c → ℤ
next c = instant (row (goal.at.After-cursor_step-c c).Start) c.cursor_step-c.result

moved : (c : After-cursor_step-c) → let l = (goal.at.After-cursor_step-c c).At-loop-j in c.cursor_step-c.result ≡ cursor_at (row (goal.at.At-loop-j l).Start) (stepped l.args.back (here l))
moved c = let l = (goal.at.After-cursor_step-c c).At-loop-j in c.cursor_step-c.ensures (here l) l.loop-j.invariant.cursor

next-is : (c : After-cursor_step-c) → next c ≡ stepped c.args.back (here (goal.at.After-cursor_step-c c).At-loop-j)
next-is c = let s = (goal.at.After-cursor_step-c c).Start in instant-is (row s) (rules_own s) c.cursor_step-c.result _ (moved c)

no_label : (c : After-cursor_step-c) → let l = (goal.at.After-cursor_step-c c).At-loop-j in meant (row (goal.at.At-loop-j l).Start) (here l) ≡ none
no_label c = label_is (goal.at.After-cursor_step-c c).After-cursor_label-label ∙ ap found c.in_default.is

pub loop-j-smaller : goal.loop-j-smaller
loop-j-smaller c =
    let l = (goal.at.loop-j-smaller c).At-loop-j in
    let s = (goal.at.At-loop-j l).Start in
    gap-less s.args.back (row s) (rules_own s) (begin s) l.loop-j.c (here l) l.loop-j.invariant (no_label c) c.cursor_step-c.result (next c) (moved c ∙ ap (cursor_at (row s)) (sym (next-is c))) (next-is c)

pub loop-j-preserved : goal.loop-j-preserved
loop-j-preserved c =
    let l = (goal.at.loop-j-preserved c).At-loop-j in
    let s = (goal.at.At-loop-j l).Start in
    gap_step s.args.back (row s) (rules_own s) (begin s) l.loop-j.c (here l) l.loop-j.invariant (no_label c) c.cursor_step-c.result (next c) (moved c ∙ ap (cursor_at (row s)) (sym (next-is c))) (next-is c)
