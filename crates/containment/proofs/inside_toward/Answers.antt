-- `containment::inside_toward` meets its contract: it is a walk back or on.
-- Assumes nothing.
use mathlib.Core.Path.{◌≡◌, refl, sym, ◌∙◌}
use mir.Syntax.{w64}
use mir.Val.{to_z, of_z}
use Rattle.integers.proofs.Machine.{plain}
use Rattle.calendar.specs.Meaning.{Row}
use Rattle.calendar.specs.Questions.{given}
use Rattle.granules.specs.Valid.{Valid}
use Rattle.cursors.specs.Found.{Sound, Near}
use Rattle.cursors.specs.Direction.{stepped}
use Rattle.cursors.proofs.Numbers.{numbers, valid}
use Rattle.cursors.proofs.Direction.{away-near}
use Rattle.containment.specs.declared.CursorPair.{CursorPair}
use Rattle.containment.specs.Places.{at, step_at}
use Rattle.containment.specs.Sides.{Overlaps}
use Rattle.containment.proofs.Places.{Moved, moved-beside}
use Rattle.containment.proofs.Walks.{toward-start, toward-on, toward-done, toward-out, toward-less}
use Rattle.containment.proofs.inside_toward.Goals as goal
use Rattle.containment.proofs.inside_toward.Goals.{After-cursor_step-arg-1, After-cursor_step-next, After-cursor_step-next-in-loop, After-step_at-step, At-loop, Start as Start-place}

-- the rows as the machine has them
abbrev Start : Type 0
Start = Start-place

abbrev b-row : Start → Row
b-row s = given (to_z w64 (of_z w64 s.args.b_period)) (to_z w64 (of_z w64 s.args.b_distance)) s.args.b_cells.now

abbrev a-row : Start → Row
a-row s = given (to_z w64 (of_z w64 s.args.a_period)) (to_z w64 (of_z w64 s.args.a_distance)) s.args.a_cells.now

b-sound : (s : Start) → Sound (to_z w64 (of_z w64 s.args.b_period)) (to_z w64 (of_z w64 s.args.b_distance)) s.args.b_cells.now
b-sound s =
    let p = s.ranges.b_period in
    let n = s.ranges.b_distance in
    simp plain s.requires.sound

a-sound : (s : Start) → Sound (to_z w64 (of_z w64 s.args.a_period)) (to_z w64 (of_z w64 s.args.a_distance)) s.args.a_cells.now
a-sound s =
    let p = s.ranges.a_period in
    let n = s.ranges.a_distance in
    simp plain s.requires.sound_2

overlaps : (s : Start) → Overlaps (b-row s) (a-row s) s.args.from
overlaps s =
    let p = s.ranges.b_period in
    let n = s.ranges.b_distance in
    let q = s.ranges.a_period in
    let m = s.ranges.a_distance in
    simp plain s.requires.overlaps

rules_own : (s : Start) → Valid (b-row s)
rules_own s = valid (to_z w64 (of_z w64 s.args.b_period)) (to_z w64 (of_z w64 s.args.b_distance)) s.args.b_cells.now (b-sound s)

pub loop-init : goal.loop-init
loop-init s = toward-start s.args.back (b-row s) (a-row s) (rules_own s) s.args.from (overlaps s)

-- where the walk is
near : (c : At-loop) → let u = at (b-row (goal.at.At-loop c).Start) c.loop.next in Near u × Near (stepped c.args.back u)
near c =
    let s = (goal.at.At-loop c).Start in
    let n = numbers (to_z w64 (of_z w64 s.args.b_period)) (to_z w64 (of_z w64 s.args.b_distance)) s.args.b_cells.now (b-sound s) in
    away-near s.args.back _ _ _ ((overlaps s).low, (overlaps s).high) n.high c.loop.invariant.walk.low c.loop.invariant.walk.high

pub cursor_step-next-requires : goal.cursor_step-next-requires
cursor_step-next-requires c = let s = (goal.at.cursor_step-next-requires c).Start in record { sound = b-sound s; standing = (at (b-row s) c.loop.next, (near (goal.at.cursor_step-next-requires c).At-loop).0, c.loop.invariant.walk.cursor) }

pub cursor_step-next-requires-in-loop : goal.cursor_step-next-requires-in-loop
cursor_step-next-requires-in-loop c = let s = (goal.at.cursor_step-next-requires-in-loop c).Start in record { sound = a-sound s; standing = (at (b-row s) c.loop.next, (near (goal.at.cursor_step-next-requires-in-loop c).At-loop).0, c.loop.invariant.beside) }

-- where it goes
abbrev there : After-cursor_step-next-in-loop → CursorPair
there c = let p = c.loop.next in record { b = c.cursor_step-next.result; k = p.k; a = c.cursor_step-next-in-loop.result; i = p.i }

moved : (c : After-cursor_step-next-in-loop) → let s = (goal.at.After-cursor_step-next-in-loop c).Start in Moved (b-row s) (a-row s) c.loop.next (there c) (stepped c.args.back (at (b-row s) c.loop.next))
moved c =
    let u = at (b-row (goal.at.After-cursor_step-next-in-loop c).Start) c.loop.next in
    record { b-cursor = c.cursor_step-next.ensures u c.loop.invariant.walk.cursor; a-cursor = c.cursor_step-next-in-loop.ensures u c.loop.invariant.beside; k-kept = refl; i-kept = refl }

pub step_at-step-requires : goal.step_at-step-requires
step_at-step-requires c =
    let d = (goal.at.step_at-step-requires c).After-cursor_step-next-in-loop in
    let s = (goal.at.step_at-step-requires c).Start in
    record { sound = b-sound s; sound_2 = a-sound s; beside = moved-beside (b-row s) (a-row s) (rules_own s) c.loop.next (there d) _ (moved d) (near (goal.at.step_at-step-requires c).At-loop).1 }

said : (c : After-step_at-step) → let s = (goal.at.After-step_at-step c).Start in step_at (b-row s) (a-row s) (there (goal.at.After-step_at-step c).After-cursor_step-next-in-loop) ≡ c.step_at-step.result
said c = sym c.step_at-step.ensures

pub loop-smaller : goal.loop-smaller
loop-smaller c =
    let d = (goal.at.loop-smaller c).After-cursor_step-next-in-loop in
    let s = (goal.at.After-cursor_step-next-in-loop d).Start in
    toward-less s.args.back (b-row s) (a-row s) (rules_own s) s.args.from c.loop.next (there d) c.loop.invariant (moved d)

pub loop-preserved : goal.loop-preserved
loop-preserved c =
    let d = (goal.at.loop-preserved c).After-cursor_step-next-in-loop in
    let s = (goal.at.After-cursor_step-next-in-loop d).Start in
    toward-on s.args.back (b-row s) (a-row s) (rules_own s) s.args.from c.loop.next (there d) c.loop.invariant (moved d) (said (goal.at.loop-preserved c).After-step_at-step ∙ c.in-On.is)

pub returns-in-Done : goal.returns-in-Done
returns-in-Done c =
    let d = (goal.at.returns-in-Done c).After-cursor_step-next-in-loop in
    let s = (goal.at.After-cursor_step-next-in-loop d).Start in
    let p = s.ranges.b_period in
    let n = s.ranges.b_distance in
    let q = s.ranges.a_period in
    let m = s.ranges.a_distance in
    let e = toward-done s.args.back (b-row s) (a-row s) (rules_own s) s.args.from c.loop.next (there d) c.loop.invariant (moved d) (said (goal.at.returns-in-Done c).After-step_at-step ∙ c.in-Done.is) in
    sym (simp plain at e)

pub returns-in-Out : goal.returns-in-Out
returns-in-Out c =
    let d = (goal.at.returns-in-Out c).After-cursor_step-next-in-loop in
    let s = (goal.at.After-cursor_step-next-in-loop d).Start in
    let p = s.ranges.b_period in
    let n = s.ranges.b_distance in
    let q = s.ranges.a_period in
    let m = s.ranges.a_distance in
    let e = toward-out s.args.back (b-row s) (a-row s) (rules_own s) s.args.from c.loop.next (there d) c.loop.invariant (moved d) (said (goal.at.returns-in-Out c).After-step_at-step ∙ c.in-Out.is) in
    sym (simp plain at e)
