-- `alter_granules::behind::seek` meets its contract: labels never fall, so the first that is not below j is j.
-- Assumes nothing.
use mathlib.Core.Path.{◌≡◌, refl, sym, ◌∙◌, ap}
use mathlib.Core.Bool.{false}
use native.Mathlib.Omega.{arith}
use lib.IntN.{ℤ, pos}
use mir.Syntax.{w64}
use mir.Val.{to_z, of_z}
use Rattle.integers.proofs.Linear.{ints, ◌∴◌}
use Rattle.integers.proofs.Machine.{plain}
use Rattle.calendar.specs.Meaning.{Row, meant}
use Rattle.calendar.specs.Questions.{given}
use Rattle.granules.specs.Valid.{Valid}
use Rattle.cursors.specs.Found.{Sound, Near}
use Rattle.cursors.proofs.Numbers.{valid}
use Rattle.alter_granules.specs.declared.behind.Instant.{Instant}
use Rattle.alter_granules.specs.Follows.{at_least}
use Rattle.alter_granules.proofs.Sought.{seek-ends, seek-past, seek-near, seek-left}
use Rattle.alter_granules.proofs.behind.seek.Goals as goal
use Rattle.alter_granules.proofs.behind.seek.Goals.{After-at_least, At-loop-cursor, Else-at_least, Start as Start-place}

-- the row and j as the machine has them
abbrev Start : Type 0
Start = Start-place

abbrev row : Start → Row
row s = given (to_z w64 (of_z w64 s.args.period)) (to_z w64 (of_z w64 s.args.distance)) s.args.cells.now

abbrev J : Start → ℤ
J s = to_z w64 (of_z w64 s.args.j)

sound : (s : Start) → Sound (to_z w64 (of_z w64 s.args.period)) (to_z w64 (of_z w64 s.args.distance)) s.args.cells.now
sound s =
    let p = s.ranges.period in
    let n = s.ranges.distance in
    simp plain s.requires.sound

rules_own : (s : Start) → Valid (row s)
rules_own s = valid (to_z w64 (of_z w64 s.args.period)) (to_z w64 (of_z w64 s.args.distance)) s.args.cells.now (sound s)

pub loop-cursor-init : goal.loop-cursor-init
loop-cursor-init c =
    let s = (goal.at.loop-cursor-init c).Start in
    let p = s.ranges.period in
    let n = s.ranges.distance in
    let j = s.ranges.j in
    simp plain s.requires.seeks

-- where the walk is
abbrev begun : At-loop-cursor → Start
begun c = (goal.at.At-loop-cursor c).Start

abbrev here : At-loop-cursor → Instant
here c = record { index = c.loop-cursor.index; cursor = c.loop-cursor.cursor }

near : (c : At-loop-cursor) → Near (pos c.loop-cursor.index)
near c = seek-near (row (begun c)) (rules_own (begun c)) (J (begun c)) (here c) c.loop-cursor.invariant ∴ simp ints (omega arith)

pub cursor_label-label-requires : goal.cursor_label-label-requires
cursor_label-label-requires c = record { sound = sound (begun c); standing = (pos c.loop-cursor.index, near c, c.loop-cursor.invariant.cursor) }

-- the test of its label
test : (c : After-at_least) → let l = (goal.at.After-at_least c).At-loop-cursor in c.at_least.result ≡ at_least (J (begun l)) (meant (row (begun l)) (pos l.loop-cursor.index))
test c =
    let l = (goal.at.After-at_least c).At-loop-cursor in
    c.at_least.ensures ∙ ap (at_least (J (begun l))) (c.cursor_label-label.ensures (pos l.loop-cursor.index) l.loop-cursor.invariant.cursor)

pub returns-then-at_least : goal.returns-then-at_least
returns-then-at_least c =
    let d = (goal.at.returns-then-at_least c).After-at_least in
    let l = (goal.at.After-at_least d).At-loop-cursor in
    let s = begun l in
    let p = s.ranges.period in
    let n = s.ranges.distance in
    let j = s.ranges.j in
    let e = seek-ends (row s) (rules_own s) (J s) (here l) l.loop-cursor.invariant (sym (test d) ∙ c.if-at_least.true) in
    record { cursor = simp plain at l.loop-cursor.invariant.cursor; label = simp plain at e }

-- the label is below j
not_yet : (c : Else-at_least) → let l = (goal.at.Else-at_least c).At-loop-cursor in at_least (J (begun l)) (meant (row (begun l)) (pos l.loop-cursor.index)) ≡ false
not_yet c = sym (test (goal.at.Else-at_least c).After-at_least) ∙ c.if-at_least.false

pub cursor_next-cursor-requires : goal.cursor_next-cursor-requires
cursor_next-cursor-requires c =
    let l = (goal.at.cursor_next-cursor-requires c).At-loop-cursor in
    record { sound = sound (begun l); standing = (pos l.loop-cursor.index, near l, l.loop-cursor.invariant.cursor) }

pub overflow_add-index : goal.overflow_add-index
overflow_add-index c =
    let d = (goal.at.overflow_add-index c).Else-at_least in
    let l = (goal.at.Else-at_least d).At-loop-cursor in
    omega (arith, seek-left (row (begun l)) (rules_own (begun l)) (J (begun l)) (here l) l.loop-cursor.invariant (not_yet d))

pub loop-cursor-smaller : goal.loop-cursor-smaller
loop-cursor-smaller c =
    let d = (goal.at.loop-cursor-smaller c).Else-at_least in
    let l = (goal.at.Else-at_least d).At-loop-cursor in
    omega (arith, seek-left (row (begun l)) (rules_own (begun l)) (J (begun l)) (here l) l.loop-cursor.invariant (not_yet d))

pub loop-cursor-preserved : goal.loop-cursor-preserved
loop-cursor-preserved c =
    let d = (goal.at.loop-cursor-preserved c).Else-at_least in
    let l = (goal.at.Else-at_least d).At-loop-cursor in
    let s = begun l in
    seek-past (row s) (rules_own s) (J s) (here l) l.loop-cursor.invariant _ refl (c.cursor_next-cursor.ensures (pos l.loop-cursor.index) l.loop-cursor.invariant.cursor) (not_yet d)
