-- `alignment::changing::changes_with` meets its contract: it is a pass over the two rows from one change of b to the next.
-- Assumes nothing.
use mathlib.Core.Path.{◌≡◌, sym, ◌∙◌, ap, ap₂, subst}
use native.Mathlib.Omega.{arith}
use lib.IntN.{ℤ, pos, ◌+ℤ◌, ◌-ℤ◌}
use lib.Signed.{◌≤ℤ◌}
use mir.Facts.{to_z-of_z}
use mir.Syntax.{w64}
use mir.Val.{to_z, of_z}
use Rattle.integers.proofs.Linear.{ints, ◌∴◌}
use Rattle.integers.proofs.Machine.{plain, test-lt, test-not-lt}
use Rattle.calendar.specs.Limits.{pool_limit}
use Rattle.calendar.specs.Meaning.{Row, meant}
use Rattle.calendar.specs.Operation.Alignment.{partition}
use Rattle.calendar.specs.Lists.{same_label}
use Rattle.calendar.specs.Questions.{given}
use Rattle.granules.specs.Valid.{Valid}
use Rattle.cursors.specs.Found.{Sound, Near}
use Rattle.cursors.specs.Cursor.{cursor_at}
use Rattle.cursors.proofs.Numbers.{numbers, valid, read_as}
use Rattle.strides.specs.Changes.{Changes}
use Rattle.alignment.specs.Pass.{Spanned, Whole}
use Rattle.alignment.proofs.Read.{aligned-read}
use Rattle.alignment.proofs.Choices.{outcome}
use Rattle.alignment.proofs.Starts.{left_less}
use Rattle.alignment.proofs.Changes.{Reached, reached-start, change-beyond, change-alone, change-shared}
use Rattle.alignment.proofs.changing.changes_with.Goals as goal
use Rattle.alignment.proofs.changing.changes_with.Goals.{After-cursor_next-a, After-cursor_on-before, After-next_change-change, After-same, At-loop-t, Start as Start-place}

-- the rows and the span as the machine has them
abbrev Start : Type 0
Start = Start-place

abbrev a-row : Start → Row
a-row s = given (to_z w64 (of_z w64 s.args.a_period)) (to_z w64 (of_z w64 s.args.a_distance)) s.args.a_cells.now

abbrev b-row : Start → Row
b-row s = given (to_z w64 (of_z w64 s.args.b_period)) (to_z w64 (of_z w64 s.args.b_distance)) s.args.b_cells.now

abbrev S : Start → ℤ
S s = to_z w64 (of_z w64 s.args.span)

a-sound : (s : Start) → Sound (to_z w64 (of_z w64 s.args.a_period)) (to_z w64 (of_z w64 s.args.a_distance)) s.args.a_cells.now
a-sound s =
    let p = s.ranges.a_period in
    let n = s.ranges.a_distance in
    simp plain s.requires.sound

b-sound : (s : Start) → Sound (to_z w64 (of_z w64 s.args.b_period)) (to_z w64 (of_z w64 s.args.b_distance)) s.args.b_cells.now
b-sound s =
    let p = s.ranges.b_period in
    let n = s.ranges.b_distance in
    simp plain s.requires.sound_2

spanned : (s : Start) → Spanned (a-row s) (b-row s) (S s)
spanned s =
    let p = s.ranges.a_period in
    let n = s.ranges.a_distance in
    let q = s.ranges.b_period in
    let m = s.ranges.b_distance in
    let t = s.ranges.span in
    simp plain s.requires.spanned

a-whole : (s : Start) → Whole (a-row s)
a-whole s =
    let p = s.ranges.a_period in
    let n = s.ranges.a_distance in
    simp plain s.requires.whole

b-whole : (s : Start) → Whole (b-row s)
b-whole s =
    let p = s.ranges.b_period in
    let n = s.ranges.b_distance in
    simp plain s.requires.whole_2

a-rules : (s : Start) → Valid (a-row s)
a-rules s = valid (to_z w64 (of_z w64 s.args.a_period)) (to_z w64 (of_z w64 s.args.a_distance)) s.args.a_cells.now (a-sound s)

b-rules : (s : Start) → Valid (b-row s)
b-rules s = valid (to_z w64 (of_z w64 s.args.b_period)) (to_z w64 (of_z w64 s.args.b_distance)) s.args.b_cells.now (b-sound s)

pub cursor_at-a-requires : goal.cursor_at-a-requires
cursor_at-a-requires c = record { sound = a-sound c; near = simp ints (omega arith) }

pub cursor_at-b-requires : goal.cursor_at-b-requires
cursor_at-b-requires c = record { sound = b-sound (goal.at.cursor_at-b-requires c).Start; near = simp ints (omega arith) }

pub loop-t-init : goal.loop-t-init
loop-t-init c =
    let s = (goal.at.loop-t-init c).Start in
    (c.cursor_at-a.ensures, c.cursor_at-b.ensures, reached-start (a-row s) (b-row s) (a-rules s) (b-rules s) (a-whole s) (b-whole s))

-- ---- the next change of b
abbrev At : Type 0
At = At-loop-t

abbrev start : At → Start
start l = (goal.at.At-loop-t l).Start

abbrev at : At → ℤ
at l = to_z w64 l.loop-t.t-bits

-- the pass is within the span
within : (l : At) → (pos 0 ≤ℤ at l) × (at l ≤ℤ pos pool_limit)
within l =
    let s = spanned (start l) in
    let w = l.loop-t.invariant.2 in
    w.low ∴ w.high ∴ s.is-span ∴ s.at-most ∴ simp ints (omega arith)

pub next_change-change-requires : goal.next_change-change-requires
next_change-change-requires l = record { sound = b-sound (start l); shown = (at l, within l ∴ simp ints (omega arith), l.loop-t.invariant.1, b-whole (start l) (at l)) }

abbrev Turned : Type 0
Turned = After-next_change-change

-- how many instants on it is
abbrev steps : Turned → ℤ
steps c = c.next_change-change.result.steps

change : (c : Turned) → Changes (b-row (start (goal.at.After-next_change-change c).At-loop-t)) (at (goal.at.After-next_change-change c).At-loop-t) c.next_change-change.result
change c = c.next_change-change.ensures (at (goal.at.After-next_change-change c).At-loop-t) c.loop-t.invariant.1

few : (c : Turned) → (pos 1 ≤ℤ steps c) × (steps c ≤ℤ pos pool_limit)
few c =
    let s = start (goal.at.After-next_change-change c).At-loop-t in
    let n = numbers (to_z w64 (of_z w64 s.args.b_period)) (to_z w64 (of_z w64 s.args.b_distance)) s.args.b_cells.now (b-sound s) in
    n.high ∴ (change c).on ∴ (change c).near ∴ simp ints (omega arith)

read : (c : Turned) → to_z w64 (of_z w64 (steps c)) ≡ steps c
read c = to_z-of_z {w = w64} (few c ∴ simp ints (omega arith))

pub overflow_add-t : goal.overflow_add-t
overflow_add-t c =
    let d = (goal.at.overflow_add-t c).After-next_change-change in
    within (goal.at.After-next_change-change d).At-loop-t ∴ few d ∴ read d ∴ simp ints (omega arith)

-- the instant of the change, as the machine has it
abbrev next : Turned → ℤ
next c = to_z w64 (of_z w64 (at (goal.at.After-next_change-change c).At-loop-t +ℤ to_z w64 (of_z w64 (steps c))))

next-is : (c : Turned) → next c ≡ at (goal.at.After-next_change-change c).At-loop-t +ℤ steps c
next-is c = read_as {w = w64} {x = at (goal.at.After-next_change-change c).At-loop-t +ℤ to_z w64 (of_z w64 (steps c))} (ap (λ (z : ℤ). at (goal.at.After-next_change-change c).At-loop-t +ℤ z) (read c)) (within (goal.at.After-next_change-change c).At-loop-t ∴ few c ∴ simp ints (omega arith))

pub returns-then-t-span : goal.returns-then-t-span
returns-then-t-span c =
    let d = (goal.at.returns-then-t-span c).After-next_change-change in
    let l = (goal.at.After-next_change-change d).At-loop-t in
    let s = start l in
    let p = s.ranges.a_period in
    let n = s.ranges.a_distance in
    let q = s.ranges.b_period in
    let m = s.ranges.b_distance in
    let beyond = (test-lt (S s) (next d)).0 c.if-t-span.true in
    let e =
    change-beyond (a-row s) (b-row s) (a-rules s) (b-rules s) (a-whole s) (b-whole s) (at l) l.loop-t.invariant.2 d.next_change-change.result (change d)
    (beyond ∴ next-is d ∴ (spanned s).is-span ∴ simp ints (omega arith)) in
    sym (sym (aligned-read partition s.args.a_period s.args.a_distance s.args.b_period s.args.b_distance s.args.a_cells.now s.args.b_cells.now p n q m) ∙ e)

-- ---- a's labels there and at the instant before
-- how far that is
abbrev back : Turned → ℤ
back c = to_z w64 (of_z w64 (to_z w64 (of_z w64 (steps c)) -ℤ pos 1))

back_is : (c : Turned) → back c ≡ steps c -ℤ pos 1
back_is c = read_as {w = w64} {x = to_z w64 (of_z w64 (steps c)) -ℤ pos 1} (ap (λ (z : ℤ). z -ℤ pos 1) (read c)) (few c ∴ simp ints (omega arith))

pub overflow_sub-change : goal.overflow_sub-change
overflow_sub-change c =
    let d = (goal.at.overflow_sub-change c).After-next_change-change in
    few d ∴ read d ∴ simp ints (omega arith)

pub cursor_on-before-requires : goal.cursor_on-before-requires
cursor_on-before-requires c =
    let d = (goal.at.cursor_on-before-requires c).After-next_change-change in
    let l = (goal.at.After-next_change-change d).At-loop-t in
    let f = few d in
    let e = back_is d in
    record { sound = a-sound (start l); standing = (at l, within l ∴ simp ints (omega arith), l.loop-t.invariant.0); pos_bound = f ∴ e ∴ simp ints (omega arith) }

abbrev turned : After-cursor_on-before → Turned
turned c = (goal.at.After-cursor_on-before c).After-next_change-change

-- the instant before the change
abbrev last : Turned → ℤ
last c = at (goal.at.After-next_change-change c).At-loop-t +ℤ back c

last-near : (c : Turned) → Near (last c) × Near (last c +ℤ pos 1)
last-near c = within (goal.at.After-next_change-change c).At-loop-t ∴ few c ∴ back_is c ∴ simp ints (omega arith)

last-cursor : (c : After-cursor_on-before) → let d = turned c in c.cursor_on-before.result ≡ cursor_at (a-row (start (goal.at.After-next_change-change d).At-loop-t)) (last d)
last-cursor c = let l = (turned c).before in c.cursor_on-before.ensures (at l) l.loop-t.invariant.0

pub cursor_label-o-requires : goal.cursor_label-o-requires
cursor_label-o-requires c = let d = turned c in record { sound = a-sound (start (goal.at.After-next_change-change d).At-loop-t); standing = (last d, (last-near d).0, last-cursor c) }

pub cursor_next-a-requires : goal.cursor_next-a-requires
cursor_next-a-requires c = let h = cursor_label-o-requires (goal.at.cursor_next-a-requires c).After-cursor_on-before in record { sound = h.sound; standing = h.standing }

next-cursor : (c : After-cursor_next-a) → let d = turned (goal.at.After-cursor_next-a c).After-cursor_on-before in c.cursor_next-a.result ≡ cursor_at (a-row (start (goal.at.After-next_change-change d).At-loop-t)) (last d +ℤ pos 1)
next-cursor c = let o = (goal.at.After-cursor_next-a c).After-cursor_on-before in c.cursor_next-a.ensures (last (turned o)) (last-cursor o)

pub cursor_label-x-requires : goal.cursor_label-x-requires
cursor_label-x-requires c = let d = turned (goal.at.cursor_label-x-requires c).After-cursor_on-before in record { sound = a-sound (start (goal.at.After-next_change-change d).At-loop-t); standing = (last d +ℤ pos 1, (last-near d).1, next-cursor c) }

-- whether they are the same
abbrev Compared : Type 0
Compared = After-same

abbrev on : Compared → After-cursor_on-before
on c = (goal.at.After-same c).After-cursor_on-before

same-is : (c : Compared) → let d = turned (on c) in let r = a-row (start (goal.at.After-next_change-change d).At-loop-t) in c.same.result ≡ same_label (meant r (last d)) (meant r (last d +ℤ pos 1))
same-is c =
    let n = (goal.at.After-same c).After-cursor_next-a in
    let d = turned (on c) in
    c.same.ensures ∙ ap₂ same_label (n.cursor_label-o.ensures (last d) (last-cursor (on c))) (c.cursor_label-x.ensures (last d +ℤ pos 1) (next-cursor n))

-- the change is within the span
inner : (c : Compared) → let d = turned (on c) in next d ≤ℤ S (start (goal.at.After-next_change-change d).At-loop-t)
inner c = let d = turned (on c) in (test-not-lt (S (start (goal.at.After-next_change-change d).At-loop-t)) (next d)).0 c.if-t-span.false

there : (c : Turned) → next c ≡ last c +ℤ pos 1
there c = next-is c ∴ back_is c ∴ simp ints (omega arith)

pub returns-then-same : goal.returns-then-same
returns-then-same c =
    let d = turned (on (goal.at.returns-then-same c).After-same) in
    let l = (goal.at.After-next_change-change d).At-loop-t in
    let s = start l in
    let p = s.ranges.a_period in
    let n = s.ranges.a_distance in
    let q = s.ranges.b_period in
    let m = s.ranges.b_distance in
    let e =
    change-alone (a-row s) (b-row s) (a-rules s) (b-rules s) (a-whole s) (b-whole s) (at l) l.loop-t.invariant.2 d.next_change-change.result (change d)
    (last d) (last d +ℤ pos 1) (back_is d ∴ simp ints (omega arith)) (simp ints (omega arith)) (inner (goal.at.returns-then-same c).After-same ∴ there d ∴ (spanned s).is-span ∴ simp ints (omega arith))
    (outcome (same-is (goal.at.returns-then-same c).After-same) c.if-same.true) in
    sym (sym (aligned-read partition s.args.a_period s.args.a_distance s.args.b_period s.args.b_distance s.args.a_cells.now s.args.b_cells.now p n q m) ∙ e)

-- ---- on from the change
pub loop-t-smaller : goal.loop-t-smaller
loop-t-smaller c =
    let k = (goal.at.loop-t-smaller c).After-same in
    let d = turned (on k) in
    let l = (goal.at.After-next_change-change d).At-loop-t in
    left_less (S (start l)) (at l) (next d) (next-is d ∴ few d ∴ simp ints (omega arith)) (inner k ∴ next-is d ∴ few d ∴ simp ints (omega arith))

pub loop-t-preserved : goal.loop-t-preserved
loop-t-preserved c =
    let k = (goal.at.loop-t-preserved c).After-same in
    let d = turned (on k) in
    let l = (goal.at.After-next_change-change d).At-loop-t in
    let s = start l in
    let w =
    change-shared (a-row s) (b-row s) (a-rules s) (b-rules s) (a-whole s) (b-whole s) (at l) l.loop-t.invariant.2 d.next_change-change.result (change d)
    (last d) (last d +ℤ pos 1) (back_is d ∴ simp ints (omega arith)) (simp ints (omega arith)) (inner k ∴ there d ∴ (spanned s).is-span ∴ simp ints (omega arith))
    (outcome (same-is k) c.if-same.false) in (
      next-cursor (goal.at.After-same k).After-cursor_next-a ∙ ap (cursor_at (a-row s)) (sym (there d)),
      (change d).cursor ∙ ap (cursor_at (b-row s)) (sym (next-is d)),
      subst (Reached (a-row s) (b-row s)) (sym (there d)) w,
    )
