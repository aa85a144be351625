-- `granule_ends::place` meets its contract: it is a walk back that counts.
-- Assumes nothing.
use borrow.Author.Rules.{rules}
use mathlib.Core.Path.{◌≡◌, sym, ◌∙◌, ap}
use mathlib.Core.Option.{some}
use mathlib.Core.Bool.{true}
use Prim.Native.Nat.{ℕ, ◌<◌, ◌^◌}
use native.Mathlib.Omega.{arith}
use lib.IntN.{ℤ, pos, ◌-ℤ◌}
use mir.Facts.{to_z-of_z}
use mir.Syntax.{w64}
use mir.Val.{to_z, of_z, SFits}
use Rattle.integers.specs.Parts.{up}
use Rattle.integers.proofs.Linear.{ints, ◌∴◌}
use Rattle.calendar.specs.Meaning.{Row, meant}
use Rattle.calendar.specs.Questions.{given, place}
use Rattle.granules.specs.Valid.{Valid}
use Rattle.cursors.specs.Found.{Sound, Within, Near, found}
use Rattle.cursors.specs.Cursor.{cursor_at}
use Rattle.cursors.proofs.Numbers.{numbers, valid}
use Rattle.cursors.proofs.Direction.{away-near}
use Rattle.granule_ends.proofs.Inputs.{read, read-sound, read-within, read-holds}
use Rattle.granule_ends.proofs.Walks.{left, walk-less}
use Rattle.granule_ends.proofs.Places.{placing-start, placing-past, placing-to, placing-end}
use Rattle.granule_ends.proofs.place.Goals as goal
use Rattle.granule_ends.proofs.place.Goals.{After-cursor_back-c, After-cursor_label-label, After-cursor_label-own, At-loop-k, In-Some, In-Some-label, Start as Start-place}

-- the numbers as the machine has them
abbrev Start : Type 0
Start = Start-place

abbrev P : Start → ℤ
P c = read c.args.period

abbrev N : Start → ℤ
N c = read c.args.distance

abbrev T : Start → ℤ
T c = read c.args.t

abbrev row : Start → Row
row c = given (P c) (N c) c.args.cells.now

sound : (c : Start) → Sound (P c) (N c) c.args.cells.now
sound c = read-sound c.args.cells.now c.ranges.period c.ranges.distance c.requires.sound

rules_own : (c : Start) → Valid (row c)
rules_own c = valid (P c) (N c) c.args.cells.now (sound c)

near-start : (c : Start) → Within (2 ^ 59) (T c)
near-start c = read-within c.ranges.t c.requires.labelled.1

near : (c : Start) → Near (T c)
near c = near-start c ∴ simp ints (omega arith)

pub cursor_at-c-requires : goal.cursor_at-c-requires
cursor_at-c-requires c = record { sound = sound c; near = near c }

pub cursor_label-own-requires : goal.cursor_label-own-requires
cursor_label-own-requires c = record { sound = sound (goal.at.cursor_label-own-requires c).Start; standing = (T (goal.at.cursor_label-own-requires c).Start, near (goal.at.cursor_label-own-requires c).Start, c.cursor_at-c.ensures) }

-- the label of t
own-fits : (c : In-Some) → SFits w64 c.in-Some.j
own-fits c = search rules

own-label : (c : In-Some) → meant (row (goal.at.In-Some c).Start) (T (goal.at.In-Some c).Start) ≡ some (to_z w64 (of_z w64 c.in-Some.j))
own-label c =
    let l = (goal.at.In-Some c).After-cursor_label-own in
    let s = (goal.at.After-cursor_label-own l).Start in
    sym (l.cursor_label-own.ensures (T s) l.cursor_at-c.ensures) ∙ ap found c.in-Some.is ∙ ap some (sym (to_z-of_z (own-fits c)))

pub loop-k-init : goal.loop-k-init
loop-k-init c =
    let s = (goal.at.loop-k-init c).Start in
    placing-start (row s) (rules_own s) (T s) _ _ c.cursor_at-c.ensures (own-label c)

-- where the walk is
abbrev begun : At-loop-k → Start
begun c = (goal.at.At-loop-k c).Start

abbrev here : At-loop-k → ℤ
here c = to_z w64 c.loop-k.at-bits

-- and where it goes
abbrev there : At-loop-k → ℤ
there c = here c -ℤ pos 1

near-walk : (c : At-loop-k) → Near (here c) × Near (there c)
near-walk c =
    let s = begun c in
    let n = numbers (P s) (N s) s.args.cells.now (sound s) in
    let w = c.loop-k.invariant.walk in
    away-near true (T s) (here c) (up (P s)) (near-start s) n.high w.low w.high

pub cursor_back-c-requires : goal.cursor_back-c-requires
cursor_back-c-requires c = record { sound = sound (begun c); standing = (here c, (near-walk c).0, c.loop-k.invariant.walk.cursor) }

pub overflow_sub-at : goal.overflow_sub-at
overflow_sub-at c = (near-walk (goal.at.overflow_sub-at c).At-loop-k).1 ∴ simp ints (omega arith)

moved : (c : After-cursor_back-c) → c.cursor_back-c.result ≡ cursor_at (row (begun (goal.at.After-cursor_back-c c).At-loop-k)) (there (goal.at.After-cursor_back-c c).At-loop-k)
moved c = c.cursor_back-c.ensures (here (goal.at.After-cursor_back-c c).At-loop-k) c.loop-k.invariant.walk.cursor

pub cursor_label-label-requires : goal.cursor_label-label-requires
cursor_label-label-requires c = let l = (goal.at.cursor_label-label-requires c).At-loop-k in record { sound = sound (begun l); standing = (there l, (near-walk l).1, moved c) }

-- the next instant of the walk, as the machine has it, with its cursor and its label
abbrev at-loop : After-cursor_label-label → At-loop-k
at-loop d = (goal.at.After-cursor_label-label d).At-loop-k

abbrev start : After-cursor_label-label → Start
start d = begun (at-loop d)

abbrev instant : After-cursor_label-label → ℤ
instant d = read (there (at-loop d))

instant-is : (d : After-cursor_label-label) → instant d ≡ there (at-loop d)
instant-is d = to_z-of_z (overflow_sub-at (goal.at.After-cursor_label-label d).After-cursor_back-c)

cursor-is : (d : After-cursor_label-label) → d.cursor_back-c.result ≡ cursor_at (row (start d)) (instant d)
cursor-is d = moved (goal.at.After-cursor_label-label d).After-cursor_back-c ∙ ap (cursor_at (row (start d))) (sym (instant-is d))

label_is : (d : After-cursor_label-label) → meant (row (start d)) (instant d) ≡ found d.cursor_label-label.result
label_is d = ap (meant (row (start d))) (instant-is d) ∙ sym (d.cursor_label-label.ensures (there (at-loop d)) (moved (goal.at.After-cursor_label-label d).After-cursor_back-c))

-- where it has one
label-fits : (c : In-Some-label) → SFits w64 c.in-Some-label.k
label-fits c = search rules

label-some : (c : In-Some-label) → meant (row (start (goal.at.In-Some-label c).After-cursor_label-label)) (instant (goal.at.In-Some-label c).After-cursor_label-label) ≡ some (to_z w64 (of_z w64 c.in-Some-label.k))
label-some c =
    label_is (goal.at.In-Some-label c).After-cursor_label-label
    ∙ ap found c.in-Some-label.is
    ∙ ap some (sym (to_z-of_z (label-fits c)))

pub returns-then-k-j : goal.returns-then-k-j
returns-then-k-j c j e =
    let d = (goal.at.returns-then-k-j c).After-cursor_label-label in
    let s = start d in
    let b = (at-loop d).loop-k.invariant in
    let k = label-fits (goal.at.returns-then-k-j c).In-Some-label in
    let o = own-fits (goal.at.At-loop-k (at-loop d)).In-Some in
    let f =
    placing-end (row s) (rules_own s) (T s) _ _ _ _ (instant d) _ b (cursor-is d) (instant-is d) _ (label-some (goal.at.returns-then-k-j c).In-Some-label)
    (λ q. c.if-k-j.true (ap (of_z w64) (sym (to_z-of_z k) ∙ q ∙ to_z-of_z o))) in
    read-holds s.args.cells.now s.ranges.period s.ranges.distance s.ranges.t (λ r u i. (at-loop d).loop-k.count ≡ place r i u) f b.walk.own e

pub overflow_add-count : goal.overflow_add-count
overflow_add-count c =
    let d = (goal.at.overflow_add-count c).After-cursor_label-label in
    let s = start d in
    let n = numbers (P s) (N s) s.args.cells.now (sound s) in
    let b = (at-loop d).loop-k.invariant in
    b.few ∴ b.walk.high ∴ n.high ∴ simp ints (omega arith)

less : (d : After-cursor_label-label) → let s = start d in left true (up (P s)) (T s) (instant d) < left true (up (P s)) (T s) (here (at-loop d))
less d = walk-less (row (start d)) (rules_own (start d)) true (T (start d)) _ _ _ _ (instant d) _ (at-loop d).loop-k.invariant.walk (cursor-is d) (instant-is d)

pub loop-k-smaller-in-Some-label : goal.loop-k-smaller-in-Some-label
loop-k-smaller-in-Some-label c = less (goal.at.loop-k-smaller-in-Some-label c).After-cursor_label-label

pub loop-k-preserved-in-Some-label : goal.loop-k-preserved-in-Some-label
loop-k-preserved-in-Some-label c =
    let d = (goal.at.loop-k-preserved-in-Some-label c).After-cursor_label-label in
    let s = start d in
    placing-to (row s) (rules_own s) (T s) _ _ _ _ (instant d) _ (at-loop d).loop-k.invariant (cursor-is d) (instant-is d) (label-some (goal.at.loop-k-preserved-in-Some-label c).In-Some-label ∙ ap (λ (n : ℕ). some (to_z w64 n)) c.if-k-j.false)

pub loop-k-smaller : goal.loop-k-smaller
loop-k-smaller c = less (goal.at.loop-k-smaller c).After-cursor_label-label

pub loop-k-preserved : goal.loop-k-preserved
loop-k-preserved c =
    let d = (goal.at.loop-k-preserved c).After-cursor_label-label in
    let s = start d in
    placing-past (row s) (rules_own s) (T s) _ _ _ _ (instant d) _ (at-loop d).loop-k.invariant (cursor-is d) (instant-is d) (label_is d ∙ ap found c.in-None.is)
