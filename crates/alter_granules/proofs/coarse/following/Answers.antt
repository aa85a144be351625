-- `alter_granules::coarse::following` meets its contract: it is a stride on to the next instant with another label of b.
-- Assumes nothing.
use borrow.Author.Rules.{sfits_of}
use mathlib.Core.Path.{◌≡◌, refl, ◌∙◌, ap}
use mathlib.Core.Option.{some}
use Prim.Native.Nat.{◌^◌}
use native.Mathlib.Omega.{arith}
use lib.IntN.{ℤ, pos, ◌+ℤ◌}
use lib.Signed.{◌≤ℤ◌}
use mir.Facts.{to_z-of_z}
use mir.Syntax.{w64}
use mir.Val.{to_z, of_z, SFits}
use Rattle.integers.proofs.Linear.{ints, ◌∴◌}
use Rattle.integers.proofs.Machine.{plain}
use Rattle.calendar.specs.Limits.{pool_limit}
use Rattle.calendar.specs.Meaning.{Row, meant}
use Rattle.calendar.specs.Questions.{given}
use Rattle.cursors.specs.Found.{Sound, Near, Within}
use Rattle.cursors.specs.Cursor.{cursor_at}
use Rattle.cursors.proofs.Numbers.{numbers, valid}
use Rattle.algebra.proofs.Fine.{Partitioned}
use Rattle.strides.specs.Changes.{Changes}
use Rattle.alter_granules.specs.declared.coarse.Begin.{Begin}
use Rattle.alter_granules.specs.CoarseBegins.{at, CoarseBegins}
use Rattle.alter_granules.proofs.Beginnings.{Next, next-begins}
use Rattle.alter_granules.proofs.coarse.following.Goals as goal
use Rattle.alter_granules.proofs.coarse.following.Goals.{After-cursor_on-a, After-label_of-i, After-next_change-change, Start}

-- the rows as the machine has them
abbrev a-row : Start → Row
a-row s = given (to_z w64 (of_z w64 s.args.a_period)) (to_z w64 (of_z w64 s.args.a_distance)) s.args.a_cells.now

abbrev b-row : Start → Row
b-row s = given (to_z w64 (of_z w64 s.args.b_period)) (to_z w64 (of_z w64 s.args.b_distance)) s.args.b_cells.now

a-sound : (s : Start) → Sound (to_z w64 (of_z w64 s.args.a_period)) (to_z w64 (of_z w64 s.args.a_distance)) s.args.a_cells.now
a-sound s =
    let p = s.ranges.a_period in
    let n = s.ranges.a_distance in
    simp plain s.requires.sound

b-sound : (s : Start) → Sound (to_z w64 (of_z w64 s.args.b_period)) (to_z w64 (of_z w64 s.args.b_distance)) s.args.b_cells.now
b-sound s =
    let p = s.ranges.b_period in
    let n = s.ranges.b_distance in
    simp plain s.requires.sound_2

-- what is required of them and of where the stride starts
record Asked (a b : Row) (c : Begin) : Type 0 where
  known : Partitioned a b
  begun : CoarseBegins a b c
  within : Within (2 ^ 58) (at b c)

asked : (s : Start) → Asked (a-row s) (b-row s) s.args.c
asked s =
    let p = s.ranges.a_period in
    let n = s.ranges.a_distance in
    let q = s.ranges.b_period in
    let m = s.ranges.b_distance in
    let v = valid s.args.a_period s.args.a_distance s.args.a_cells.now s.requires.sound in
    let w = valid s.args.b_period s.args.b_distance s.args.b_cells.now s.requires.sound_2 in
    let r = s.requires in
    simp plain (record { known = record { valid = (v, w); full = r.full; partition = r.partition }; begun = r.coarse_begins; within = r.within })

abbrev from : Start → ℤ
from s = at (b-row s) s.args.c

near : (s : Start) → Near (from s)
near s = (asked s).within ∴ simp ints (omega arith)

pub next_change-change-requires : goal.next_change-change-requires
next_change-change-requires c = let s = (goal.at.next_change-change-requires c).Start in record { sound = b-sound s; shown = (from s, near s, (asked s).begun.b-cursor, (_, (asked s).begun.b-label)) }

-- the next instant with another label of b
abbrev start : After-next_change-change → Start
start c = (goal.at.After-next_change-change c).Start

changed : (c : After-next_change-change) → Changes (b-row (start c)) (from (start c)) c.next_change-change.result
changed c = c.next_change-change.ensures (from (start c)) (asked (start c)).begun.b-cursor

few : (c : After-next_change-change) → (pos 1 ≤ℤ c.next_change-change.result.steps) × (c.next_change-change.result.steps ≤ℤ pos pool_limit)
few c =
    let s = start c in
    let n = numbers (to_z w64 (of_z w64 s.args.b_period)) (to_z w64 (of_z w64 s.args.b_distance)) s.args.b_cells.now (b-sound s) in
    (changed c).on ∴ (changed c).near ∴ n.high ∴ simp ints (omega arith)

steps-are : (c : After-next_change-change) → to_z w64 (of_z w64 c.next_change-change.result.steps) ≡ c.next_change-change.result.steps
steps-are c = to_z-of_z {w = w64} (few c ∴ simp ints (omega arith))

abbrev there : After-next_change-change → ℤ
there c = from (start c) +ℤ c.next_change-change.result.steps

near-there : (c : After-next_change-change) → Near (there c)
near-there c = (asked (start c)).within ∴ few c ∴ simp ints (omega arith)

pub cursor_on-a-requires : goal.cursor_on-a-requires
cursor_on-a-requires c =
    let n = (goal.at.cursor_on-a-requires c).After-next_change-change in
    let s = start n in
    record {
      sound = a-sound s;
      standing = (from s, near s, (asked s).begun.a-cursor);
      pos_bound = steps-are n ∴ few n ∴ simp ints (omega arith);
    }

a-cursor : (c : After-cursor_on-a) → let n = (goal.at.After-cursor_on-a c).After-next_change-change in c.cursor_on-a.result ≡ cursor_at (a-row (start n)) (there n)
a-cursor c =
    let n = (goal.at.After-cursor_on-a c).After-next_change-change in
    c.cursor_on-a.ensures (from (start n)) (asked (start n)).begun.a-cursor ∙ ap (λ (z : ℤ). cursor_at (a-row (start n)) (from (start n) +ℤ z)) (steps-are n)

-- a labels the instants that b does
a-shown : (n : After-next_change-change) → (p : ℤ) × (meant (a-row (start n)) (there n) ≡ some p)
a-shown n = ((asked (start n)).known.partition.labelled (there n)).1 (_, (changed n).other.1)

pub label_of-p-requires : goal.label_of-p-requires
label_of-p-requires c =
    let n = (goal.at.label_of-p-requires c).After-next_change-change in
    record { sound = a-sound (start n); shown = (there n, near-there n, a-cursor (goal.at.label_of-p-requires c).After-cursor_on-a, a-shown n) }

pub label_of-i-requires : goal.label_of-i-requires
label_of-i-requires c =
    let n = (goal.at.label_of-i-requires c).After-next_change-change in
    record { sound = b-sound (start n); shown = (there n, near-there n, (changed n).cursor, (_, (changed n).other.1)) }

-- what is returned
abbrev change : After-label_of-i → After-next_change-change
change c = (goal.at.After-label_of-i c).After-next_change-change

abbrev made : After-label_of-i → Begin
made c = record { i = c.label_of-i.result; p = c.label_of-p.result; a = c.cursor_on-a.result; b = (change c).next_change-change.result.cursor }

next : (c : After-label_of-i) → let s = start (change c) in Next (a-row s) (b-row s) s.args.c (made c)
next c =
    let n = change c in
    let s = start n in
    next-begins (a-row s) (b-row s) (asked s).known s.args.c (made c) (asked s).begun n.next_change-change.result (changed n) (a-cursor (goal.at.After-label_of-i c).After-cursor_on-a) refl
    (c.label_of-p.ensures (there n) (a-cursor (goal.at.After-label_of-i c).After-cursor_on-a))
    (c.label_of-i.ensures (there n) (changed n).cursor)

pub returns : goal.returns
returns c =
    let s = start (change c) in
    let i : SFits w64 (made c).i = sfits_of c.label_of-i.type_inv in
    let p : SFits w64 (made c).p = sfits_of c.label_of-p.type_inv in
    let pa = s.ranges.a_period in
    let da = s.ranges.a_distance in
    let pb = s.ranges.b_period in
    let db = s.ranges.b_distance in
    let n = numbers s.args.b_period s.args.b_distance s.args.b_cells.now s.requires.sound_2 in
    let e = simp plain at (next c) in
    record {
      begins = simp plain e.begins;
      of = simp plain e.of;
      near = (e.behind, e.near ∴ n.period-is ∴ simp ints (omega arith));
    }
