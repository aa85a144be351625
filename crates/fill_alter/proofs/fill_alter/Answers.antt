-- `fill_alter::fill_alter` meets its contract: each turn of the loop finds the altered granule of the next label, and writes the cells of the stretch that has it.
-- Assumes nothing.
use Rattle.calendar.specs.declared.Refusal.{Refusal}
use Rattle.std.specs.Prelude.{Result, ⊤}
use borrow.Author.Rules.{sfits_of}
use mathlib.Core.Path.{◌≡◌, refl, sym, ◌∙◌, ap, subst₂, subst, ap₂}
use mathlib.Core.Bool.{true, false}
use mathlib.Core.List.{List}
use Prim.Native.Nat.{◌≤◌, ◌+◌, ◌<◌}
use native.Mathlib.Omega.{arith}
use lib.IntN.{ℤ, pos, ◌-ℤ◌, ◌+ℤ◌}
use lib.ListN.{length, get_or}
use mir.Facts.{to_z-of_z}
use mir.Syntax.{w64, w32}
use mir.Val.{to_z, of_z, SFits}
use Rattle.calendar.specs.Limits.{pool_limit, in_range}
use Rattle.calendar.specs.Meaning.{Row, meant}
use Rattle.calendar.specs.Sound.{sound}
use Rattle.kinds.specs.declared.Alteration.{Alteration}
use Rattle.alter_granules.specs.declared.Repeat.{Repeat}
use Rattle.kinds.specs.declared.Kind.TheVariants.{Alter}
use Rattle.kinds.specs.Operations.{operation_of}
use Rattle.kinds.specs.Stands.{row_in}
use Rattle.fill_shared.specs.Fillable.{Fillable}
use Rattle.fill_shared.proofs.Cells.{lent_is, same_rows}
use Rattle.fill_shared.specs.Placed.{Fills}
use Rattle.fill_shared.proofs.Filling.{Lent, lent_of, row_of, Filling, first_two, fills_two, filling-length, filling-index, rows-kept, rows-stood, filling-out}
use Rattle.fill_stretches.proofs.Stages.{room-a}
use Rattle.fill_alter.proofs.Repeated.{Span}
use Rattle.fill_alter.proofs.Loops.{Altering, altering-led, written-old, written-cell, found-on, altering-next, altering-done}
use mathlib.Core.Option.{some}
use Rattle.integers.proofs.Linear.{ints, ◌∴◌}
use Rattle.cursors.specs.Cursor.{cursor_at, Shown}
use Rattle.fill_shared.proofs.Points.{label_small}
use lib.Signed.{◌≤ℤ◌, ◌<ℤ◌}
use Rattle.integers.proofs.Machine.{plain, test-lt, widened, test-not-lt}
use Rattle.cursors.proofs.Numbers.{read_as, numbers}
use Rattle.alter_granules.specs.declared.ahead.Walk.{Walk}
use Rattle.alter_granules.specs.declared.behind.Instant.{Instant}
use Rattle.alter_granules.specs.Follows as follows
use Rattle.alter_granules.specs.Follows.{CoarseWalk, begins, Seeks}
use Rattle.alter_granules.proofs.Followed.{reaches, at-most-next, seeks, place-behind}
use Rattle.fill_alter.proofs.Scans as scans
use Rattle.fill_alter.proofs.Scans.{both, finds-as, finds-walk, found-place, finds-place, found-label}
use Rattle.cursors.proofs.Bounds.{label-bound}
use Rattle.alter_granules.specs.declared.Altered.{Altered}
use Rattle.alter_granules.proofs.Reach.{Turns, turns_near}
use borrow.Author.Tests.{not-true, not-false}
use Rattle.fill_shared.proofs.Working.{range-fits}
use Rattle.fill_stretches.specs.Stretch.{Follows, Stretched}
use Rattle.fill_alter.proofs.fill_alter.Goals as goal
use Rattle.fill_alter.proofs.fill_alter.Goals.{After-advance-walk, After-fill_leading-reached, After-fill_stretch-reached, After-in_range, After-label_of-j, After-number-1, After-repeat_of-arg-2-1, After-repeat_of-repeat, After-seek-behind, After-start-altered, After-struct_told-3-1, After-struct_told-4-1, After-struct_told-else-j-walk-2-1, After-struct_told-in-loop-reached-2-1, After-struct_told-then-j-walk-2-1, At-loop-reached, Else-j-walk, Else-not-in_range, In-loop-reached, Joined-j-walk, Start, Then-j-walk, then-j-walk, else-j-walk}

-- ---- the rows that are lent, as they stood before the loop
abbrev Told : Type 0
Told = After-struct_told-4-1

abbrev entry : Told → Start
entry c = (goal.at.After-struct_told-4-1 c).Start

abbrev old : Told → List ℤ
old c = (entry c).args.pool.now

abbrev by-told : Told → Alteration
by-told c = (entry c).args.by

abbrev A : Told → Lent
A c = lent_of (entry c).args.a c.end_of-a_end.result

abbrev B : Told → Lent
B c = lent_of (entry c).args.b c.end_of-b_end.result

abbrev a-row : Told → Row
a-row c = row_of (A c) (old c)

abbrev b-row : Told → Row
b-row c = row_of (B c) (old c)

pub end_of-a_end-requires : goal.end_of-a_end-requires
end_of-a_end-requires c = record { pos_bound = c.requires.placed.a-period; a_bound = c.requires.placed.a-end }

pub end_of-b_end-requires : goal.end_of-b_end-requires
end_of-b_end-requires c = let s = (goal.at.end_of-b_end-requires c).Start in record { pos_bound = s.requires.placed.b-period; a_bound = s.requires.placed.b_end }

a-is : (c : Told) → a-row c ≡ row_in (old c) (entry c).args.a
a-is c = lent_is (entry c).args.a _ _ c.end_of-a_end.ensures (sfits_of c.struct_told-1.given.1.0.1) (sfits_of c.struct_told-2-1.given.1.1.0.1)

b-is : (c : Told) → b-row c ≡ row_in (old c) (entry c).args.b
b-is c = lent_is (entry c).args.b _ _ c.end_of-b_end.ensures (sfits_of c.struct_told-3-1.given.1.0.1) (sfits_of c.struct_told-4-1.given.1.1.0.1)

-- what holds before the first instant
first : (c : Told) → let s = entry c in Filling (Alter (by-told c)) (A c) (B c) s.args.at s.args.period (old c) (old c) false 0
first c =
    let s = entry c in
    first_two _ _ refl s.args.a s.args.b _ _ _ _ _ c.end_of-a_end.ensures (a-is c) _ c.end_of-b_end.ensures (b-is c) s.requires.fillable s.requires.placed

a-sound : (c : Told) → sound (a-row c) ≡ true
a-sound c = (first c).lends.is-fillable.sounds.0

b-sound : (c : Told) → sound (b-row c) ≡ true
b-sound c = (first c).lends.is-fillable.sounds.1

-- what the loop ensures, over the operands
as-filled : (c : Told) (new : List ℤ) (r : Result ⊤ Refusal) → let s = entry c in Fills (operation_of (Alter (by-told c)) (a-row c) (b-row c)) s.args.at s.args.period (old c) new r
    → Fills (operation_of (Alter (by-told c)) (row_in (old c) s.args.a) (row_in (old c) s.args.b)) s.args.at s.args.period (old c) new r
as-filled c new r h =
    let s = entry c in
    fills_two (Alter (by-told c)) (Alter (by-told c)) refl s.args.a s.args.b s.args.span s.args.at s.args.period _ _ c.end_of-a_end.ensures (a-is c) _ c.end_of-b_end.ensures (b-is c) new r h

-- the parts that are lent lie in the pool
a-room : (c : Told) (new : List ℤ) → length new ≡ length (old c) → ((A c).start ≤ (A c).end) × ((A c).end ≤ length new) × ((A c).end ≤ pool_limit)
a-room c new e = let l = (first c).lends in (l.a-start, omega (arith, l.a-end, l.room), omega (arith, l.a-end, l.room, l.few))

b-room : (c : Told) (new : List ℤ) → length new ≡ length (old c) → ((B c).start ≤ (B c).end) × ((B c).end ≤ length new) × ((B c).end ≤ pool_limit)
b-room c new e = let l = (first c).lends in (l.b-start, omega (arith, l.b_end, l.room), omega (arith, l.b_end, l.room, l.few))

a-fits : (c : Told) → ((A c).start ≤ (A c).end) × ((A c).end ≤ length (old c)) × ((A c).end ≤ pool_limit)
a-fits c = a-room c (old c) refl

b-fits : (c : Told) → ((B c).start ≤ (B c).end) × ((B c).end ≤ length (old c)) × ((B c).end ≤ pool_limit)
b-fits c = b-room c (old c) refl

-- ---- n and D, and where the scan starts
pub offset_bounds-pool-a_start : goal.offset_bounds-pool-a_start
offset_bounds-pool-a_start c = let f = a-fits c in omega arith

pub slice_bounds-repeat_of-count : goal.slice_bounds-repeat_of-count
slice_bounds-repeat_of-count c = (a-fits c).0

pub slice_bounds-repeat_of-start : goal.slice_bounds-repeat_of-start
slice_bounds-repeat_of-start c = (a-fits (goal.at.slice_bounds-repeat_of-start c).After-struct_told-4-1).0

pub slice_bounds-repeat_of-end : goal.slice_bounds-repeat_of-end
slice_bounds-repeat_of-end c = (a-fits (goal.at.slice_bounds-repeat_of-end c).After-struct_told-4-1).1

pub offset_bounds-pool-b_start : goal.offset_bounds-pool-b_start
offset_bounds-pool-b_start c = let f = b-fits (goal.at.offset_bounds-pool-b_start c).After-struct_told-4-1 in omega arith

pub slice_bounds-repeat_of-count-2 : goal.slice_bounds-repeat_of-count-2
slice_bounds-repeat_of-count-2 c = (b-fits (goal.at.slice_bounds-repeat_of-count-2 c).After-struct_told-4-1).0

pub slice_bounds-repeat_of-start-2 : goal.slice_bounds-repeat_of-start-2
slice_bounds-repeat_of-start-2 c = (b-fits (goal.at.slice_bounds-repeat_of-start-2 c).After-struct_told-4-1).0

pub slice_bounds-repeat_of-end-2 : goal.slice_bounds-repeat_of-end-2
slice_bounds-repeat_of-end-2 c = (b-fits (goal.at.slice_bounds-repeat_of-end-2 c).After-struct_told-4-1).1

-- what `repeat_of` is given
given-span : (c : Told) → Fillable (Alter (by-told c)) (a-row c) (b-row c) × Span (by-told c) (a-row c) (b-row c) (to_z w64 (of_z w64 (entry c).args.span))
given-span c =
    let s = entry c in
    let e = to_z-of_z s.ranges.span ∙ s.requires.placed.is-span in
    same_rows (λ x y. Fillable (Alter (by-told c)) x y × Span (by-told c) x y (to_z w64 (of_z w64 s.args.span))) (sym (a-is c)) (sym (b-is c)) (s.requires.fillable, e)

pub repeat_of-repeat-requires : goal.repeat_of-repeat-requires
repeat_of-repeat-requires c =
    let g = given-span (goal.at.repeat_of-repeat-requires c).After-struct_told-4-1 in
    record { fillable = g.0; span_value = g.1 }

-- what is told behind it
abbrev told : After-repeat_of-repeat → Told
told c = (goal.at.After-repeat_of-repeat c).After-struct_told-4-1

pub offset_bounds-pool-a_start-2 : goal.offset_bounds-pool-a_start-2
offset_bounds-pool-a_start-2 c = let f = a-fits (told c) in omega arith

pub slice_bounds-start-count : goal.slice_bounds-start-count
slice_bounds-start-count c = (a-fits (told c)).0

pub slice_bounds-start-start : goal.slice_bounds-start-start
slice_bounds-start-start c = (a-fits (told (goal.at.slice_bounds-start-start c).After-repeat_of-repeat)).0

pub slice_bounds-start-end : goal.slice_bounds-start-end
slice_bounds-start-end c = (a-fits (told (goal.at.slice_bounds-start-end c).After-repeat_of-repeat)).1

pub offset_bounds-pool-b_start-2 : goal.offset_bounds-pool-b_start-2
offset_bounds-pool-b_start-2 c = let f = b-fits (told (goal.at.offset_bounds-pool-b_start-2 c).After-repeat_of-repeat) in omega arith

pub slice_bounds-start-count-2 : goal.slice_bounds-start-count-2
slice_bounds-start-count-2 c = (b-fits (told (goal.at.slice_bounds-start-count-2 c).After-repeat_of-repeat)).0

pub slice_bounds-start-start-2 : goal.slice_bounds-start-start-2
slice_bounds-start-start-2 c = (b-fits (told (goal.at.slice_bounds-start-start-2 c).After-repeat_of-repeat)).0

pub slice_bounds-start-end-2 : goal.slice_bounds-start-end-2
slice_bounds-start-end-2 c = (b-fits (told (goal.at.slice_bounds-start-end-2 c).After-repeat_of-repeat)).1

pub start-altered-requires : goal.start-altered-requires
start-altered-requires c =
    let r = (goal.at.start-altered-requires c).After-repeat_of-repeat in
    let g = (given-span (told r)).0 in
    record { sound = g.sounds.0; sound_2 = g.sounds.1; alterable = r.repeat_of-repeat.ensures }

-- ---- up to the first label
abbrev Led : Type 0
Led = After-fill_leading-reached

abbrev repeated : Led → After-repeat_of-repeat
repeated c = (goal.at.After-fill_leading-reached c).After-repeat_of-repeat

-- n and D
abbrev rep-led : Led → Repeat
rep-led c = (repeated c).repeat_of-repeat.result

pub fill_leading-reached-requires : goal.fill_leading-reached-requires
fill_leading-reached-requires c = let k = told (goal.at.fill_leading-reached-requires c).After-repeat_of-repeat in room-a _ (A k) (B k) _ _ (old k) _ _ _ (first k) (a-sound k)

-- what holds before the loop
abbrev base-led : Led → Told
base-led c = told (repeated c)

started : (c : Led) → let k = base-led c in let s = entry k in let a = c.start-altered.result in
    Altering (by-told k) (rep-led c) (A k) (B k) s.args.at s.args.period (old k) c.fill_leading-reached.new.pool a.walk a.behind c.fill_leading-reached.result
started c =
    let k = base-led c in
    let d = (goal.at.After-fill_leading-reached c).After-start-altered in
    altering-led (by-told k) (rep-led c) (A k) (B k) _ _ (old k) _ _ d.start-altered.result (first k) c.fill_leading-reached.ensures (repeated c).repeat_of-repeat.ensures d.start-altered.ensures.follows d.start-altered.ensures.passed

pub loop-reached-init : goal.loop-reached-init
loop-reached-init c = λ x h. h

abbrev At : Type 0
At = At-loop-reached

abbrev base : At → Told
base l = base-led (goal.at.At-loop-reached l).After-fill_leading-reached

abbrev before : At → List ℤ
before l = old (base l)

abbrev rep : At → Repeat
rep l = rep-led (goal.at.At-loop-reached l).After-fill_leading-reached

abbrev by : At → Alteration
by l = by-told (base l)

-- the rows, in a pool in which they stood
abbrev a_in : At → List ℤ → Row
a_in l x = row_of (A (base l)) x

abbrev b-in : At → List ℤ → Row
b-in l x = row_of (B (base l)) x

-- what holds before the turn, over such a pool
abbrev Holds : At → List ℤ → Type 0
Holds l x =
    let k = base l in
    let s = entry k in
    Altering (by l) (rep l) (A k) (B k) s.args.at s.args.period x l.loop-reached.pool l.loop-reached.walk l.loop-reached.behind l.loop-reached.reached

holds : (l : At) → Holds l (before l)
holds l = l.loop-reached.invariant (before l) (started (goal.at.At-loop-reached l).After-fill_leading-reached)

same : (l : At) → length l.loop-reached.pool ≡ length (before l)
same l = filling-length _ _ _ _ _ _ _ _ _ (holds l).stage.filling

a-part : (l : At) → let k = A (base l) in (k.start ≤ k.end) × (k.end ≤ length l.loop-reached.pool) × (k.end ≤ pool_limit)
a-part l = a-room (base l) l.loop-reached.pool (same l)

b-part : (l : At) → let k = B (base l) in (k.start ≤ k.end) × (k.end ≤ length l.loop-reached.pool) × (k.end ≤ pool_limit)
b-part l = b-room (base l) l.loop-reached.pool (same l)

-- the loop goes on
abbrev In : Type 0
In = In-loop-reached

abbrev at_of : In → At
at_of c = (goal.at.In-loop-reached c).At-loop-reached

-- the instant is before the last one
inside : (c : In) → (at_of c).loop-reached.reached.t < (entry (base (at_of c))).args.period
inside c = c.loop-reached-test.true

index : (c : In) → let l = at_of c in ((entry (base l)).args.at + l.loop-reached.reached.t < length l.loop-reached.pool) × (length l.loop-reached.pool ≤ pool_limit)
index c = filling-index _ _ _ _ _ _ _ _ _ (holds (at_of c)).stage.filling (inside c)

early : (c : In) → (at_of c).loop-reached.reached.t ≤ pool_limit
early c = let h = index c in omega arith

module _ (l : At) (x : List ℤ) (h : Holds l x) where
  -- what holds of the rows as they stood holds of them as they stand, and back
  pub kept : (P : Row → Row → Type 0) → P (a_in l x) (b-in l x) → P (a_in l l.loop-reached.pool) (b-in l l.loop-reached.pool)
  kept P p = rows-kept _ _ _ _ _ _ _ _ _ h.stage.filling P p

  pub stood : (P : Row → Row → Type 0) → P (a_in l l.loop-reached.pool) (b-in l l.loop-reached.pool) → P (a_in l x) (b-in l x)
  stood P p = rows-stood _ _ _ _ _ _ _ _ _ h.stage.filling P p

-- ---- the label
pub offset_bounds-pool-a_start-in-loop-reached : goal.offset_bounds-pool-a_start-in-loop-reached
offset_bounds-pool-a_start-in-loop-reached c = let h = a-part (at_of c) in omega arith

pub slice_bounds-label_of-count : goal.slice_bounds-label_of-count
slice_bounds-label_of-count c = (a-part (at_of c)).0

pub slice_bounds-label_of-start : goal.slice_bounds-label_of-start
slice_bounds-label_of-start c = (a-part (at_of (goal.at.slice_bounds-label_of-start c).In-loop-reached)).0

pub slice_bounds-label_of-end : goal.slice_bounds-label_of-end
slice_bounds-label_of-end c = (a-part (at_of (goal.at.slice_bounds-label_of-end c).In-loop-reached)).1

pub label_of-j-requires : goal.label_of-j-requires
label_of-j-requires c =
    let i = (goal.at.label_of-j-requires c).In-loop-reached in
    let l = at_of i in
    let h = holds l in
    let n = early i in
    let k = kept l (before l) h (λ x y. (sound x ≡ true) × Shown x l.loop-reached.reached.cursor)
    (a-sound (base l), (pos l.loop-reached.reached.t, simp ints (omega arith), h.stage.follows.cursor, h.stage.stops (inside i))) in
    record { sound = k.0; shown = k.1 }

abbrev Read : Type 0
Read = After-label_of-j

abbrev in-of : Read → In
in-of c = (goal.at.After-label_of-j c).In-loop-reached

abbrev read_at : Read → At
read_at c = at_of (in-of c)

abbrev label : Read → ℤ
label c = c.label_of-j.result

label_is : (c : Read) (x : List ℤ) → let l = read_at c in Holds l x → meant (a_in l x) (pos l.loop-reached.reached.t) ≡ some (label c)
label_is c x h =
    let l = read_at c in
    let t = pos l.loop-reached.reached.t in
    stood l x h (λ y z. meant y t ≡ some (label c)) (c.label_of-j.ensures t (kept l x h (λ y z. l.loop-reached.reached.cursor ≡ cursor_at y t) h.stage.follows.cursor))

label-fits : (c : Read) → SFits w64 (label c)
label-fits c =
    let l = read_at c in
    let k = base l in
    let n = early (in-of c) in
    label_small (A k).period (A k).distance (a_in l (before l)).cells (a-sound k) (pos l.loop-reached.reached.t) (label c) (simp ints (omega arith)) (simp ints (omega arith)) (label_is c (before l) (holds l))
    ∴ simp ints (omega arith)

-- where it is decided how the granule is found
abbrev Asked : Type 0
Asked = Read

abbrev read_of : Asked → Read
read_of c = c

abbrev asked-at : Asked → At
asked-at c = read_at (read_of c)

-- the label as the machine has it
abbrev j-of : Asked → ℤ
j-of c = to_z w64 (of_z w64 (label (read_of c)))

j-read : (c : Asked) → j-of c ≡ label (read_of c)
j-read c = to_z-of_z {w = w64} (label-fits (read_of c))

end_fits : (c : Asked) → SFits w64 (asked-at c).loop-reached.walk.end
end_fits c = let n = (holds (asked-at c)).follows.walk.origin.end-near in n.0 ∴ n.1 ∴ simp ints (omega arith)

-- what is found in the turn, over a pool x in which the rows stood
abbrev Finds : (c : Asked) → List ℤ → Walk → Instant → ℤ → ℤ → Type 0
Finds c x w p n h = let l = asked-at c in scans.Finds (by l) (rep l) (a_in l x) (b-in l x) l.loop-reached.reached.t (label (read_of c)) w p n h

-- ---- the walk goes on
pub offset_bounds-pool-a_start-then-j-walk : goal.offset_bounds-pool-a_start-then-j-walk
offset_bounds-pool-a_start-then-j-walk c = let f = a-part (asked-at (goal.at.offset_bounds-pool-a_start-then-j-walk c).After-label_of-j) in omega arith

pub slice_bounds-advance-count : goal.slice_bounds-advance-count
slice_bounds-advance-count c = (a-part (asked-at (goal.at.slice_bounds-advance-count c).After-label_of-j)).0

pub slice_bounds-advance-start : goal.slice_bounds-advance-start
slice_bounds-advance-start c = (a-part (asked-at (goal.at.slice_bounds-advance-start c).After-label_of-j)).0

pub slice_bounds-advance-end : goal.slice_bounds-advance-end
slice_bounds-advance-end c = (a-part (asked-at (goal.at.slice_bounds-advance-end c).After-label_of-j)).1

pub offset_bounds-pool-b_start-then-j-walk : goal.offset_bounds-pool-b_start-then-j-walk
offset_bounds-pool-b_start-then-j-walk c = let f = b-part (asked-at (goal.at.offset_bounds-pool-b_start-then-j-walk c).After-label_of-j) in omega arith

pub slice_bounds-advance-count-then-j-walk : goal.slice_bounds-advance-count-then-j-walk
slice_bounds-advance-count-then-j-walk c = (b-part (asked-at (goal.at.slice_bounds-advance-count-then-j-walk c).After-label_of-j)).0

pub slice_bounds-advance-start-then-j-walk : goal.slice_bounds-advance-start-then-j-walk
slice_bounds-advance-start-then-j-walk c = (b-part (asked-at (goal.at.slice_bounds-advance-start-then-j-walk c).After-label_of-j)).0

pub slice_bounds-advance-end-then-j-walk : goal.slice_bounds-advance-end-then-j-walk
slice_bounds-advance-end-then-j-walk c = (b-part (asked-at (goal.at.slice_bounds-advance-end-then-j-walk c).After-label_of-j)).1

before-end : (d : Asked) → j-of d <ℤ to_z w64 (of_z w64 (asked-at d).loop-reached.walk.end) → label (read_of d) <ℤ (asked-at d).loop-reached.walk.end
before-end d h = subst₂ ◌<ℤ◌ (j-read d) (to_z-of_z {w = w64} (end_fits d)) h

pub advance-walk-requires : goal.advance-walk-requires
advance-walk-requires c =
    let i = (goal.at.advance-walk-requires c).Then-j-walk in
    let d = (goal.at.advance-walk-requires c).After-label_of-j in
    let b = before-end d ((test-lt _ _).0 i.if-j-walk.true) in
    let l = asked-at d in
    let x = before l in
    let h = holds l in
    let w = l.loop-reached.walk in
    let m = at-most-next (by l) (rep l) (a_in l x) (b-in l x) h.alterable l.loop-reached.reached.t (both w l.loop-reached.behind) h.follows (label (read_of d)) (label_is (read_of d) x h) h.passed b in
    let r = reaches (by l) (rep l) (a_in l x) (b-in l x) h.alterable l.loop-reached.reached.t (both w l.loop-reached.behind) h.follows (label (read_of d)) (label_is (read_of d) x h) in
    let k = kept l x h (λ y z. (sound y ≡ true) × (sound z ≡ true) × follows.Altering (by l) y z × CoarseWalk (by l) y z w × ((begins (by l) y z w.label ≤ℤ j-of d) × (j-of d <ℤ w.end)) × (j-of d ≤ℤ w.next))
    (a-sound (base l), b-sound (base l), (rep l, h.alterable), h.follows.walk, rw (j-read d) (r, b), rw (j-read d) m) in
    record { sound = k.0; sound_2 = k.1; altering = k.2; coarse_walk = k.3; label_bound = k.4; j_le_next = k.5 }

-- ---- what it finds
module _ (d : Asked) (w : Walk) (walks : CoarseWalk (by (asked-at d)) (a_in (asked-at d) (asked-at d).loop-reached.pool) (b-in (asked-at d) (asked-at d).loop-reached.pool) w)
    (has : follows.Holds (by (asked-at d)) (a_in (asked-at d) (asked-at d).loop-reached.pool) (b-in (asked-at d) (asked-at d).loop-reached.pool) (j-of d) w.label)
    (end_is : w.end ≡ (asked-at d).loop-reached.walk.end) where
  walked : (x : List ℤ) → let l = asked-at d in Holds l x → CoarseWalk (by l) (a_in l x) (b-in l x) w × follows.Holds (by l) (a_in l x) (b-in l x) (label (read_of d)) w.label
  walked x h =
      let l = asked-at d in
      stood l x h (λ y z. CoarseWalk (by l) y z w × follows.Holds (by l) y z (label (read_of d)) w.label) (walks, rw (j-read d) at has)

  less-fits : SFits w64 w.next → SFits w64 (w.next -ℤ pos 1)
  less-fits n =
      let l = asked-at d in
      let k = walked (before l) (holds l) in
      n ∴ k.0.next ∴ k.1.1 ∴ label-fits (read_of d) ∴ simp ints (omega arith)

  found-ahead : (x : List ℤ) → let l = asked-at d in SFits w64 w.label → SFits w64 w.next → Holds l x
      → Finds d x w l.loop-reached.behind (to_z w64 (of_z w64 w.label)) (to_z w64 (of_z w64 (to_z w64 (of_z w64 w.next) -ℤ pos 1)))
  found-ahead x f n h =
      let l = asked-at d in
      let k = walked x h in
      finds-as refl refl (to_z-of_z {w = w64} f) (read_as {w = w64} (ap (λ (z : ℤ). z -ℤ pos 1) (to_z-of_z {w = w64} n)) (less-fits n))
      (finds-walk (by l) (rep l) (a_in l x) (b-in l x) l.loop-reached.reached.t l.loop-reached.walk l.loop-reached.behind (label (read_of d)) h.alterable h.follows (label_is (read_of d) x h) w k.0 k.1 end_is)

pub overflow_sub-high : goal.overflow_sub-high
overflow_sub-high c =
    let d = (goal.at.overflow_sub-high c).After-label_of-j in
    let e = c.advance-walk.ensures in
    let n : SFits w64 c.advance-walk.result.next = sfits_of c.struct_told-then-j-walk-2-1.given.1.0.1 in
    let m = less-fits d c.advance-walk.result e.walks e.has e.end n in
    n ∴ m ∴ simp (plain, ints) (omega arith)

-- ---- n and D as the machine has them
turns : (l : At) → Turns (rep l)
turns l =
    let k = base l in
    let x = before l in
    turns_near (by l) (rep l) (a_in l x) (b-in l x) (holds l).alterable (numbers (A k).period (A k).distance (a_in l x).cells (a-sound k)).middle (numbers (B k).period (B k).distance (b-in l x).cells (b-sound k)).middle

fine-fits : (l : At) → SFits w64 (rep l).fine
fine-fits l = let n = turns l in n.coarse-low ∴ n.middle ∴ n.fine-high ∴ simp ints (omega arith)

coarse-fits : (l : At) → SFits w64 (rep l).coarse
coarse-fits l = let n = turns l in n.coarse-low ∴ n.middle ∴ n.fine-high ∴ simp ints (omega arith)

-- ---- the fine granule D before
abbrev back : Asked → ℤ
back d = label (read_of d) -ℤ (rep (asked-at d)).fine

back_fits : (d : Asked) → SFits w64 (back d)
back_fits d =
    let l = asked-at d in
    let k = base l in
    let n = turns l in
    label-bound (A k).period (A k).distance (a_in l (before l)).cells (a-sound k) pool_limit (pos l.loop-reached.reached.t) (label (read_of d)) (simp ints (omega arith)) (early (in-of (read_of d)) ∴ simp ints (omega arith)) (label_is (read_of d) (before l) (holds l))
    ∴ n.coarse-low
    ∴ n.middle
    ∴ n.fine-high
    ∴ simp ints (omega arith)

back-made : (d : Asked) → j-of d -ℤ to_z w64 (of_z w64 (rep (asked-at d)).fine) ≡ back d
back-made d = ap₂ ◌-ℤ◌ (j-read d) (to_z-of_z {w = w64} (fine-fits (asked-at d)))

abbrev sought : Asked → ℤ
sought d = to_z w64 (of_z w64 (j-of d -ℤ to_z w64 (of_z w64 (rep (asked-at d)).fine)))

back_read : (d : Asked) → sought d ≡ back d
back_read d = read_as {w = w64} (back-made d) (back_fits d)

pub overflow_sub-j : goal.overflow_sub-j
overflow_sub-j c = let d = (goal.at.overflow_sub-j c).After-label_of-j in subst (SFits w64) (sym (back-made d)) (back_fits d)

pub offset_bounds-pool-a_start-else-j-walk : goal.offset_bounds-pool-a_start-else-j-walk
offset_bounds-pool-a_start-else-j-walk c = let f = a-part (asked-at (goal.at.offset_bounds-pool-a_start-else-j-walk c).After-label_of-j) in omega arith

pub slice_bounds-seek-count : goal.slice_bounds-seek-count
slice_bounds-seek-count c = (a-part (asked-at (goal.at.slice_bounds-seek-count c).After-label_of-j)).0

pub slice_bounds-seek-start : goal.slice_bounds-seek-start
slice_bounds-seek-start c = (a-part (asked-at (goal.at.slice_bounds-seek-start c).After-label_of-j)).0

pub slice_bounds-seek-end : goal.slice_bounds-seek-end
slice_bounds-seek-end c = (a-part (asked-at (goal.at.slice_bounds-seek-end c).After-label_of-j)).1

behind-end : (d : Asked) → to_z w64 (of_z w64 (asked-at d).loop-reached.walk.end) ≤ℤ j-of d → (asked-at d).loop-reached.walk.end ≤ℤ label (read_of d)
behind-end d h = subst₂ ◌≤ℤ◌ (to_z-of_z {w = w64} (end_fits d)) (j-read d) h

abbrev followed : At → Altered
followed l = both l.loop-reached.walk l.loop-reached.behind

pub seek-behind-requires : goal.seek-behind-requires
seek-behind-requires c =
    let i = (goal.at.seek-behind-requires c).Else-j-walk in
    let d = (goal.at.seek-behind-requires c).After-label_of-j in
    let m = behind-end d ((test-not-lt _ _).0 i.if-j-walk.false) in
    let l = asked-at d in
    let x = before l in
    let h = holds l in
    let k = seeks (by l) (rep l) (a_in l x) (b-in l x) h.alterable l.loop-reached.reached.t (followed l) h.follows (label (read_of d)) (label_is (read_of d) x h) m (early (in-of (read_of d))) in
    let q = kept l x h (λ y z. (sound y ≡ true) × Seeks y l.loop-reached.behind (sought d))
    (a-sound (base l), subst (Seeks (a_in l x) l.loop-reached.behind) (sym (back_read d)) k) in
    record { sound = q.0; seeks = q.1 }

-- ---- the label written there
abbrev back-cell : Asked → Instant → ℤ
back-cell d p = let l = asked-at d in get_or l.loop-reached.pool ((entry (base l)).args.at + p.index) (pos 0)

abbrev higher : Asked → Instant → ℤ
higher d p = back-cell d p +ℤ (rep (asked-at d)).coarse

abbrev made : Asked → Instant → ℤ
made d p = to_z w64 (of_z w64 (to_z w32 (of_z w32 (back-cell d p)))) +ℤ to_z w64 (of_z w64 (rep (asked-at d)).coarse)

module _ (d : Asked) (past : (asked-at d).loop-reached.walk.end ≤ℤ label (read_of d)) (p : Instant)
    (cursor_is : p.cursor ≡ cursor_at (a_in (asked-at d) (asked-at d).loop-reached.pool) (pos p.index))
    (label-there : meant (a_in (asked-at d) (asked-at d).loop-reached.pool) (pos p.index) ≡ some (sought d)) where
  found_back : (x : List ℤ) → let l = asked-at d in Holds l x
      → (p.cursor ≡ cursor_at (a_in l x) (pos p.index)) × (meant (a_in l x) (pos p.index) ≡ some (back d))
  found_back x h =
      stood (asked-at d) x h (λ y z. (p.cursor ≡ cursor_at y (pos p.index)) × (meant y (pos p.index) ≡ some (back d))) (cursor_is, rw (back_read d) at label-there)

  back-before : p.index < (asked-at d).loop-reached.reached.t
  back-before =
      let l = asked-at d in
      let x = before l in
      let h = holds l in
      let f = found_back x h in
      place-behind (by l) (rep l) (a_in l x) (b-in l x) h.alterable l.loop-reached.reached.t (followed l) h.follows (label (read_of d)) (label_is (read_of d) x h) past p f.0 f.1

  back_index : let l = asked-at d in ((entry (base l)).args.at + p.index < length l.loop-reached.pool) × (length l.loop-reached.pool ≤ pool_limit)
  back_index = let h = index (in-of (read_of d)) in (omega (arith, h.0, back-before), h.1)

  module _ (cell : SFits w32 (back-cell d p)) where
    higher-made : made d p ≡ higher d p
    higher-made = ap₂ ◌+ℤ◌ (read_as {w = w64} (to_z-of_z {w = w32} cell) (widened cell)) (to_z-of_z {w = w64} (coarse-fits (asked-at d)))

    higher-fits : SFits w64 (higher d p)
    higher-fits = let n = turns (asked-at d) in cell ∴ n.coarse-low ∴ n.middle ∴ n.fine-high ∴ simp ints (omega arith)

    found-behind : (x : List ℤ) → let l = asked-at d in Holds l x → Finds d x l.loop-reached.walk p (to_z w64 (of_z w64 (made d p))) (j-of d)
    found-behind x h =
        let l = asked-at d in
        let m = inside (in-of (read_of d)) in
        let k = found_back x h in
        let w = written-old _ _ _ _ _ _ _ _ _ _ _ h m in
        let u = back-before in
        let y = written-cell _ _ _ _ _ _ _ _ _ _ _ h m p.index (pos 0) u back_index.0 in
        finds-as refl refl (read_as {w = w64} higher-made higher-fits ∙ ap (λ (z : ℤ). z +ℤ (rep l).coarse) (sym y)) (j-read d)
        (finds-place (by l) (rep l) (a_in l x) (b-in l x) l.loop-reached.reached.t l.loop-reached.walk l.loop-reached.behind (label (read_of d)) h.alterable h.follows (label_is (read_of d) x h) p _ h.passed past
        (found-place (by l) (rep l) (a_in l x) (b-in l x) l.loop-reached.reached.t l.loop-reached.walk l.loop-reached.behind (label (read_of d)) h.alterable h.follows (label_is (read_of d) x h) past p k.0 k.1 _ w.0 (omega (arith, w.1, u))))

abbrev Sought : Type 0
Sought = After-seek-behind

read-back : (c : Sought) → let d = (goal.at.After-seek-behind c).After-label_of-j in
    ((entry (base (asked-at d))).args.at + c.seek-behind.result.index < length (asked-at d).loop-reached.pool) × (length (asked-at d).loop-reached.pool ≤ pool_limit)
read-back c =
    let d = (goal.at.After-seek-behind c).After-label_of-j in
    let e = c.seek-behind.ensures in
    back_index d (behind-end d ((test-not-lt _ _).0 c.if-j-walk.false)) c.seek-behind.result e.cursor e.label

pub overflow_add-back : goal.overflow_add-back
overflow_add-back c = let h = read-back (goal.at.overflow_add-back c).After-seek-behind in omega arith

pub offset_bounds-pool-back : goal.offset_bounds-pool-back
offset_bounds-pool-back c = let h = read-back (goal.at.offset_bounds-pool-back c).After-seek-behind in omega arith

pub slice_copy_out-number : goal.slice_copy_out-number
slice_copy_out-number c = (read-back (goal.at.slice_copy_out-number c).After-seek-behind).0

pub overflow_add-number : goal.overflow_add-number
overflow_add-number c =
    let d = (goal.at.overflow_add-number c).After-label_of-j in
    let s = (goal.at.overflow_add-number c).After-seek-behind in
    let e = s.seek-behind.ensures in
    let p = s.seek-behind.result in
    let m = behind-end d ((test-not-lt _ _).0 c.if-j-walk.false) in
    let f : SFits w32 (back-cell d p) = sfits_of c.number-1.given in
    subst (SFits w64) (sym (higher-made d m p e.cursor e.label f)) (higher-fits d m p e.cursor e.label f)

-- ---- the granule, by either
abbrev Known : Type 0
Known = Joined-j-walk

abbrev at-known : Known → At
at-known c = asked-at (goal.at.Joined-j-walk c).After-label_of-j

-- the number and the last label that gets it, as the machine has them
abbrev number : Known → ℤ
number c = to_z w64 c.if-j-walk.number-bits

abbrev high : Known → ℤ
high c = to_z w64 c.if-j-walk.high-bits

found-either : (c : Known) (x : List ℤ) → Holds (at-known c) x → Finds (goal.at.Joined-j-walk c).After-label_of-j x c.if-j-walk.walk c.if-j-walk.behind (number c) (high c)
found-either c x h =
    let d = (goal.at.Joined-j-walk c).After-label_of-j in
    elim c.if-j-walk.branch [
      | then-j-walk w ↦
          let e = w.advance-walk.ensures in
          finds-as w.walk-is w.behind-is w.number-is w.high-is
          (found-ahead d w.advance-walk.result e.walks e.has e.end x (sfits_of w.struct_told-then-j-walk-1.given.0.1) (sfits_of w.struct_told-then-j-walk-2-1.given.1.0.1) h)
      | else-j-walk w ↦
          let e = w.seek-behind.ensures in
          finds-as w.walk-is w.behind-is w.number-is w.high-is
          (found-behind d (behind-end d ((test-not-lt _ _).0 w.if-j-walk.false)) w.seek-behind.result e.cursor e.label (sfits_of w.number-1.given) x h)
    ]

pub shape_of-pool-then-not-in_range : goal.shape_of-pool-then-not-in_range
shape_of-pool-then-not-in_range c = same (at-known (goal.at.shape_of-pool-then-not-in_range c).Joined-j-walk)

-- whether the number is within the limits
in-range-is : (c : After-in_range) → c.in_range.result ≡ in_range (number (goal.at.After-in_range c).Joined-j-walk)
in-range-is c = c.in_range.ensures

pub returns-then-not-in_range : goal.returns-then-not-in_range
returns-then-not-in_range c =
    let k = (goal.at.returns-then-not-in_range c).Joined-j-walk in
    let l = at-known k in
    let x = before l in
    let h = holds l in
    let r = read_of (goal.at.Joined-j-walk k).After-label_of-j in
    let e =
    found-label (by l) (rep l) (a_in l x) (b-in l x) l.loop-reached.reached.t l.loop-reached.walk l.loop-reached.behind (label r) h.alterable h.follows (label_is r x h) k.if-j-walk.walk k.if-j-walk.behind (number k) (high k) (found-either k x h).found in
    as-filled (base l) _ _ (filling-out _ _ _ _ _ _ _ _ _ h.stage.filling (inside (in-of r)) (some (number k)) e _ refl (sym (in-range-is (goal.at.returns-then-not-in_range c).After-in_range) ∙ not-true _ c.if-not-in_range.true-raw))

-- ---- its stretch
-- the number is within the limits
abbrev Within : Type 0
Within = Else-not-in_range

abbrev known_of : Within → Known
known_of c = (goal.at.Else-not-in_range c).Joined-j-walk

within : (c : Within) → in_range (number (known_of c)) ≡ true
within c = sym (in-range-is (goal.at.Else-not-in_range c).After-in_range) ∙ not-false _ c.if-not-in_range.false-raw

pub overflow_cast-number-in-loop-reached : goal.overflow_cast-number-in-loop-reached
overflow_cast-number-in-loop-reached c = range-fits _ (within c)

pub fill_stretch-reached-requires : goal.fill_stretch-reached-requires
fill_stretch-reached-requires c =
    let l = at-known (known_of (goal.at.fill_stretch-reached-requires c).Else-not-in_range) in
    let k = base l in
    let x = before l in
    let h = holds l in
    record { room = room-a _ (A k) (B k) _ _ x _ _ _ h.stage.filling (a-sound k); follows = kept l x h (λ y z. Follows y (entry k).args.period l.loop-reached.reached) h.stage.follows }

-- the stretch is filled
abbrev Filled_own : Type 0
Filled_own = After-fill_stretch-reached

abbrev within_of : Filled_own → Within
within_of c = (goal.at.After-fill_stretch-reached c).Else-not-in_range

abbrev known_at : Filled_own → Known
known_at c = known_of (within_of c)

abbrev filled-pool : Filled_own → List ℤ
filled-pool c = c.fill_stretch-reached.new.pool

stretched : (c : Filled_own) (x : List ℤ) → let k = known_at c in let l = at-known k in let s = entry (base l) in Holds l x
    → Stretched (number k) (high k) (a_in l x) s.args.at s.args.period l.loop-reached.pool l.loop-reached.reached c.fill_stretch-reached.result (filled-pool c)
stretched c x h =
    let k = known_at c in
    let l = at-known k in
    let s = entry (base l) in
    stood l x h (λ y z. Stretched (number k) (high k) y s.args.at s.args.period l.loop-reached.pool l.loop-reached.reached c.fill_stretch-reached.result (filled-pool c))
    (rw (to_z-of_z {w = w32} (range-fits _ (within (within_of c)))) at c.fill_stretch-reached.ensures)

-- it has an instant
goes_on : (c : Filled_own) → (at-known (known_at c)).loop-reached.reached.t < c.fill_stretch-reached.result.t
goes_on c =
    let k = known_at c in
    let l = at-known k in
    let x = before l in
    let h = holds l in
    let r = read_of (goal.at.Joined-j-walk k).After-label_of-j in
    found-on (by l) (rep l) (A (base l)) (B (base l)) _ _ x _ _ _ _ h (inside (in-of r)) (label r) (label_is r x h) _ _ (number k) (high k) (found-either k x h) _ _ (stretched c x h)

pub loop-reached-smaller : goal.loop-reached-smaller
loop-reached-smaller c = let f = (goal.at.loop-reached-smaller c).After-fill_stretch-reached in let l = at-known (known_at f) in omega (arith, goes_on f, (stretched f (before l) (holds l)).follows.in-room)

pub loop-reached-preserved : goal.loop-reached-preserved
loop-reached-preserved c = λ x g.
    let f = (goal.at.loop-reached-preserved c).After-fill_stretch-reached in
    let k = known_at f in
    let l = at-known k in
    let h = l.loop-reached.invariant x g in
    let r = read_of (goal.at.Joined-j-walk k).After-label_of-j in
    altering-next (by l) (rep l) (A (base l)) (B (base l)) _ _ x _ _ _ _ h (inside (in-of r)) (label r) (label_is r x h) _ _ (number k) (high k) (found-either k x h) _ _ (stretched f x h) (within (within_of f))

-- ---- the end
pub shape_of-pool : goal.shape_of-pool
shape_of-pool c = same (goal.at.shape_of-pool c).At-loop-reached

pub returns : goal.returns
returns c = let l = (goal.at.returns c).At-loop-reached in as-filled (base l) _ _ (altering-done _ _ _ _ _ _ _ _ _ _ _ (holds l) c.loop-reached-test.false)
