-- `fill_by_granule::selecting::fill_granules` meets its contract: each turn of the loop decides a granule of a and writes the cells of its instants.
--     Begun        before the loop: its invariant, the rows that are lent, and the cells before the first label
--     Turning      a turn: what is decided, and what holds behind it
-- Assumes nothing.
use Rattle.calendar.specs.declared.Refusal.{Refusal}
use Rattle.std.specs.Prelude.{Result, ⊤}
use borrow.Author.Rules.{rules, sfits_of}
use mathlib.Core.Path.{◌≡◌, refl, sym, ◌∙◌}
use mathlib.Core.Bool.{true, false, ◌||◌}
use mathlib.Core.List.{List}
use Prim.Native.Nat.{◌-◌, ◌^◌, ◌≤◌, ◌<◌}
use native.Mathlib.Omega.{arith}
use lib.IntN.{ℤ, pos, ◌+ℤ◌}
use lib.ListN.{length}
use Rattle.integers.proofs.Machine.{plain}
use Rattle.calendar.specs.Limits.{pool_limit, in_range}
use Rattle.calendar.specs.Meaning.{Row, meant}
use Rattle.calendar.specs.Sound.{sound}
use Rattle.cursors.specs.Cursor.{cursor_at, Standing, Shown}
use Rattle.kinds.specs.declared.Selection.{Selection}
use Rattle.kinds.specs.declared.Kind.TheVariants.{Select}
use Rattle.kinds.specs.Operations.{operation_of}
use Rattle.kinds.specs.Stands.{row_in}
use Rattle.fill_shared.proofs.Cells.{lent_is}
use Rattle.fill_shared.specs.Placed.{Fills}
use Rattle.fill_shared.proofs.Filling.{Lent, Filling, lent_of, row_of, first_two, fills_two, filling-length, rows-stood, rows-kept, filling-out, filling-done}
use Rattle.fill_stretches.proofs.Stretching.{filling-led}
use Rattle.fill_by_granule.proofs.Selects.{Selecting, unlabelled, selecting-none, decided-label, selecting-next, granule-on}
use borrow.Author.Tests.{not-false, not-true}
use mathlib.Core.Option.{Option, some}
use mir.Facts.{to_z-of_z}
use mir.Syntax.{w32, w64}
use mir.Val.{SFits, to_z, of_z}
use Rattle.integers.proofs.Linear.{ints, ◌∴◌}
use Rattle.calendar.specs.Lists.{is_some, if_label, first, only, equal}
use Rattle.calendar.specs.Granules.{granule}
use Rattle.calendar.specs.Compute.{result, cell_of}
use Rattle.cursors.specs.Found.{found, Within, Near}
use Rattle.cursors.specs.declared.Cursor.{Cursor}
use Rattle.cursors.proofs.Numbers.{valid}
use Rattle.kinds.specs.Limits.{Picking}
use Rattle.select_granules.specs.Memos.{Remembers}
use Rattle.select_granules.specs.Deciding.{Decides}
use Rattle.fill_shared.proofs.Points.{label_small}
use Rattle.fill_stretches.specs.Stretch.{Stretched, Follows}
use Rattle.fill_stretches.proofs.Stages.{cell-fits, room-a}
use lib.Signed.{◌≤ℤ◌}
use Rattle.fill_by_granule.proofs.selecting.fill_granules.Goals as goal
use Rattle.fill_by_granule.proofs.selecting.fill_granules.Goals.{After-cursor_on-b_cursor, After-decided-decision, After-end_of-a_end, After-fill_leading-reached, After-fill_stretch-next, After-kept-label, After-label_of-j, After-struct_told-4-1, After-unknown-picked, At-loop-reached, Else-not-in_limits, In-loop-reached, Start}

-- ---- the rows that are lent, as they stood before the loop
abbrev Base : Type 0
Base = After-struct_told-4-1

abbrev entry : Base → Start
entry k = (goal.at.After-struct_told-4-1 k).Start

abbrev old : Base → List ℤ
old k = (entry k).args.pool.now

abbrev by : Base → Selection
by k = (entry k).args.by

abbrev A : Base → Lent
A k = lent_of (entry k).args.a k.end_of-a_end.result

abbrev B : Base → Lent
B k = lent_of (entry k).args.b k.end_of-b_end.result

abbrev a-row : Base → Row
a-row k = row_of (A k) (old k)

abbrev b-row : Base → Row
b-row k = row_of (B k) (old k)

a-is : (k : Base) → a-row k ≡ row_in (old k) (entry k).args.a
a-is k =
    let e = (goal.at.After-struct_told-4-1 k).After-end_of-a_end in
    lent_is (entry k).args.a _ _ e.end_of-a_end.ensures (sfits_of k.struct_told-1.given.1.0.1) (sfits_of k.struct_told-2-1.given.1.1.0.1)

b-is : (k : Base) → b-row k ≡ row_in (old k) (entry k).args.b
b-is k = lent_is (entry k).args.b _ _ k.end_of-b_end.ensures (sfits_of k.struct_told-3-1.given.1.0.1) (sfits_of k.struct_told-4-1.given.1.1.0.1)

-- what holds before the loop
start : (k : Base) → let s = entry k in Filling (Select (by k)) (A k) (B k) s.args.at s.args.period (old k) (old k) false 0
start k =
    let s = entry k in
    first_two _ _ refl s.args.a s.args.b _ _ _ _ _ k.end_of-a_end.ensures (a-is k) _ k.end_of-b_end.ensures (b-is k) s.requires.fillable s.requires.placed

-- what the loop ensures, over the operands
as-filled : (k : Base) (new : List ℤ) (r : Result ⊤ Refusal) → let s = entry k in Fills (operation_of (Select (by k)) (a-row k) (b-row k)) s.args.at s.args.period (old k) new r
    → Fills (operation_of (Select (by k)) (row_in (old k) s.args.a) (row_in (old k) s.args.b)) s.args.at s.args.period (old k) new r
as-filled k new r h =
    let s = entry k in
    fills_two (Select (by k)) (Select (by k)) refl s.args.a s.args.b s.args.span s.args.at s.args.period _ _ k.end_of-a_end.ensures (a-is k) _ k.end_of-b_end.ensures (b-is k) new r h

a-sound : (k : Base) → sound (a-row k) ≡ true
a-sound k = (start k).lends.is-fillable.sounds.0

b-sound : (k : Base) → sound (b-row k) ≡ true
b-sound k = (start k).lends.is-fillable.sounds.1

-- the parts that are lent lie in the pool
a-part : (k : Base) (new : List ℤ) → length new ≡ length (old k) → ((A k).start ≤ (A k).end) × ((A k).end ≤ length new) × ((A k).end ≤ pool_limit)
a-part k new e = let l = (start k).lends in (l.a-start, omega (arith, l.a-end, l.room), omega (arith, l.a-end, l.room, l.few))

b-part : (k : Base) (new : List ℤ) → length new ≡ length (old k) → ((B k).start ≤ (B k).end) × ((B k).end ≤ length new) × ((B k).end ≤ pool_limit)
b-part k new e = let l = (start k).lends in (l.b-start, omega (arith, l.b_end, l.room), omega (arith, l.b_end, l.room, l.few))

-- ---- up to the first label
-- the pool then
abbrev led-pool : After-fill_leading-reached → List ℤ
led-pool c = c.fill_leading-reached.new.pool

led : (c : After-fill_leading-reached) → let k = (goal.at.After-fill_leading-reached c).After-struct_told-4-1 in let s = entry k in
    Filling (Select (by k)) (A k) (B k) s.args.at s.args.period (old k) (led-pool c) false c.fill_leading-reached.result.t
led c =
    let k = (goal.at.After-fill_leading-reached c).After-struct_told-4-1 in
    filling-led _ (A k) (B k) _ _ (old k) (a-row k) _ _ (start k) c.fill_leading-reached.ensures (unlabelled (by k) (A k) (B k) (entry k).args.at (entry k).args.period (old k))

led-part : (c : After-fill_leading-reached) → let k = (goal.at.After-fill_leading-reached c).After-struct_told-4-1 in ((B k).start ≤ (B k).end) × ((B k).end ≤ length (led-pool c)) × ((B k).end ≤ pool_limit)
led-part c = b-part (goal.at.After-fill_leading-reached c).After-struct_told-4-1 (led-pool c) (filling-length _ _ _ _ _ _ _ _ _ (led c))

-- how far that is
led-few : (c : After-fill_leading-reached) → c.fill_leading-reached.result.t ≤ pool_limit
led-few c = let l = (led c).lends in omega (arith, c.fill_leading-reached.ensures.follows.in-room, l.room, l.few)

-- what holds before the loop
started : (c : After-unknown-picked) → let f = (goal.at.After-unknown-picked c).After-fill_leading-reached in let k = (goal.at.After-fill_leading-reached f).After-struct_told-4-1 in let s = entry k in
    Selecting (by k) (A k) (B k) s.args.at s.args.period (old k) (led-pool f) f.fill_leading-reached.result c.cursor_at-b_cursor.result false c.unknown-picked.result false
started c =
    let f = (goal.at.After-unknown-picked c).After-fill_leading-reached in
    let k = (goal.at.After-fill_leading-reached f).After-struct_told-4-1 in
    let n : f.fill_leading-reached.result.t < 2 ^ 63 = omega (arith, led-few f) in
    selecting-none (by k) (A k) (B k) _ _ (old k) _ _ _ _ (start k) f.fill_leading-reached.ensures
    (rows-stood _ _ _ _ _ _ _ _ _ (led f) (λ x y. c.cursor_at-b_cursor.result ≡ cursor_at y (pos f.fill_leading-reached.result.t)) (simp plain at c.cursor_at-b_cursor.ensures))
    c.unknown-picked.ensures

-- ---- before a granule
abbrev At : Type 0
At = At-loop-reached

-- the loop goes on
abbrev In : Type 0
In = In-loop-reached

abbrev at_of : In → At
at_of c = (goal.at.In-loop-reached c).At-loop-reached

abbrev base : At → Base
base l = (goal.at.At-loop-reached l).After-struct_told-4-1

-- what holds then, over any pool in which the rows stood
abbrev Holds : At → List ℤ → Type 0
Holds l x =
    let k = base l in
    let s = entry k in
    Selecting (by k) (A k) (B k) s.args.at s.args.period x l.loop-reached.pool l.loop-reached.reached l.loop-reached.b_cursor l.loop-reached.fresh l.loop-reached.picked l.loop-reached.labelled

holds : (l : At) → Holds l (old (base l))
holds l = l.loop-reached.invariant (old (base l)) (started (goal.at.At-loop-reached l).After-unknown-picked)

same : (l : At) → length l.loop-reached.pool ≡ length (old (base l))
same l = filling-length _ _ _ _ _ _ _ _ _ (holds l).along.stage.filling

-- the instant is before the last one
inside : (c : In) → (at_of c).loop-reached.reached.t < (entry (base (at_of c))).args.period
inside c = c.loop-reached-test.true

-- and so is near
few : (c : In) → (at_of c).loop-reached.reached.t < pool_limit
few c = let l = (holds (at_of c)).along.stage.filling.lends in omega (arith, inside c, l.room, l.few)

module _ (l : At) (x : List ℤ) (h : Holds l x) where
  -- what holds of the rows as they stood holds of them as they stand, and back
  pub kept : (P : Row → Row → Type 0) → let k = base l in P (row_of (A k) x) (row_of (B k) x) → P (row_of (A k) l.loop-reached.pool) (row_of (B k) l.loop-reached.pool)
  kept P p = rows-kept _ _ _ _ _ _ _ _ _ h.along.stage.filling P p

  pub stood : (P : Row → Row → Type 0) → let k = base l in P (row_of (A k) l.loop-reached.pool) (row_of (B k) l.loop-reached.pool) → P (row_of (A k) x) (row_of (B k) x)
  stood P p = rows-stood _ _ _ _ _ _ _ _ _ h.along.stage.filling P p

  pub rows-sound : let k = base l in (sound (row_of (A k) x) ≡ true) × (sound (row_of (B k) x) ≡ true)
  rows-sound = h.along.stage.filling.lends.is-fillable.sounds

-- ---- its label
abbrev Shown_own : Type 0
Shown_own = After-label_of-j

abbrev in-of : Shown_own → In
in-of c = (goal.at.After-label_of-j c).In-loop-reached

abbrev loop-at : Shown_own → At
loop-at c = at_of (in-of c)

abbrev label : Shown_own → ℤ
label c = c.label_of-j.result

label_is : (c : Shown_own) (x : List ℤ) → Holds (loop-at c) x → let l = loop-at c in meant (row_of (A (base l)) x) (pos l.loop-reached.reached.t) ≡ some (label c)
label_is c x h =
    let l = loop-at c in
    let t = pos l.loop-reached.reached.t in
    stood l x h (λ y z. meant y t ≡ some (label c)) (c.label_of-j.ensures t (kept l x h (λ y z. l.loop-reached.reached.cursor ≡ cursor_at y t) h.along.stage.follows.cursor))

label-fits : (c : Shown_own) → SFits w64 (label c)
label-fits c =
    let l = loop-at c in
    let k = base l in
    let n = few (in-of c) in
    label_small (A k).period (A k).distance (a-row k).cells (a-sound k) (pos l.loop-reached.reached.t) (label c) (simp ints (omega arith)) (simp ints (omega arith)) (label_is c (old k) (holds l))
    ∴ simp ints (omega arith)

-- ---- whether it is kept
-- what is asked of the rows x and y: t is the instant and j the label
abbrev Asks : (l : At) → ℤ → ℤ → Row → Row → Type 0
Asks l t j x y =
    (sound x ≡ true) × (sound y ≡ true) × Picking (by (base l)) × Remembers (by (base l)) x y l.loop-reached.picked
    × Within (2 ^ 49) t × (meant x t ≡ some j) × (l.loop-reached.reached.cursor ≡ cursor_at x t) × (l.loop-reached.b_cursor ≡ cursor_at y t) × (l.loop-reached.fresh ≡ true → t ≡ first (granule x j))

abbrev Decided : Type 0
Decided = After-decided-decision

abbrev shown : Decided → Shown_own
shown c = (goal.at.After-decided-decision c).After-label_of-j

decides : (c : Decided) (x : List ℤ) → Holds (loop-at (shown c)) x → let l = loop-at (shown c) in Decides (by (base l)) (row_of (A (base l)) x) (row_of (B (base l)) x) (label (shown c)) c.decided-decision.result
decides c x h =
    let l = loop-at (shown c) in
    stood l x h (λ y z. Decides (by (base l)) y z (label (shown c)) c.decided-decision.result) (rw (to_z-of_z (label-fits (shown c))) at c.decided-decision.ensures)

-- the label that its instants get
abbrev Labelled : Type 0
Labelled = After-kept-label

abbrev decided-of : Labelled → Decided
decided-of c = (goal.at.After-kept-label c).After-decided-decision

abbrev at_label : Labelled → At
at_label c = loop-at (shown (decided-of c))

abbrev given-label : Labelled → Option ℤ
given-label c = found c.kept-label.result

given_is : (c : Labelled) → given-label c ≡ only (label (shown (decided-of c))) (equal (decided-of c).decided-decision.result.holds (pos 1))
given_is c =
    let j = label-fits (shown (decided-of c)) in
    let h : SFits w64 (decided-of c).decided-decision.result.holds = search rules in
    simp plain at c.kept-label.ensures

given-result : (c : Labelled) → let l = at_label c in let k = base l in given-label c ≡ result (operation_of (Select (by k)) (a-row k) (b-row k)) (pos l.loop-reached.reached.t)
given-result c =
    let d = decided-of c in
    let l = at_label c in
    let k = base l in
    given_is c ∙ decided-label (by k) (A k) (B k) _ _ (old k) _ _ _ _ _ _ (holds l) (inside (in-of (shown d))) (label (shown d)) (label_is (shown d) (old k) (holds l)) d.decided-decision.result (decides d (old k) (holds l))

-- ---- its instants
abbrev Filled_own : Type 0
Filled_own = After-fill_stretch-next

abbrev labelled-of : Filled_own → Labelled
labelled-of c = (goal.at.After-fill_stretch-next c).After-kept-label

abbrev at-filled : Filled_own → At
at-filled c = at_label (labelled-of c)

abbrev filled-pool : Filled_own → List ℤ
filled-pool c = c.fill_stretch-next.new.pool

in-range : (c : Else-not-in_limits) → if_label (given-label (goal.at.Else-not-in_limits c).After-kept-label) in_range ≡ true
in-range c = sym c.in_limits.ensures ∙ not-false _ c.if-not-in_limits.false-raw

cell-is : (c : Filled_own) → to_z w32 (of_z w32 c.cell_of.result) ≡ cell_of (given-label (labelled-of c))
cell-is c =
    let e = c.cell_of.ensures in
    let r = in-range (goal.at.After-fill_stretch-next c).Else-not-in_limits in
    to_z-of_z (rw (sym e) at (cell-fits (given-label (labelled-of c)) r)) ∙ e

stretched : (c : Filled_own) (x : List ℤ) → Holds (at-filled c) x → let l = at-filled c in let k = base l in
    Stretched (cell_of (given-label (labelled-of c))) (label (shown (decided-of (labelled-of c)))) (row_of (A k) x) (entry k).args.at (entry k).args.period l.loop-reached.pool l.loop-reached.reached c.fill_stretch-next.result (filled-pool c)
stretched c x h =
    let l = at-filled c in
    let k = base l in
    stood l x h (λ y z. Stretched (cell_of (given-label (labelled-of c))) (label (shown (decided-of (labelled-of c)))) y (entry k).args.at (entry k).args.period l.loop-reached.pool l.loop-reached.reached c.fill_stretch-next.result (filled-pool c))
    (rw (cell-is c, to_z-of_z (label-fits (shown (decided-of (labelled-of c))))) at c.fill_stretch-next.ensures)

-- what holds behind them, with the next cursor in b
filled : (c : Filled_own) (x : List ℤ) → Holds (at-filled c) x → (next : Cursor) → let l = at-filled c in let k = base l in next ≡ cursor_at (row_of (B k) x) (pos c.fill_stretch-next.result.t)
    → Selecting (by k) (A k) (B k) (entry k).args.at (entry k).args.period x (filled-pool c) c.fill_stretch-next.result next true (decided-of (labelled-of c)).decided-decision.result.picked (is_some (given-label (labelled-of c)) || l.loop-reached.labelled)
filled c x h next e =
    let l = at-filled c in
    let k = base l in
    let y = labelled-of c in
    let d = decided-of y in
    selecting-next (by k) (A k) (B k) _ _ x _ _ _ _ _ _ h (inside (in-of (shown d))) (label (shown d)) (label_is (shown d) x h) d.decided-decision.result (decides d x h)
    (valid (A k).period (A k).distance (row_of (A k) x).cells (rows-sound l x h).0) _ _ (given-label y) (given_is y) (in-range (goal.at.After-fill_stretch-next c).Else-not-in_limits) (stretched c x h) next e

goes_on : (c : Filled_own) → (at-filled c).loop-reached.reached.t < c.fill_stretch-next.result.t
goes_on c =
    let l = at-filled c in
    let k = base l in
    let y = labelled-of c in
    let d = decided-of y in
    granule-on (by k) (A k) (B k) _ _ (old k) _ _ _ _ _ _ (holds l) (inside (in-of (shown d))) (label (shown d)) (label_is (shown d) (old k) (holds l)) d.decided-decision.result (decides d (old k) (holds l))
    (valid (A k).period (A k).distance (a-row k).cells (a-sound k)) _ _ (given-label y) (given_is y) (in-range (goal.at.After-fill_stretch-next c).Else-not-in_limits) (stretched c (old k) (holds l))

-- ---- the rows that are lent
pub end_of-a_end-requires : goal.end_of-a_end-requires
end_of-a_end-requires c = record { pos_bound = c.requires.placed.a-period; a_bound = c.requires.placed.a-end }

pub end_of-b_end-requires : goal.end_of-b_end-requires
end_of-b_end-requires c = let s = (goal.at.end_of-b_end-requires c).Start in record { pos_bound = s.requires.placed.b-period; a_bound = s.requires.placed.b_end }

-- ---- up to the first label
pub fill_leading-reached-requires : goal.fill_leading-reached-requires
fill_leading-reached-requires c = let k = (goal.at.fill_leading-reached-requires c).After-struct_told-4-1 in room-a _ (A k) (B k) _ _ (old k) _ _ _ (start k) (a-sound k)

pub offset_bounds-pool-b_start : goal.offset_bounds-pool-b_start
offset_bounds-pool-b_start c = let h = led-part (goal.at.offset_bounds-pool-b_start c).After-fill_leading-reached in omega arith

pub slice_bounds-cursor_at-count : goal.slice_bounds-cursor_at-count
slice_bounds-cursor_at-count c = (led-part (goal.at.slice_bounds-cursor_at-count c).After-fill_leading-reached).0

pub slice_bounds-cursor_at-start : goal.slice_bounds-cursor_at-start
slice_bounds-cursor_at-start c = (led-part (goal.at.slice_bounds-cursor_at-start c).After-fill_leading-reached).0

pub slice_bounds-cursor_at-end : goal.slice_bounds-cursor_at-end
slice_bounds-cursor_at-end c = (led-part (goal.at.slice_bounds-cursor_at-end c).After-fill_leading-reached).1

pub overflow_cast-reached : goal.overflow_cast-reached
overflow_cast-reached c = let h = led-few (goal.at.overflow_cast-reached c).After-fill_leading-reached in simp ints (omega arith)

pub cursor_at-b_cursor-requires : goal.cursor_at-b_cursor-requires
cursor_at-b_cursor-requires c =
    let f = (goal.at.cursor_at-b_cursor-requires c).After-fill_leading-reached in
    let h = led-few f in
    let n : f.fill_leading-reached.result.t < 2 ^ 63 = omega arith in
    record { sound = (rows-kept _ _ _ _ _ _ _ _ _ (led f) (λ x y. (sound y ≡ true) × Near (to_z w64 (of_z w64 (pos f.fill_leading-reached.result.t)))) (b-sound (goal.at.After-fill_leading-reached f).After-struct_told-4-1, simp plain (simp ints (omega arith)))).0; near = (rows-kept _ _ _ _ _ _ _ _ _ (led f) (λ x y. (sound y ≡ true) × Near (to_z w64 (of_z w64 (pos f.fill_leading-reached.result.t)))) (b-sound (goal.at.After-fill_leading-reached f).After-struct_told-4-1, simp plain (simp ints (omega arith)))).1 }

pub loop-reached-init : goal.loop-reached-init
loop-reached-init c = λ x h. h

-- ---- a granule
pub offset_bounds-pool-a_start : goal.offset_bounds-pool-a_start
offset_bounds-pool-a_start c = let l = at_of c in let h = a-part (base l) l.loop-reached.pool (same l) in omega arith

pub slice_bounds-label_of-count : goal.slice_bounds-label_of-count
slice_bounds-label_of-count c = let l = at_of c in (a-part (base l) l.loop-reached.pool (same l)).0

pub slice_bounds-label_of-start : goal.slice_bounds-label_of-start
slice_bounds-label_of-start c = let l = at_of (goal.at.slice_bounds-label_of-start c).In-loop-reached in (a-part (base l) l.loop-reached.pool (same l)).0

pub slice_bounds-label_of-end : goal.slice_bounds-label_of-end
slice_bounds-label_of-end c = let l = at_of (goal.at.slice_bounds-label_of-end c).In-loop-reached in (a-part (base l) l.loop-reached.pool (same l)).1

pub label_of-j-requires : goal.label_of-j-requires
label_of-j-requires c =
    let i = (goal.at.label_of-j-requires c).In-loop-reached in
    let l = at_of i in
    let k = base l in
    let h = holds l in
    let n = few i in
    record { sound = (kept l (old k) h (λ x y. (sound x ≡ true) × Shown x l.loop-reached.reached.cursor) (a-sound k, (pos l.loop-reached.reached.t, simp ints (omega arith), h.along.stage.follows.cursor, h.along.stage.stops (inside i)))).0; shown = (kept l (old k) h (λ x y. (sound x ≡ true) × Shown x l.loop-reached.reached.cursor) (a-sound k, (pos l.loop-reached.reached.t, simp ints (omega arith), h.along.stage.follows.cursor, h.along.stage.stops (inside i)))).1 }

pub overflow_cast-reached-in-loop-reached : goal.overflow_cast-reached-in-loop-reached
overflow_cast-reached-in-loop-reached c = let h = few (in-of (goal.at.overflow_cast-reached-in-loop-reached c).After-label_of-j) in simp ints (omega arith)

pub offset_bounds-pool-a_start-in-loop-reached : goal.offset_bounds-pool-a_start-in-loop-reached
offset_bounds-pool-a_start-in-loop-reached c = let l = loop-at (goal.at.offset_bounds-pool-a_start-in-loop-reached c).After-label_of-j in let h = a-part (base l) l.loop-reached.pool (same l) in omega arith

pub slice_bounds-decided-count : goal.slice_bounds-decided-count
slice_bounds-decided-count c = let l = loop-at (goal.at.slice_bounds-decided-count c).After-label_of-j in (a-part (base l) l.loop-reached.pool (same l)).0

pub slice_bounds-decided-start : goal.slice_bounds-decided-start
slice_bounds-decided-start c = let l = loop-at (goal.at.slice_bounds-decided-start c).After-label_of-j in (a-part (base l) l.loop-reached.pool (same l)).0

pub slice_bounds-decided-end : goal.slice_bounds-decided-end
slice_bounds-decided-end c = let l = loop-at (goal.at.slice_bounds-decided-end c).After-label_of-j in (a-part (base l) l.loop-reached.pool (same l)).1

pub offset_bounds-pool-b_start-in-loop-reached : goal.offset_bounds-pool-b_start-in-loop-reached
offset_bounds-pool-b_start-in-loop-reached c = let l = loop-at (goal.at.offset_bounds-pool-b_start-in-loop-reached c).After-label_of-j in let h = b-part (base l) l.loop-reached.pool (same l) in omega arith

pub slice_bounds-decided-count-in-loop-reached : goal.slice_bounds-decided-count-in-loop-reached
slice_bounds-decided-count-in-loop-reached c = let l = loop-at (goal.at.slice_bounds-decided-count-in-loop-reached c).After-label_of-j in (b-part (base l) l.loop-reached.pool (same l)).0

pub slice_bounds-decided-start-in-loop-reached : goal.slice_bounds-decided-start-in-loop-reached
slice_bounds-decided-start-in-loop-reached c = let l = loop-at (goal.at.slice_bounds-decided-start-in-loop-reached c).After-label_of-j in (b-part (base l) l.loop-reached.pool (same l)).0

pub slice_bounds-decided-end-in-loop-reached : goal.slice_bounds-decided-end-in-loop-reached
slice_bounds-decided-end-in-loop-reached c = let l = loop-at (goal.at.slice_bounds-decided-end-in-loop-reached c).After-label_of-j in (b-part (base l) l.loop-reached.pool (same l)).1

pub decided-decision-requires : goal.decided-decision-requires
decided-decision-requires c =
    let s = (goal.at.decided-decision-requires c).After-label_of-j in
    let l = loop-at s in
    let k = base l in
    let h = holds l in
    let n = few (in-of s) in
    let m : l.loop-reached.reached.t < 2 ^ 63 = omega arith in
    let j = label-fits s in
    let e = label_is s (old k) h in
    let T = to_z w64 (of_z w64 (pos l.loop-reached.reached.t)) in
    let J = to_z w64 (of_z w64 (label s)) in
    let r : Asks l T J (row_of (A k) l.loop-reached.pool) (row_of (B k) l.loop-reached.pool) = kept l (old k) h (Asks l T J) (simp plain (a-sound k, b-sound k, (start k).lends.is-fillable.numbers, h.remembers, simp ints (omega arith), e, h.along.stage.follows.cursor, h.along.is-cursor, λ f. h.along.begins f (inside (in-of s)) (label s) e)) in
    record { sound = r.0; sound_2 = r.1; picking = r.2; remembers = r.3; within = r.4; t_value = r.5; a_value = r.6; b_value = r.7; t_value_2 = r.8 }

pub shape_of-pool-then-not-in_limits : goal.shape_of-pool-then-not-in_limits
shape_of-pool-then-not-in_limits c = same (at_label (goal.at.shape_of-pool-then-not-in_limits c).After-kept-label)

pub returns-then-not-in_limits : goal.returns-then-not-in_limits
returns-then-not-in_limits c =
    let y = (goal.at.returns-then-not-in_limits c).After-kept-label in
    let l = at_label y in
    as-filled (base l) _ _
    (filling-out _ _ _ _ _ _ _ _ _ (holds l).along.stage.filling (inside (in-of (shown (decided-of y)))) (given-label y) (given-result y) _ refl (sym c.in_limits.ensures ∙ not-true _ c.if-not-in_limits.true-raw))

pub cell_of-requires : goal.cell_of-requires
cell_of-requires c = in-range c

-- ---- its instants
pub fill_stretch-next-requires : goal.fill_stretch-next-requires
fill_stretch-next-requires c =
    let l = at_label (goal.at.fill_stretch-next-requires c).After-kept-label in
    let k = base l in
    let h = holds l in
    record { room = room-a _ (A k) (B k) _ _ (old k) _ _ _ h.along.stage.filling (a-sound k); follows = kept l (old k) h (λ x y. Follows x (entry k).args.period l.loop-reached.reached) h.along.stage.follows }

filled-part : (c : Filled_own) → let k = base (at-filled c) in ((B k).start ≤ (B k).end) × ((B k).end ≤ length (filled-pool c)) × ((B k).end ≤ pool_limit)
filled-part c = let l = at-filled c in let k = base l in b-part k (filled-pool c) (filling-length _ _ _ _ _ _ _ _ _ (filled c (old k) (holds l) _ refl).along.stage.filling)

filled-few : (c : Filled_own) → c.fill_stretch-next.result.t ≤ pool_limit
filled-few c = let l = at-filled c in let k = base l in let h = (filled c (old k) (holds l) _ refl).along.stage in let d = h.filling.lends in omega (arith, h.follows.in-room, d.room, d.few)

pub offset_bounds-pool-b_start-in-loop-reached-2 : goal.offset_bounds-pool-b_start-in-loop-reached-2
offset_bounds-pool-b_start-in-loop-reached-2 c = let h = filled-part (goal.at.offset_bounds-pool-b_start-in-loop-reached-2 c).After-fill_stretch-next in omega arith

pub slice_bounds-cursor_on-count : goal.slice_bounds-cursor_on-count
slice_bounds-cursor_on-count c = (filled-part (goal.at.slice_bounds-cursor_on-count c).After-fill_stretch-next).0

pub slice_bounds-cursor_on-start : goal.slice_bounds-cursor_on-start
slice_bounds-cursor_on-start c = (filled-part (goal.at.slice_bounds-cursor_on-start c).After-fill_stretch-next).0

pub slice_bounds-cursor_on-end : goal.slice_bounds-cursor_on-end
slice_bounds-cursor_on-end c = (filled-part (goal.at.slice_bounds-cursor_on-end c).After-fill_stretch-next).1

pub overflow_sub-next : goal.overflow_sub-next
overflow_sub-next c = let h = goes_on (goal.at.overflow_sub-next c).After-fill_stretch-next in omega arith

pub overflow_cast-next : goal.overflow_cast-next
overflow_cast-next c = let h = filled-few (goal.at.overflow_cast-next c).After-fill_stretch-next in simp ints (omega arith)

pub cursor_on-b_cursor-requires : goal.cursor_on-b_cursor-requires
cursor_on-b_cursor-requires c =
    let f = (goal.at.cursor_on-b_cursor-requires c).After-fill_stretch-next in
    let l = at-filled f in
    let k = base l in
    let p = l.loop-reached.reached.t in
    let n = filled-few f in
    let g = goes_on f in
    let m : f.fill_stretch-next.result.t - p < 2 ^ 63 = omega arith in
    let h = holds l in
    let D = to_z w64 (of_z w64 (pos (f.fill_stretch-next.result.t - p))) in
    let r = rows-kept _ _ _ _ _ _ _ _ _ (filled f (old k) h _ refl).along.stage.filling (λ x y. (sound y ≡ true) × Standing y l.loop-reached.b_cursor × ((pos 0 ≤ℤ D) × (D ≤ℤ pos (2 ^ 32))))
    (simp plain (b-sound k, (pos p, simp ints (omega arith), h.along.is-cursor), (simp ints (omega arith), simp ints (omega arith)))) in
    record { sound = r.0; standing = r.1; pos_bound = r.2 }

-- the cursor of the next instant
next-cursor : (c : After-cursor_on-b_cursor) (x : List ℤ) → let f = (goal.at.After-cursor_on-b_cursor c).After-fill_stretch-next in let l = at-filled f in Holds l x
    → c.cursor_on-b_cursor.result ≡ cursor_at (row_of (B (base l)) x) (pos f.fill_stretch-next.result.t)
next-cursor c x h =
    let f = (goal.at.After-cursor_on-b_cursor c).After-fill_stretch-next in
    let l = at-filled f in
    let p = l.loop-reached.reached.t in
    let q = f.fill_stretch-next.result.t in
    let n = filled-few f in
    let g = goes_on f in
    let m : q - p < 2 ^ 63 = omega arith in
    let t = (filled f x h _ refl).along.stage.filling in
    let e : pos p +ℤ pos (q - p) ≡ pos q = simp ints (omega arith) in
    rows-stood _ _ _ _ _ _ _ _ _ t (λ y z. c.cursor_on-b_cursor.result ≡ cursor_at z (pos q))
    (rw e at ((simp plain at c.cursor_on-b_cursor.ensures) (pos p) (rows-kept _ _ _ _ _ _ _ _ _ t (λ y z. l.loop-reached.b_cursor ≡ cursor_at z (pos p)) h.along.is-cursor)))

pub loop-reached-smaller : goal.loop-reached-smaller
loop-reached-smaller c =
    let f = (goal.at.loop-reached-smaller c).After-fill_stretch-next in
    let k = base (at-filled f) in
    let h = (filled f (old k) (holds (at-filled f)) _ refl).along.stage.follows.in-room in
    omega (arith, goes_on f, h)

pub loop-reached-preserved : goal.loop-reached-preserved
loop-reached-preserved c = λ x g.
    let f = (goal.at.loop-reached-preserved c).After-fill_stretch-next in
    let l = at-filled f in
    let h = l.loop-reached.invariant x g in
    rw c.any-labelled.ensures (filled f x h c.cursor_on-b_cursor.result (next-cursor (goal.at.loop-reached-preserved c).After-cursor_on-b_cursor x h))

pub shape_of-pool : goal.shape_of-pool
shape_of-pool c = same (goal.at.shape_of-pool c).At-loop-reached

pub returns : goal.returns
returns c =
    let l = (goal.at.returns c).At-loop-reached in
    as-filled (base l) _ _ (rw c.outcome.ensures (filling-done _ _ _ _ _ _ _ _ _ (holds l).along.stage.filling c.loop-reached-test.false))
