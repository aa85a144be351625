-- `fill_unary::grouping::fill_along` meets its contract: each turn of the loop finds the group of the next label, and writes the cells of the stretch that has it.
-- Assumes nothing.
use Rattle.calendar.specs.declared.Refusal.{Refusal}
use Rattle.std.specs.Prelude.{Result, ⊤}
use borrow.Author.Rules.{sfits_of}
use borrow.Author.Tests.{not-true, not-false}
use mathlib.Core.Path.{◌≡◌, refl, sym, ◌∙◌, ap}
use mathlib.Core.Option.{some}
use mathlib.Core.Bool.{true, false}
use mathlib.Core.List.{List}
use Prim.Native.Nat.{◌^◌, ◌≤◌, ◌<◌}
use native.Mathlib.Omega.{arith}
use lib.IntN.{ℤ, pos}
use lib.ListN.{length}
use mir.Facts.{to_z-of_z}
use mir.Syntax.{w32, w64}
use mir.Val.{SFits, to_z, of_z}
use Rattle.integers.proofs.Linear.{ints, ◌∴◌}
use Rattle.integers.proofs.Machine.{plain}
use Rattle.calendar.specs.Limits.{in_range, pool_limit}
use Rattle.calendar.specs.Meaning.{Row, meant}
use Rattle.calendar.specs.Sound.{sound}
use Rattle.cursors.specs.Found.{Within}
use Rattle.cursors.specs.Cursor.{cursor_at, Shown}
use Rattle.kinds.specs.declared.Kind.TheVariants.{Group}
use Rattle.kinds.specs.Operations.{operation_of}
use Rattle.kinds.specs.Stands.{row_in}
use Rattle.fill_shared.specs.Placed.{Fills}
use Rattle.fill_shared.proofs.Cells.{lent_is}
use Rattle.fill_shared.proofs.Points.{label_small}
use Rattle.fill_shared.proofs.Working.{range-fits}
use Rattle.fill_shared.proofs.Filling.{Lent, Filling, lent_of, row_of, first_one, fills_one, filling-length, rows-kept, rows-stood, filling-out}
use Rattle.fill_stretches.specs.Stretch.{Follows, Stretched}
use Rattle.fill_stretches.proofs.Stages.{room-a}
use Rattle.fill_unary.proofs.Ends.{labelled-done}
use Rattle.fill_unary.proofs.Along.{Grouping, GroupOf, grouping-led, group-label, group-on, grouping-next}
use Rattle.fill_unary.proofs.grouping.fill_along.Goals as goal
use Rattle.fill_unary.proofs.grouping.fill_along.Goals.{After-fill_leading-reached, After-fill_stretch-reached, After-group_of-group, After-in_range, After-label_of-j, After-struct_told-2-1, At-loop-reached, Else-not-in_range, In-loop-reached, Start}

-- ---- the row that is lent, as it stood before the loop
abbrev Told : Type 0
Told = After-struct_told-2-1

abbrev entry : Told → Start
entry c = (goal.at.After-struct_told-2-1 c).Start

abbrev old : Told → List ℤ
old c = (entry c).args.pool.now

-- the labels of a group, as the machine has them
abbrev X : Told → ℤ
X c = to_z w64 (of_z w64 (entry c).args.x)

abbrev A : Told → Lent
A c = lent_of (entry c).args.a c.end_of-end.result

pub end_of-end-requires : goal.end_of-end-requires
end_of-end-requires c = record { pos_bound = c.requires.placed.a-period; a_bound = c.requires.placed.a-end }

a-is : (c : Told) → row_of (A c) (old c) ≡ row_in (old c) (entry c).args.a
a-is c = lent_is (entry c).args.a _ _ c.end_of-end.ensures (sfits_of c.struct_told-1.given.1.0.1) (sfits_of c.struct_told-2-1.given.1.1.0.1)

-- what holds before the first instant
first : (c : Told) → let s = entry c in Filling (Group (X c)) (A c) (A c) s.args.at s.args.period (old c) (old c) false 0
first c =
    let s = entry c in
    first_one _ _ (ap Group (to_z-of_z s.ranges.x)) s.args.a s.args.b _ _ _ _ _ c.end_of-end.ensures (a-is c) refl s.requires.fillable s.requires.placed

a-sound : (c : Told) → sound (row_of (A c) (old c)) ≡ true
a-sound c = (first c).lends.is-fillable.sounds.0

-- what the loop ensures, over the operand
as-filled : (c : Told) (new : List ℤ) (r : Result ⊤ Refusal) → let s = entry c in Fills (operation_of (Group (X c)) (row_of (A c) (old c)) (row_of (A c) (old c))) s.args.at s.args.period (old c) new r
    → Fills (operation_of (Group s.args.x) (row_in (old c) s.args.a) (row_in (old c) s.args.b)) s.args.at s.args.period (old c) new r
as-filled c new r h =
    let s = entry c in
    fills_one (Group (X c)) (Group s.args.x) (ap Group (to_z-of_z s.ranges.x)) s.args.a s.args.b s.args.span s.args.at s.args.period _ _ c.end_of-end.ensures (a-is c) refl new r h

-- the part that is lent lies in the pool
part : (c : Told) (new : List ℤ) → length new ≡ length (old c) → ((A c).start ≤ (A c).end) × ((A c).end ≤ length new) × ((A c).end ≤ pool_limit)
part c new e = let l = (first c).lends in (l.a-start, omega (arith, l.a-end, l.room), omega (arith, l.a-end, l.room, l.few))

-- ---- up to the first label
pub fill_leading-reached-requires : goal.fill_leading-reached-requires
fill_leading-reached-requires c = let k = (goal.at.fill_leading-reached-requires c).After-struct_told-2-1 in room-a _ (A k) (A k) _ _ (old k) _ _ _ (first k) (a-sound k)

started : (c : After-fill_leading-reached) → let k = (goal.at.After-fill_leading-reached c).After-struct_told-2-1 in let s = entry k in
    Grouping (X k) (A k) s.args.at s.args.period (old k) c.fill_leading-reached.new.pool c.fill_leading-reached.result
started c = let k = (goal.at.After-fill_leading-reached c).After-struct_told-2-1 in grouping-led (X k) (A k) _ _ (old k) _ _ (first k) c.fill_leading-reached.ensures

pub loop-reached-init : goal.loop-reached-init
loop-reached-init c = λ x h. h

-- ---- a turn: the label
abbrev At : Type 0
At = At-loop-reached

-- the loop goes on
abbrev In : Type 0
In = In-loop-reached

abbrev at_of : In → At
at_of c = (goal.at.In-loop-reached c).At-loop-reached

abbrev base : At → Told
base l = (goal.at.At-loop-reached l).After-struct_told-2-1

-- what holds before the turn, over a pool in which the row stood
abbrev Holds : At → List ℤ → Type 0
Holds l x = let k = base l in let s = entry k in Grouping (X k) (A k) s.args.at s.args.period x l.loop-reached.pool l.loop-reached.reached

holds : (l : At) → Holds l (old (base l))
holds l = l.loop-reached.invariant (old (base l)) (started (goal.at.At-loop-reached l).After-fill_leading-reached)

same : (l : At) → length l.loop-reached.pool ≡ length (old (base l))
same l = filling-length _ _ _ _ _ _ _ _ _ (holds l).stage.filling

at_part : (l : At) → let k = A (base l) in (k.start ≤ k.end) × (k.end ≤ length l.loop-reached.pool) × (k.end ≤ pool_limit)
at_part l = part (base l) l.loop-reached.pool (same l)

-- the instant is before the last one
inside : (c : In) → (at_of c).loop-reached.reached.t < (entry (base (at_of c))).args.period
inside c = c.loop-reached-test.true

few : (c : In) → (at_of c).loop-reached.reached.t < pool_limit
few c = let l = (holds (at_of c)).stage.filling.lends in omega (arith, inside c, l.room, l.few)

module _ (l : At) (x : List ℤ) (h : Holds l x) where
  -- what holds of the row as it stood holds of it as it stands, and back
  kept : (P : Row → Type 0) → P (row_of (A (base l)) x) → P (row_of (A (base l)) l.loop-reached.pool)
  kept P p = rows-kept _ _ _ _ _ _ _ _ _ h.stage.filling (λ y z. P y) p

  stood : (P : Row → Type 0) → P (row_of (A (base l)) l.loop-reached.pool) → P (row_of (A (base l)) x)
  stood P p = rows-stood _ _ _ _ _ _ _ _ _ h.stage.filling (λ y z. P y) p

pub offset_bounds-pool-start : goal.offset_bounds-pool-start
offset_bounds-pool-start c = let h = at_part (at_of c) in omega arith

pub slice_bounds-label_of-count : goal.slice_bounds-label_of-count
slice_bounds-label_of-count c = (at_part (at_of c)).0

pub slice_bounds-label_of-start : goal.slice_bounds-label_of-start
slice_bounds-label_of-start c = (at_part (at_of (goal.at.slice_bounds-label_of-start c).In-loop-reached)).0

pub slice_bounds-label_of-end : goal.slice_bounds-label_of-end
slice_bounds-label_of-end c = (at_part (at_of (goal.at.slice_bounds-label_of-end c).In-loop-reached)).1

pub label_of-j-requires : goal.label_of-j-requires
label_of-j-requires c =
    let i = (goal.at.label_of-j-requires c).In-loop-reached in
    let l = at_of i in
    let k = base l in
    let h = holds l in
    let n = few i in
    let r = kept l (old k) h (λ y. (sound y ≡ true) × Shown y l.loop-reached.reached.cursor) (a-sound k, (pos l.loop-reached.reached.t, simp ints (omega arith), h.stage.follows.cursor, h.stage.stops (inside i))) in
    record { sound = r.0; shown = r.1 }

abbrev Read : Type 0
Read = After-label_of-j

abbrev in-of : Read → In
in-of c = (goal.at.After-label_of-j c).In-loop-reached

abbrev read_at : Read → At
read_at c = at_of (in-of c)

abbrev label : Read → ℤ
label c = c.label_of-j.result

label_is : (c : Read) (x : List ℤ) → let l = read_at c in Holds l x → meant (row_of (A (base l)) x) (pos l.loop-reached.reached.t) ≡ some (label c)
label_is c x h =
    let l = read_at c in
    let t = pos l.loop-reached.reached.t in
    stood l x h (λ y. meant y t ≡ some (label c)) (c.label_of-j.ensures t (kept l x h (λ y. l.loop-reached.reached.cursor ≡ cursor_at y t) h.stage.follows.cursor))

small : (c : Read) → Within (2 ^ 40) (label c)
small c =
    let l = read_at c in
    let k = base l in
    let n = few (in-of c) in
    label_small (A k).period (A k).distance (row_of (A k) (old k)).cells (a-sound k) (pos l.loop-reached.reached.t) (label c) (simp ints (omega arith)) (simp ints (omega arith)) (label_is c (old k) (holds l))

label-fits : (c : Read) → SFits w64 (label c)
label-fits c = small c ∴ simp ints (omega arith)

-- ---- its group
pub group_of-group-requires : goal.group_of-group-requires
group_of-group-requires c =
    let j = label-fits c in
    let n = (first (base (read_at c))).lends.is-fillable.numbers in
    record { pos_bound = n; within = simp plain (small c) }

abbrev Known : Type 0
Known = After-group_of-group

abbrev at-known : Known → At
at-known c = read_at (goal.at.After-group_of-group c).After-label_of-j

known_of : (c : Known) → GroupOf (X (base (at-known c))) (label (goal.at.After-group_of-group c).After-label_of-j) c.group_of-group.result
known_of c = let j = label-fits (goal.at.After-group_of-group c).After-label_of-j in let e = simp plain at c.group_of-group.ensures in (e.of, (e.all, e.has))

range-is : (c : After-in_range) → c.in_range.result ≡ in_range c.group_of-group.result.number
range-is c =
    let n : SFits w64 c.group_of-group.result.number = sfits_of c.struct_told-in-loop-reached-1.given.0.1 in
    simp plain at c.in_range.ensures

pub shape_of-pool-then-not-in_range : goal.shape_of-pool-then-not-in_range
shape_of-pool-then-not-in_range c = same (at-known (goal.at.shape_of-pool-then-not-in_range c).After-group_of-group)

pub returns-then-not-in_range : goal.returns-then-not-in_range
returns-then-not-in_range c =
    let g = (goal.at.returns-then-not-in_range c).After-group_of-group in
    let l = at-known g in
    let k = base l in
    let h = holds l in
    let m = inside (in-of (goal.at.After-group_of-group g).After-label_of-j) in
    as-filled k _ _
    (filling-out _ _ _ _ _ _ _ _ _ h.stage.filling m (some g.group_of-group.result.number) (group-label (X k) (A k) _ _ (old k) _ _ h m (label (goal.at.After-group_of-group g).After-label_of-j) (label_is (goal.at.After-group_of-group g).After-label_of-j (old k) h) g.group_of-group.result (known_of g)) _ refl
    (sym (range-is (goal.at.returns-then-not-in_range c).After-in_range) ∙ not-true _ c.if-not-in_range.true-raw))

-- ---- its stretch
-- the group is within the limits
abbrev In-limits : Type 0
In-limits = Else-not-in_range

abbrev group-in : In-limits → Known
group-in c = (goal.at.Else-not-in_range c).After-group_of-group

within : (c : In-limits) → in_range (group-in c).group_of-group.result.number ≡ true
within c = sym (range-is (goal.at.Else-not-in_range c).After-in_range) ∙ not-false _ c.if-not-in_range.false-raw

number_fits : (c : In-limits) → SFits w32 (group-in c).group_of-group.result.number
number_fits c = range-fits _ (within c)

number-fits-64 : (c : In-limits) → SFits w64 (group-in c).group_of-group.result.number
number-fits-64 c = sfits_of c.struct_told-in-loop-reached-1.given.0.1

pub overflow_cast-group : goal.overflow_cast-group
overflow_cast-group c =
    let n = number-fits-64 (goal.at.overflow_cast-group c).Else-not-in_range in
    simp plain (number_fits (goal.at.overflow_cast-group c).Else-not-in_range)

pub fill_stretch-reached-requires : goal.fill_stretch-reached-requires
fill_stretch-reached-requires c =
    let l = at-known (group-in (goal.at.fill_stretch-reached-requires c).Else-not-in_range) in
    let k = base l in
    let h = holds l in
    record { room = room-a _ (A k) (A k) _ _ (old k) _ _ _ h.stage.filling (a-sound k); follows = kept l (old k) h (λ y. Follows y (entry k).args.period l.loop-reached.reached) h.stage.follows }

abbrev Stretch : Type 0
Stretch = After-fill_stretch-reached

abbrev limits_of : Stretch → In-limits
limits_of c = (goal.at.After-fill_stretch-reached c).Else-not-in_range

abbrev group_at_lem : Stretch → Known
group_at_lem c = group-in (limits_of c)

abbrev stretch-at : Stretch → At
stretch-at c = at-known (group_at_lem c)

abbrev filled-pool : Stretch → List ℤ
filled-pool c = c.fill_stretch-reached.new.pool

stretched : (c : Stretch) (x : List ℤ) → let g = (group_at_lem c).group_of-group.result in let l = stretch-at c in let s = entry (base l) in Holds l x
    → Stretched g.number g.high (row_of (A (base l)) x) s.args.at s.args.period l.loop-reached.pool l.loop-reached.reached c.fill_stretch-reached.result (filled-pool c)
stretched c x h =
    let g = (group_at_lem c).group_of-group.result in
    let l = stretch-at c in
    let s = entry (base l) in
    let n = number_fits (limits_of c) in
    let m = number-fits-64 (limits_of c) in
    let i : SFits w64 g.high = sfits_of c.struct_told-in-loop-reached-3-1.given.1.1.0.1 in
    stood l x h (λ y. Stretched g.number g.high y s.args.at s.args.period l.loop-reached.pool l.loop-reached.reached c.fill_stretch-reached.result (filled-pool c))
    (simp plain at c.fill_stretch-reached.ensures)

-- it has an instant
goes_on : (c : Stretch) → (stretch-at c).loop-reached.reached.t < c.fill_stretch-reached.result.t
goes_on c =
    let g = group_at_lem c in
    let l = stretch-at c in
    let k = base l in
    let h = holds l in
    group-on (X k) (A k) _ _ (old k) _ _ h (inside (in-of (goal.at.After-group_of-group g).After-label_of-j)) (label (goal.at.After-group_of-group g).After-label_of-j) (label_is (goal.at.After-group_of-group g).After-label_of-j (old k) h) g.group_of-group.result (known_of g) _ _ (stretched c (old k) h)

pub loop-reached-smaller : goal.loop-reached-smaller
loop-reached-smaller c = let f = (goal.at.loop-reached-smaller c).After-fill_stretch-reached in let l = stretch-at f in omega (arith, goes_on f, (stretched f (old (base l)) (holds l)).follows.in-room)

pub loop-reached-preserved : goal.loop-reached-preserved
loop-reached-preserved c = λ x y.
    let f = (goal.at.loop-reached-preserved c).After-fill_stretch-reached in
    let g = group_at_lem f in
    let l = stretch-at f in
    let k = base l in
    let h = l.loop-reached.invariant x y in
    grouping-next (X k) (A k) _ _ x _ _ h (inside (in-of (goal.at.After-group_of-group g).After-label_of-j)) (label (goal.at.After-group_of-group g).After-label_of-j) (label_is (goal.at.After-group_of-group g).After-label_of-j x h) g.group_of-group.result (known_of g) _ _ (stretched f x h) (within (limits_of f))

-- ---- the end
pub shape_of-pool : goal.shape_of-pool
shape_of-pool c = same (goal.at.shape_of-pool c).At-loop-reached

pub returns : goal.returns
returns c = let l = (goal.at.returns c).At-loop-reached in as-filled (base l) _ _ (labelled-done _ refl _ _ _ _ _ _ _ _ (holds l).stage.filling c.loop-reached-test.false)
