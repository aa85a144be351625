-- `match_alter::seek` meets its contract: labels never fall, so the first that is not below j is j; both cursors are moved alike.
-- Assumes nothing.
use mathlib.Core.Path.{◌≡◌, refl, sym, ◌∙◌, ap}
use mathlib.Core.Bool.{true, false}
use Prim.Native.Nat.{suc, ◌+◌, ◌≤◌}
use native.Mathlib.Omega.{arith}
use lib.IntN.{ℤ, pos, ◌+ℤ◌}
use mir.Syntax.{w64}
use mir.Val.{to_z, of_z}
use Rattle.integers.proofs.Linear.{ints}
use Rattle.integers.proofs.Machine.{plain}
use Rattle.calendar.specs.Limits.{pool_limit}
use Rattle.calendar.specs.Meaning.{Row, meant}
use Rattle.calendar.specs.Sound.{sound}
use Rattle.granules.specs.Valid.{Valid}
use Rattle.cursors.specs.Cursor.{cursor_at, Standing}
use Rattle.cursors.proofs.Numbers.{valid}
use Rattle.kinds.specs.Stands.{row_in}
use Rattle.alter_granules.specs.declared.behind.Instant.{Instant}
use Rattle.alter_granules.specs.Follows.{at_least}
use Rattle.alter_granules.proofs.Sought.{seek-ends, seek-past, seek-near, seek-left}
use Rattle.match_shared.proofs.Lent.{lent_row}
use Rattle.match_stretches.proofs.Rows.{period-positive, lent_is, lent-asks}
use Rattle.match_alter.proofs.seek.Goals as goal
use Rattle.match_alter.proofs.seek.Goals.{After-at_least, After-cells_of-r_cells, After-cursor_next-claim, After-cursor_next-cursor, At-loop-a_cells, Else-at_least, Start}

-- ---- the rows that are lent
pub cells_of-a_cells-requires : goal.cells_of-a_cells-requires
cells_of-a_cells-requires c = let f = c.requires.stands.0 in record { pos_bound = period-positive _ _ f; a_in_bounds = f.fits }

pub cells_of-r_cells-requires : goal.cells_of-r_cells-requires
cells_of-r_cells-requires c = let f = c.requires.stands.1 in record { pos_bound = period-positive _ _ f; a_in_bounds = f.fits }

abbrev Lent : Type 0
Lent = After-cells_of-r_cells

abbrev entry : Lent → Start
entry l = (goal.at.After-cells_of-r_cells l).Start

abbrev A : Lent → Row
A l = row_in (entry l).args.pool.now (entry l).args.a

abbrev R : Lent → Row
R l = row_in (entry l).args.pool.now (entry l).args.r

a-is : (l : Lent) → lent_row (entry l).args.a l.cells_of-a_cells.result.now ≡ A l
a-is l = lent_is _ _ (entry l).requires.stands.0 _ l.cells_of-a_cells.ensures

r-is : (l : Lent) → lent_row (entry l).args.r l.cells_of-r_cells.result.now ≡ R l
r-is l = lent_is _ _ (entry l).requires.stands.1 _ l.cells_of-r_cells.ensures

rules : (l : Lent) → Valid (A l)
rules l = valid (entry l).args.a.period (entry l).args.a.distance (A l).cells (entry l).requires.stands.0.is-sound

-- j as the machine has it
abbrev J : Lent → ℤ
J l = to_z w64 (of_z w64 (entry l).args.j)

pub loop-a_cells-init : goal.loop-a_cells-init
loop-a_cells-init c =
    let s = entry (goal.at.loop-a_cells-init c).After-cells_of-r_cells in
    let j = s.ranges.j in
    simp plain s.requires.seeking

-- ---- where the walk is
abbrev At : Type 0
At = At-loop-a_cells

abbrev base : At → Lent
base c = (goal.at.At-loop-a_cells c).After-cells_of-r_cells

abbrev here : At → Instant
here c = record { index = c.loop-a_cells.index; cursor = c.loop-a_cells.cursor }

near : (c : At) → c.loop-a_cells.index ≤ pool_limit
near c = seek-near (A (base c)) (rules (base c)) (J (base c)) (here c) c.loop-a_cells.invariant.seeks

a-asks : (c : At) → let l = base c in let x = lent_row (entry l).args.a l.cells_of-a_cells.result.now in (sound x ≡ true) × Standing x c.loop-a_cells.cursor
a-asks c = let l = base c in lent-asks _ _ (entry l).requires.stands.0 _ l.cells_of-a_cells.ensures _ _ (near c) c.loop-a_cells.invariant.seeks.cursor

r-asks : (c : At) → let l = base c in let x = lent_row (entry l).args.r l.cells_of-r_cells.result.now in (sound x ≡ true) × Standing x c.loop-a_cells.claim
r-asks c = let l = base c in lent-asks _ _ (entry l).requires.stands.1 _ l.cells_of-r_cells.ensures _ _ (near c) c.loop-a_cells.invariant.claim

pub cursor_label-label-requires : goal.cursor_label-label-requires
cursor_label-label-requires c = let k = a-asks (goal.at.cursor_label-label-requires c).At-loop-a_cells in record { sound = k.0; standing = k.1 }

-- the test of its label
abbrev at_of : After-at_least → At
at_of c = (goal.at.After-at_least c).At-loop-a_cells

test : (c : After-at_least) → let l = at_of c in c.at_least.result ≡ at_least (J (base l)) (meant (A (base l)) (pos l.loop-a_cells.index))
test c =
    let l = at_of c in
    c.at_least.ensures ∙ ap (at_least (J (base l))) ((rw (a-is (base l)) at c.cursor_label-label.ensures) (pos l.loop-a_cells.index) l.loop-a_cells.invariant.seeks.cursor)

pub returns-then-at_least : goal.returns-then-at_least
returns-then-at_least c =
    let d = (goal.at.returns-then-at_least c).After-at_least in
    let l = at_of d in
    let k = base l in
    let j = (entry k).ranges.j in
    let e = seek-ends (A k) (rules k) (J k) (here l) l.loop-a_cells.invariant.seeks (sym (test d) ∙ c.if-at_least.true) in
    record { cursor = l.loop-a_cells.invariant.seeks.cursor; claim = l.loop-a_cells.invariant.claim; label = simp plain at e; near = near l }

-- ---- one instant more
-- the label is below j
abbrev Below : Type 0
Below = Else-at_least

not_yet : (c : Below) → let l = at_of (goal.at.Else-at_least c).After-at_least in at_least (J (base l)) (meant (A (base l)) (pos l.loop-a_cells.index)) ≡ false
not_yet c = sym (test (goal.at.Else-at_least c).After-at_least) ∙ c.if-at_least.false

pub cursor_next-cursor-requires : goal.cursor_next-cursor-requires
cursor_next-cursor-requires c = let k = a-asks (at_of (goal.at.cursor_next-cursor-requires c).After-at_least) in record { sound = k.0; standing = k.1 }

abbrev below_of : After-cursor_next-cursor → Below
below_of c = (goal.at.After-cursor_next-cursor c).Else-at_least

pub cursor_next-claim-requires : goal.cursor_next-claim-requires
cursor_next-claim-requires c = let k = r-asks (goal.at.cursor_next-claim-requires c).At-loop-a_cells in record { sound = k.0; standing = k.1 }

abbrev Next : Type 0
Next = After-cursor_next-claim

abbrev next_of : Next → After-cursor_next-cursor
next_of c = (goal.at.After-cursor_next-claim c).After-cursor_next-cursor

left : (c : Next) → suc (at_of (goal.at.Else-at_least (below_of (next_of c))).After-at_least).loop-a_cells.index ≤ pool_limit
left c =
    let b = below_of (next_of c) in
    let l = at_of (goal.at.Else-at_least b).After-at_least in
    seek-left (A (base l)) (rules (base l)) (J (base l)) (here l) l.loop-a_cells.invariant.seeks (not_yet b)

pub overflow_add-index : goal.overflow_add-index
overflow_add-index c = omega (arith, left c)

pub loop-a_cells-smaller : goal.loop-a_cells-smaller
loop-a_cells-smaller c = omega (arith, left c)

pub loop-a_cells-preserved : goal.loop-a_cells-preserved
loop-a_cells-preserved c =
    let n = next_of c in
    let b = below_of n in
    let l = at_of (goal.at.Else-at_least b).After-at_least in
    let k = base l in
    let t = pos l.loop-a_cells.index in
    let step : t +ℤ pos 1 ≡ pos (l.loop-a_cells.index + 1) = simp ints (omega arith) in
    record {
      seeks = seek-past (A k) (rules k) (J k) (here l) l.loop-a_cells.invariant.seeks _ refl ((rw (a-is k) at n.cursor_next-cursor.ensures) t l.loop-a_cells.invariant.seeks.cursor) (not_yet b);
      claim = (rw (r-is k) at c.cursor_next-claim.ensures) t l.loop-a_cells.invariant.claim ∙ ap (cursor_at (R k)) step;
    }
