-- `match_stretches::compare_stretch` meets its contract: each turn of the loop compares one instant.
-- Assumes nothing.
use borrow.Author.Tests.{not-true, not-false}
use mathlib.Core.Path.{◌≡◌, sym, ◌∙◌, ap}
use mathlib.Core.Option.{Option}
use mathlib.Core.Bool.{true, ◌&&◌}
use Prim.Native.Nat.{◌≤◌}
use native.Mathlib.Omega.{arith}
use lib.IntN.{ℤ, pos}
use mir.Syntax.{w64}
use mir.Val.{to_z, of_z}
use Rattle.integers.proofs.Machine.{plain}
use Rattle.calendar.specs.Limits.{pool_limit}
use Rattle.calendar.specs.Meaning.{Row, meant}
use Rattle.calendar.specs.Lists.{same_label}
use Rattle.calendar.specs.Sound.{sound}
use Rattle.granules.proofs.Tests.{labelled-iff, le_z-iff}
use Rattle.cursors.specs.Found.{found}
use Rattle.cursors.specs.Cursor.{Standing}
use Rattle.kinds.specs.Stands.{row_in}
use Rattle.match_shared.proofs.Lent.{lent_row}
use Rattle.match_stretches.specs.declared.Compared.{Compared}
use Rattle.match_stretches.specs.Stretch.{Stretched}
use Rattle.match_stretches.proofs.Rows.{period-positive, lent_is, lent-asks}
use Rattle.match_stretches.proofs.Passing.{not-at-most, passed-more}
use Rattle.match_stretches.proofs.compare_stretch.Goals as goal
use Rattle.match_stretches.proofs.compare_stretch.Goals.{After-cells_of-r_cells, After-cursor_label-followed, After-still_same-same, At-loop-t, Else-not-at_most, In-loop-t, Start}

-- ---- the rows that are lent
pub cells_of-a_cells-requires : goal.cells_of-a_cells-requires
cells_of-a_cells-requires c = let f = c.requires.room.followed in record { pos_bound = period-positive _ _ f; a_in_bounds = f.fits }

pub cells_of-r_cells-requires : goal.cells_of-r_cells-requires
cells_of-r_cells-requires c = let f = c.requires.room.claim in record { pos_bound = period-positive _ _ f; a_in_bounds = f.fits }

abbrev Lent : Type 0
Lent = After-cells_of-r_cells

abbrev entry : Lent → Start
entry l = (goal.at.After-cells_of-r_cells l).Start

abbrev row : Lent → Row
row l = row_in (entry l).args.pool.now (entry l).args.a

abbrev claim : Lent → Row
claim l = row_in (entry l).args.pool.now (entry l).args.r

row_is : (l : Lent) → lent_row (entry l).args.a l.cells_of-a_cells.result.now ≡ row l
row_is l = lent_is _ _ (entry l).requires.room.followed _ l.cells_of-a_cells.ensures

claim-is : (l : Lent) → lent_row (entry l).args.r l.cells_of-r_cells.result.now ≡ claim l
claim-is l = lent_is _ _ (entry l).requires.room.claim _ l.cells_of-r_cells.ensures

-- ---- an instant
abbrev At : Type 0
At = At-loop-t

abbrev In : Type 0
In = In-loop-t

abbrev base : At → Lent
base l = (goal.at.At-loop-t l).After-cells_of-r_cells

near : (i : In) → i.loop-t.t ≤ pool_limit
near i = omega (arith, i.loop-t-test.true, (entry (base (goal.at.In-loop-t i).At-loop-t)).requires.room.in-room)

-- what a call is asked of the two rows
a-asks : (i : In) → let l = base (goal.at.In-loop-t i).At-loop-t in let x = lent_row (entry l).args.a l.cells_of-a_cells.result.now in (sound x ≡ true) × Standing x i.loop-t.cursor
a-asks i =
    let l = base (goal.at.In-loop-t i).At-loop-t in
    lent-asks _ _ (entry l).requires.room.followed _ l.cells_of-a_cells.ensures _ _ (near i) i.loop-t.invariant.follows.cursor

r-asks : (i : In) → let l = base (goal.at.In-loop-t i).At-loop-t in let x = lent_row (entry l).args.r l.cells_of-r_cells.result.now in (sound x ≡ true) × Standing x i.loop-t.claim
r-asks i =
    let l = base (goal.at.In-loop-t i).At-loop-t in
    lent-asks _ _ (entry l).requires.room.claim _ l.cells_of-r_cells.ensures _ _ (near i) i.loop-t.invariant.follows.claim

pub cursor_label-followed-requires : goal.cursor_label-followed-requires
cursor_label-followed-requires c = let x = a-asks (goal.at.cursor_label-followed-requires c).In-loop-t in record { sound = x.0; standing = x.1 }

-- its label in the row that is followed
label_is : (c : After-cursor_label-followed) → let l = (goal.at.After-cursor_label-followed c).At-loop-t in meant (row (base l)) (pos l.loop-t.t) ≡ found c.cursor_label-followed.result
label_is c =
    let l = (goal.at.After-cursor_label-followed c).At-loop-t in
    sym ((rw (row_is (base l)) at c.cursor_label-followed.ensures) (pos l.loop-t.t) l.loop-t.invariant.follows.cursor)

-- what the loop has reached at its end
ends : (l : Lent) (q : Compared) → let s = entry l in Stretched (found s.args.label) (to_z w64 (of_z w64 s.args.high)) (row l) (claim l) s.args.size s.args.from q
    → Stretched (found s.args.label) s.args.high (row l) (claim l) s.args.size s.args.from q
ends l q x = let h = (entry l).ranges.high in simp plain at x

pub returns-then-not-at_most : goal.returns-then-not-at_most
returns-then-not-at_most c =
    let k = (goal.at.returns-then-not-at_most c).After-cursor_label-followed in
    let l = (goal.at.After-cursor_label-followed k).At-loop-t in
    let x = not-at-most _ _ (sym c.at_most.ensures ∙ not-true _ c.if-not-at_most.true-raw) in
    ends (base l) _ record { passed = l.loop-t.invariant; stops = λ m. (x.0, label_is k ∙ x.1, x.2) }

-- ---- one instant more
pub cursor_label-claimed-requires : goal.cursor_label-claimed-requires
cursor_label-claimed-requires c = let x = r-asks (goal.at.cursor_label-claimed-requires c).In-loop-t in record { sound = x.0; standing = x.1 }

-- where the labels are compared
abbrev in-of : After-still_same-same → In
in-of c = (goal.at.After-still_same-same c).In-loop-t

pub cursor_next-cursor-requires : goal.cursor_next-cursor-requires
cursor_next-cursor-requires c = let x = a-asks (in-of (goal.at.cursor_next-cursor-requires c).After-still_same-same) in record { sound = x.0; standing = x.1 }

pub cursor_next-claim-requires : goal.cursor_next-claim-requires
cursor_next-claim-requires c = let x = r-asks (in-of (goal.at.cursor_next-claim-requires c).After-still_same-same) in record { sound = x.0; standing = x.1 }

pub loop-t-preserved : goal.loop-t-preserved
loop-t-preserved c =
    let g = (goal.at.loop-t-preserved c).After-still_same-same in
    let i = in-of g in
    let l = (goal.at.In-loop-t i).At-loop-t in
    let k = base l in
    let z = g.cursor_label-claimed in
    let e = (goal.at.After-still_same-same g).Else-not-at_most in
    let t = pos l.loop-t.t in
    passed-more _ _ (row k) (claim k) _ _ _ l.loop-t.invariant i.loop-t-test.true _ _ (label_is (goal.at.Else-not-at_most e).After-cursor_label-followed)
    (sym ((rw (claim-is k) at z.ensures) t l.loop-t.invariant.follows.claim))
    ((labelled-iff _ _ (λ j. le_z-iff j _)).0 (sym e.at_most.ensures ∙ not-false _ e.if-not-at_most.false-raw))
    _ _
    ((rw (row_is k) at c.cursor_next-cursor.ensures) t l.loop-t.invariant.follows.cursor)
    ((rw (claim-is k) at c.cursor_next-claim.ensures) t l.loop-t.invariant.follows.claim)
    _
    (g.still_same-same.ensures ∙ ap (λ (o : Option ℤ). l.loop-t.same && same_label (found z.result) o) g.where_labelled.ensures)

-- ---- the end
pub returns : goal.returns
returns c =
    let l = (goal.at.returns c).At-loop-t in
    let size = (entry (base l)).args.size in
    let all : l.loop-t.t ≡ size = omega (arith, l.loop-t.invariant.follows.in-room, c.loop-t-test.false) in
    rw all at (ends (base l) _ record { passed = l.loop-t.invariant; stops = λ m. absurd (omega (arith, c.loop-t-test.false)) })
