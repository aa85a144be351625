-- `fill_pointwise::piecewise::fill_piece` meets its contract: each turn of the loop writes and counts the label of one instant.
-- Assumes nothing.
use mathlib.Core.Path.{◌≡◌, ◌∙◌, ap, ap₂}
use mathlib.Core.Bool.{Bool, true, false, cond}
use mathlib.Core.Option.{Option}
use mathlib.Core.List.{List}
use Prim.Native.Nat.{ℕ, ◌+◌, ◌≤◌, ◌<◌}
use native.Mathlib.Omega.{arith}
use borrow.Author.Rules.{sfits_of}
use lib.IntN.{ℤ, pos}
use lib.ListN.{get_or}
use mir.Facts.{to_z-of_z}
use mir.Syntax.{w32, w64}
use mir.Val.{SFits, to_z, of_z}
use Rattle.integers.proofs.Linear.{ints, ◌∴◌}
use Rattle.integers.proofs.Machine.{plain}
use Rattle.calendar.specs.Meaning.{label_of, raise, empty}
use Rattle.calendar.specs.Lists.{is_some}
use Rattle.cursors.specs.Found.{Within}
use Rattle.cursors.proofs.Cells.{get_d_any}
use Rattle.fill_pointwise.specs.Pieces.{is_outside, label_cells, label_count, place_label, piece_label}
use Rattle.fill_pointwise.proofs.Pieces.{chosen_label, chosen-label, kept_label, kept-as, cells-below, cells-more, count-few, count-more}
use Rattle.fill_pointwise.proofs.piecewise.fill_piece.Invariants.{place_as}
use Rattle.fill_pointwise.proofs.piecewise.fill_piece.Goals as goal
use Rattle.fill_pointwise.proofs.piecewise.fill_piece.Goals.{After-chosen-cell, After-counted-counts, After-keeps_second-second, After-raised-x, After-raised-y, After-struct_told-2-1, At-loop-i, In-loop-i, Start}

abbrev Begun : Type 0
Begun = After-struct_told-2-1

abbrev entry : Begun → Start
entry c = (goal.at.After-struct_told-2-1 c).Start

-- a rise within the limits, as an `i32`
rise-fits : (z : ℤ) → Within 1000000000 z → SFits w32 (to_z w64 (of_z w64 z))
rise-fits z h =
    let f : SFits w64 z = h ∴ simp ints (omega arith) in
    simp plain (h ∴ simp ints (omega arith))

rise-is : (z : ℤ) → Within 1000000000 z → to_z w32 (of_z w32 (to_z w64 (of_z w64 z))) ≡ z
rise-is z h = let f : SFits w64 z = h ∴ simp ints (omega arith) in to_z-of_z (rise-fits z h) ∙ to_z-of_z f

-- ---- a turn
-- the labels that are written
abbrev labels_of : Begun → ℕ → Option ℤ
labels_of c =
    let k = (goal.at.After-struct_told-2-1 c).After-keeps_second-second in
    let a = (entry c).args in
    kept_label k.keeps_first-first.result k.keeps_shared-shared.result k.keeps_second-second.result
    (place_as a.a.cell (to_z w32 (of_z w32 (to_z w64 (of_z w64 a.a.rise))))) (place_as a.b.cell (to_z w32 (of_z w32 (to_z w64 (of_z w64 a.b.rise))))) a.pool.now

-- a cell of the rows stands as it stood
cell-is : (c : In-loop-i) (k : ℕ) → k < (entry (goal.at.In-loop-i c).After-struct_told-2-1).args.to → get_or c.loop-i.pool k (pos 0) ≡ get_or (entry (goal.at.In-loop-i c).After-struct_told-2-1).args.pool.now k empty
cell-is c k m =
    let l = (goal.at.In-loop-i c).At-loop-i in
    let b = (goal.at.At-loop-i l).After-struct_told-2-1 in
    get_d_any l.loop-i.pool k (pos 0) empty (omega (arith, (entry b).requires.room, c.loop-i-test.true))
    ∙ ap (λ (q : List ℤ). get_or q k empty) l.loop-i.invariant.cells
    ∙ cells-below (labels_of b) (entry b).args.to (entry b).args.pool.now l.loop-i.i k empty m

pub raised-x-requires : goal.raised-x-requires
raised-x-requires c =
    let i = (goal.at.raised-x-requires c).In-loop-i in
    let l = (goal.at.In-loop-i i).At-loop-i in
    let s = entry (goal.at.At-loop-i l).After-struct_told-2-1 in
    let p = s.requires.first in
    let f = sfits_of c.raised-arg-1.given in
    record {
      within = rw (to_z-of_z {w = w32} {z = get_or l.loop-i.pool (s.args.a.cell + l.loop-i.i) (pos 0)} f, cell-is i (s.args.a.cell + l.loop-i.i) (omega (arith, p.stands, i.loop-i-test.true))) (p.labels l.loop-i.i i.loop-i-test.true);
      within_2 = rw (rise-is s.args.a.rise p.rise) p.rise;
    }

pub raised-y-requires : goal.raised-y-requires
raised-y-requires c =
    let i = (goal.at.raised-y-requires c).In-loop-i in
    let l = (goal.at.In-loop-i i).At-loop-i in
    let s = entry (goal.at.At-loop-i l).After-struct_told-2-1 in
    let p = s.requires.second in
    let f = sfits_of c.raised-arg-in-loop-i-1.given in
    record {
      within = rw (to_z-of_z {w = w32} {z = get_or l.loop-i.pool (s.args.b.cell + l.loop-i.i) (pos 0)} f, cell-is i (s.args.b.cell + l.loop-i.i) (omega (arith, p.stands, i.loop-i-test.true))) (p.labels l.loop-i.i i.loop-i-test.true);
      within_2 = rw (rise-is s.args.b.rise p.rise) p.rise;
    }

first-is : (c : After-raised-x) → let l = (goal.at.After-raised-x c).At-loop-i in let a = (entry (goal.at.At-loop-i l).After-struct_told-2-1).args in
    label_of (to_z w32 (of_z w32 c.raised-x.result)) ≡ place_label (place_as a.a.cell (to_z w32 (of_z w32 (to_z w64 (of_z w64 a.a.rise))))) a.pool.now l.loop-i.i
first-is c =
    let i = (goal.at.After-raised-x c).In-loop-i in
    let a = (entry (goal.at.In-loop-i i).After-struct_told-2-1).args in
    let z = to_z w32 (of_z w32 (to_z w64 (of_z w64 a.a.rise))) in
    ap label_of (to_z-of_z {w = w32} {z = c.raised-x.result} (sfits_of c.raised-x.type_inv))
    ∙ c.raised-x.ensures
    ∙ ap (λ (y : ℤ). raise z (label_of y)) (to_z-of_z {w = w32} (sfits_of c.raised-arg-1.given) ∙ cell-is i (a.a.cell + i.loop-i.i) (omega (arith, (entry (goal.at.In-loop-i i).After-struct_told-2-1).requires.first.stands, i.loop-i-test.true)))

second_is : (c : After-raised-y) → let l = (goal.at.After-raised-y c).At-loop-i in let a = (entry (goal.at.At-loop-i l).After-struct_told-2-1).args in
    label_of (to_z w32 (of_z w32 c.raised-y.result)) ≡ place_label (place_as a.b.cell (to_z w32 (of_z w32 (to_z w64 (of_z w64 a.b.rise))))) a.pool.now l.loop-i.i
second_is c =
    let i = (goal.at.After-raised-y c).In-loop-i in
    let a = (entry (goal.at.In-loop-i i).After-struct_told-2-1).args in
    let z = to_z w32 (of_z w32 (to_z w64 (of_z w64 a.b.rise))) in
    ap label_of (to_z-of_z {w = w32} {z = c.raised-y.result} (sfits_of c.raised-y.type_inv))
    ∙ c.raised-y.ensures
    ∙ ap (λ (y : ℤ). raise z (label_of y)) (to_z-of_z {w = w32} (sfits_of c.raised-arg-in-loop-i-1.given) ∙ cell-is i (a.b.cell + i.loop-i.i) (omega (arith, (entry (goal.at.In-loop-i i).After-struct_told-2-1).requires.second.stands, i.loop-i-test.true)))

-- the cell that is written has the label of the instant
abbrev written : After-chosen-cell → ℤ
written c = to_z w32 (of_z w32 c.chosen-cell.result)

label_is : (c : After-chosen-cell) → let l = (goal.at.After-chosen-cell c).At-loop-i in label_of (written c) ≡ labels_of (goal.at.At-loop-i l).After-struct_told-2-1 l.loop-i.i
label_is c =
    let l = (goal.at.After-chosen-cell c).At-loop-i in
    let k = (goal.at.After-struct_told-2-1 (goal.at.At-loop-i l).After-struct_told-2-1).After-keeps_second-second in
    let f = k.keeps_first-first.result in
    let g = k.keeps_shared-shared.result in
    let h = k.keeps_second-second.result in
    ap label_of (to_z-of_z {w = w32} (sfits_of c.chosen-cell.type_inv) ∙ c.chosen-cell.ensures)
    ∙ chosen-label f g h (to_z w32 (of_z w32 c.raised-x.result)) (to_z w32 (of_z w32 c.raised-y.result))
    ∙ ap₂ (chosen_label f g h) (first-is (goal.at.After-chosen-cell c).After-raised-x) (second_is (goal.at.After-chosen-cell c).After-raised-y)

-- a label counts one at most
one : (k : ℕ) (b : Bool) → k ≡ cond b 1 0 → k ≤ 1
one k true e = omega arith
one k false e = omega arith

pub overflow_add-labelled : goal.overflow_add-labelled
overflow_add-labelled c =
    let z = (goal.at.overflow_add-labelled c).After-chosen-cell in
    let b = (goal.at.In-loop-i (goal.at.After-chosen-cell z).In-loop-i).After-struct_told-2-1 in
    let p = (entry b).requires in
    omega (arith, one _ (is_some (label_of (written z))) c.counted-counts.ensures.labelled, c.loop-i.invariant.labels, count-few is_some (labels_of b) c.loop-i.i, p.room, p.few)

pub overflow_add-outside : goal.overflow_add-outside
overflow_add-outside c =
    let z = (goal.at.overflow_add-outside c).After-chosen-cell in
    let b = (goal.at.In-loop-i (goal.at.After-chosen-cell z).In-loop-i).After-struct_told-2-1 in
    let p = (entry b).requires in
    omega (arith, one _ (is_outside (label_of (written z))) c.counted-counts.ensures.outside, c.loop-i.invariant.beyond, count-few is_outside (labels_of b) c.loop-i.i, p.room, p.few)

pub loop-i-preserved : goal.loop-i-preserved
loop-i-preserved c =
    let d = (goal.at.loop-i-preserved c).After-counted-counts in
    let z = (goal.at.After-counted-counts d).After-chosen-cell in
    let i = (goal.at.After-chosen-cell z).In-loop-i in
    let l = (goal.at.In-loop-i i).At-loop-i in
    let v = l.loop-i.invariant in
    let e = label_is z in
    record {
      cells = cells-more (labels_of (goal.at.At-loop-i l).After-struct_told-2-1) _ _ l.loop-i.i _ v.cells (written z) e;
      labels = count-more is_some (labels_of (goal.at.At-loop-i l).After-struct_told-2-1) l.loop-i.i _ _ _ v.labels e d.counted-counts.ensures.labelled;
      beyond = count-more is_outside (labels_of (goal.at.At-loop-i l).After-struct_told-2-1) l.loop-i.i _ _ _ v.beyond e d.counted-counts.ensures.outside;
    }

labels-are : (c : Begun) → let a = (entry c).args in labels_of c ≡ piece_label a.set a.a a.b a.pool.now
labels-are c =
    let k = (goal.at.After-struct_told-2-1 c).After-keeps_second-second in
    let s = entry c in
    let a = s.args in
    kept-as a.set a.a a.b a.pool.now k.keeps_first-first.ensures k.keeps_shared-shared.ensures k.keeps_second-second.ensures
    (rise-is a.a.rise s.requires.first.rise) (rise-is a.b.rise s.requires.second.rise)

pub returns : goal.returns
returns c =
    let l = (goal.at.returns c).At-loop-i in
    let a = (entry (goal.at.At-loop-i l).After-struct_told-2-1).args in
    let v = l.loop-i.invariant in
    let e : l.loop-i.i ≡ a.count = omega arith in
    let q = labels-are (goal.at.At-loop-i l).After-struct_told-2-1 in record {
      cells = v.cells ∙ ap₂ (λ (f : ℕ → Option ℤ) (n : ℕ). label_cells f a.to n a.pool.now) q e;
      labelled = v.labels ∙ ap₂ (label_count is_some) q e;
      outside = v.beyond ∙ ap₂ (label_count is_outside) q e;
    }
