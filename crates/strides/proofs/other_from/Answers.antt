-- `strides::other_from` meets its contract: the loop is the search among the cells from `start` on.
-- Assumes nothing.
use mathlib.Core.Path.{◌≡◌, sym, ◌∙◌, ap}
use mathlib.Core.List.{List}
use Prim.Native.Nat.{ℕ, ◌+◌, ◌-◌, ◌≤◌, ◌<◌}
use native.Mathlib.Omega.{arith}
use borrow.Author.Rules.{sfits_of}
use lib.IntN.{ℤ, pos}
use lib.ListN.{length, get_or, drop, length-drop}
use lib.Seq.{get_or-drop}
use mir.Facts.{to_z-of_z, sfits_lit}
use mir.Syntax.{w32}
use mir.Val.{of_z}
use Rattle.integers.proofs.Machine.{test-eq}
use Rattle.calendar.specs.Meaning.{empty}
use Rattle.cursors.proofs.Search.{search-past, search-here, search-end}
use Rattle.strides.specs.Changes.{passable}
use Rattle.strides.proofs.Changes.{same-passes, none_passes, other-fails}
use Rattle.strides.proofs.other_from.Goals as goal
use Rattle.strides.proofs.other_from.Goals.{else-cell-z-via-then-cell-z+else-cell, else-cell-z-via-else-cell-z}

-- the cell that a turn reads, among those from `start` on
cell-is : (cells : List ℤ) (start i : ℕ) → start ≤ i → get_or (drop start cells) (i - start) (pos 0) ≡ get_or cells i (pos 0)
cell-is cells start i h =
    let e : start + (i - start) ≡ i = omega arith in
    get_or-drop start cells (i - start) (pos 0) ∙ ap (λ (k : ℕ). get_or cells k (pos 0)) e

pub returns-then-cell : goal.returns-then-cell
returns-then-cell c =
    let a = c.args in
    let k = c.loop-i.i - a.start in
    let rest = drop a.start a.cells.now in
    let same = cell-is a.cells.now a.start c.loop-i.i (omega arith) in
    let s = rw (to_z-of_z c.ranges.z) at c.loop-i.invariant in
    let here : k < length rest = omega (arith, length-drop a.start a.cells.now) in
    let f = other-fails a.z (get_or rest k (pos 0)) (λ e. c.if-cell.true (ap (of_z w32) (sym same ∙ e))) (λ e. c.if-cell-z.true (ap (of_z w32) (sym same ∙ e))) in
    omega (arith, search-here (passable a.z) rest k (pos 0) s here f)

pub loop-i-preserved : goal.loop-i-preserved
loop-i-preserved c =
    let a = c.args in
    let k = c.loop-i.i - a.start in
    let rest = drop a.start a.cells.now in
    let same = cell-is a.cells.now a.start c.loop-i.i (omega arith) in
    let r = to_z-of_z c.ranges.z in
    let s = rw r at c.loop-i.invariant in
    let here : k < length rest = omega (arith, length-drop a.start a.cells.now) in
    let next : c.loop-i.i + 1 - a.start ≡ k + 1 = omega arith in
    let f = sfits_of c.cell-1.given in
    rw (r, next) (search-past (passable a.z) rest k (pos 0) s here (elim c.else-cell-z.branch [
      | else-cell-z-via-then-cell-z+else-cell w ↦ none_passes a.z (get_or rest k (pos 0)) (same ∙ (test-eq w32 _ empty f (sfits_lit tt)).0 w.if-cell.false)
      | else-cell-z-via-else-cell-z w ↦ same-passes a.z (get_or rest k (pos 0)) (same ∙ (test-eq w32 _ a.z f c.ranges.z).0 w.if-cell-z.false)
    ]))

pub returns : goal.returns
returns c =
    let a = c.args in
    let s = rw (to_z-of_z c.ranges.z) at c.loop-i.invariant in
    let h = length-drop a.start a.cells.now in
    omega (arith, search-end (passable a.z) (drop a.start a.cells.now) (c.loop-i.i - a.start) s (omega (arith, h)))
