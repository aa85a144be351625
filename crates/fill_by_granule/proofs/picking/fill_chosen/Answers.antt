-- `fill_by_granule::picking::fill_chosen` meets its contract. The loop's invariant: the cells of the instants before t are written, and the labels counted.
-- Assumes nothing.
use mathlib.Core.Path.{◌≡◌, sym, ◌∙◌, ap, ap₂}
use mathlib.Core.Logic.{⊎_elim}
use mathlib.Core.Bool.{Bool, true, false, cond, ◌&&◌}
use mathlib.Core.List.{List}
use Prim.Native.Nat.{ℕ, suc, ◌+◌, ◌-◌, ◌≤◌, ◌<◌, ◌^◌}
use native.Mathlib.Omega.{arith}
use lib.IntN.{ℤ, pos, ◌+ℤ◌}
use lib.Signed.{le_z}
use lib.ListN.{set}
use mir.Facts.{to_z-of_z}
use mir.Syntax.{w32}
use mir.Val.{SFits, to_z, of_z}
use Rattle.integers.proofs.Linear.{ints, ◌∴◌}
use Rattle.integers.proofs.Machine.{plain}
use Rattle.calendar.specs.Limits.{pool_limit, between}
use Rattle.calendar.specs.Lists.{only}
use Rattle.calendar.specs.Compute.{cell_of}
use Rattle.fill_by_granule.specs.Picking.{chosen_cells, chosen_count}
use Rattle.fill_by_granule.proofs.Spreads.{chosen-few}
use Rattle.fill_by_granule.proofs.picking.fill_chosen.Invariants.{Inv}
use Rattle.fill_by_granule.proofs.picking.fill_chosen.Goals as goal
use Rattle.fill_by_granule.proofs.picking.fill_chosen.Goals.{At-loop-t, In-loop-t, Start}

-- an instant more, which has a label or not, with the label that follows
module _ (c lo hi : ℤ) (from at : ℕ) (old new : List ℤ) (label : ℤ) (count t : ℕ) (v : Inv c lo hi from at old new label count t)
    (low : from ≤ t) (fits : SFits w32 (c +ℤ pos t +ℤ pos 1)) (b : Bool) (k : b ≡ between lo hi (c +ℤ pos t)) where
  more : (z : ℤ) (m : ℕ) → z ≡ cell_of (only (c +ℤ pos t) b) → m ≡ cond b (1 + count) count
      → Inv c lo hi from at old (set new (at + t) z) (to_z w32 (of_z w32 (label +ℤ pos 1))) m (t + 1)
  more z m f g =
      let e : c +ℤ pos t +ℤ pos 1 ≡ c +ℤ pos (t + 1) = simp ints (omega arith) in
      let n = t - from in
      let q : t ≡ from + n = omega arith in
      let r : suc n ≡ t + 1 - from = omega arith in
      let d : b ≡ between lo hi (c +ℤ pos (from + n)) = k ∙ ap (λ (i : ℕ). between lo hi (c +ℤ pos i)) q in
      record {
        next = ap (λ (y : ℤ). to_z w32 (of_z w32 (y +ℤ pos 1))) v.next ∙ to_z-of_z fits ∙ e;
        cells =
            ap₂ (λ (l : List ℤ) (y : ℤ). set l (at + t) y) v.cells (f ∙ ap₂ (λ (i : ℕ) (x : Bool). cell_of (only (c +ℤ pos i) x)) q d)
            ∙ ap (λ (i : ℕ). set (chosen_cells c lo hi at from n old) (at + i) (cell_of (only (c +ℤ pos (from + n)) (between lo hi (c +ℤ pos (from + n)))))) q
            ∙ ap (λ (i : ℕ). chosen_cells c lo hi at from i old) r;
        counted = g ∙ ap₂ (λ (x : Bool) (i : ℕ). cond x (1 + i) i) d v.counted ∙ ap (λ (i : ℕ). chosen_count c lo hi from i) r;
      }

-- the first instant, as an `i32`, and its label
from-small : (s : Start) → SFits w32 (pos s.args.from) × (s.args.from < 2 ^ 31)
from-small s = let l : s.args.from ≤ pool_limit = omega (arith, s.requires.in_order, s.requires.room, s.requires.few) in (l ∴ simp ints (omega arith), omega arith)

label-fits : (s : Start) → SFits w32 (s.args.first +ℤ pos s.args.from)
label-fits s = s.requires.label.0 ∴ s.requires.labels ∴ s.requires.in_order ∴ simp ints (omega arith)

pub loop-t-init : goal.loop-t-init
loop-t-init c =
    let a = c.args in
    let f = c.ranges.first in
    let z : 0 ≡ a.from - a.from = omega arith in
    record {
      next = let l = (from-small c).1 in let n = label-fits c in simp plain;
      cells = ap (λ (n : ℕ). chosen_cells (to_z w32 (of_z w32 a.first)) (to_z w32 (of_z w32 a.low)) (to_z w32 (of_z w32 a.high)) a.at a.from n a.pool.now) z;
      counted = ap (λ (n : ℕ). chosen_count (to_z w32 (of_z w32 a.first)) (to_z w32 (of_z w32 a.low)) (to_z w32 (of_z w32 a.high)) a.from n) z;
    }

-- the label that follows fits
fits_after : (s : Start) (t : ℕ) → t < s.args.to → SFits w32 (to_z w32 (of_z w32 s.args.first) +ℤ pos t +ℤ pos 1)
fits_after s t h =
    let f = s.ranges.first in
    simp plain (s.requires.label.0 ∴ s.requires.labels ∴ h ∴ simp ints (omega arith))

-- no more instants have a label than are passed
pub overflow_add-count : goal.overflow_add-count
overflow_add-count c =
    let a = c.args in
    let few = chosen-few (to_z w32 (of_z w32 a.first)) (to_z w32 (of_z w32 a.low)) (to_z w32 (of_z w32 a.high)) a.at a.from (c.loop-t.t - a.from) in
    omega (arith, c.loop-t.invariant.counted, c.requires.room, c.requires.few)

pub overflow_add-label-in-loop-t : goal.overflow_add-label-in-loop-t
overflow_add-label-in-loop-t c =
    let l = (goal.at.overflow_add-label-in-loop-t c).At-loop-t in
    rw l.loop-t.invariant.next (fits_after (goal.at.At-loop-t l).Start l.loop-t.t c.loop-t-test.true)

pub loop-t-preserved : goal.loop-t-preserved
loop-t-preserved c =
    let i = (goal.at.loop-t-preserved c).In-loop-t in
    let l = (goal.at.In-loop-t i).At-loop-t in
    let a = l.args in
    let t = l.loop-t.t in
    let first = to_z w32 (of_z w32 a.first) in
    let lo = to_z w32 (of_z w32 a.low) in
    let hi = to_z w32 (of_z w32 a.high) in
    let r = l.loop-t.invariant.next in
    let go = more first lo hi a.from a.at a.pool.now l.loop-t.pool (to_z w32 l.loop-t.label-bits) l.loop-t.count t
    l.loop-t.invariant (omega arith) (fits_after (goal.at.At-loop-t l).Start t i.loop-t-test.true) in
    ⊎_elim
    (λ w. go true (sym (ap₂ ◌&&◌ (ap (le_z lo) (sym r) ∙ w.if-low-label.true) (ap (λ (z : ℤ). le_z z hi) (sym r) ∙ w.if-label-high.true))) _ _ (w.cell-is ∙ r) (omega (arith, w.count-is)))
    (⊎_elim
    (λ w. go false (sym (ap₂ ◌&&◌ (ap (le_z lo) (sym r) ∙ w.if-low-label.true) (ap (λ (z : ℤ). le_z z hi) (sym r) ∙ w.if-label-high.false))) _ _ w.cell-is w.count-is)
    (λ w. go false (sym (ap (λ (b : Bool). b && le_z (first +ℤ pos t) hi) (ap (le_z lo) (sym r) ∙ w.if-low-label.false))) _ _ w.cell-is w.count-is))
    c.if-low-label.branch-raw

pub returns : goal.returns
returns c =
    let l = (goal.at.returns c).At-loop-t in
    let s = (goal.at.At-loop-t l).Start in
    let a = s.args in
    let f = s.ranges.first in
    let g = s.ranges.low in
    let h = s.ranges.high in
    let e : l.loop-t.t - a.from ≡ a.to - a.from = omega arith in
    let v = simp plain at l.loop-t.invariant in record {
      cells = v.cells ∙ ap (λ (n : ℕ). chosen_cells a.first a.low a.high a.at a.from n a.pool.now) e;
      count = v.counted ∙ ap (λ (n : ℕ). chosen_count a.first a.low a.high a.from n) e;
    }
