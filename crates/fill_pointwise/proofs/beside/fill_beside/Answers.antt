-- `fill_pointwise::beside::fill_beside` meets its contract. The loop's invariant: the cells of the instants before t are written, and those kept are counted.
-- Assumes nothing.
use mathlib.Core.Path.{◌≡◌, refl, sym, ◌∙◌, ap}
use mathlib.Core.Logic.{⊎_elim}
use mathlib.Core.Bool.{Bool, true, false, cond}
use mathlib.Core.List.{List}
use borrow.Author.Rules.{sfits_of}
use Prim.Native.Nat.{ℕ, ◌+◌, ◌<◌}
use native.Mathlib.Omega.{arith}
use lib.IntN.{ℤ, pos, ◌+ℤ◌}
use lib.ListN.{get_or, set}
use mir.Facts.{to_z-of_z}
use mir.Syntax.{w32}
use mir.Val.{SFits, to_z, of_z}
use Rattle.integers.proofs.Linear.{ints, ◌∴◌}
use Rattle.integers.proofs.Machine.{plain}
use Rattle.calendar.specs.Meaning.{label_of, empty}
use Rattle.calendar.specs.Lists.{only}
use Rattle.calendar.specs.Compute.{cell_of}
use Rattle.cursors.proofs.Cells.{get_d_any}
use Rattle.fill_pointwise.specs.Beside.{kept_by, kept_at, kept_cells, kept_count}
use Rattle.fill_pointwise.proofs.Kept.{kept-before, count-few, cells-more, count-more}
use Rattle.fill_pointwise.proofs.beside.fill_beside.Invariants.{Inv}
use Rattle.fill_pointwise.proofs.beside.fill_beside.Goals as goal
use Rattle.fill_pointwise.proofs.beside.fill_beside.Goals.{After-kept, At-loop-t, In-loop-t, Start}

-- an instant more, which is kept or not, with the label that follows
module _ (c : ℤ) (bare shared : Bool) (from at : ℕ) (old new : List ℤ) (label : ℤ) (count t : ℕ)
    (v : Inv c bare shared from at old new label count t) (fits : SFits w32 (c +ℤ pos t +ℤ pos 1))
    (b : Bool) (k : b ≡ kept_at bare shared from old t) where
  more : (z : ℤ) (m : ℕ) → z ≡ cell_of (only (c +ℤ pos t) b) → m ≡ cond b (1 + count) count
      → Inv c bare shared from at old (set new (at + t) z) (to_z w32 (of_z w32 (label +ℤ pos 1))) m (t + 1)
  more z m f g =
      let e : c +ℤ pos t +ℤ pos 1 ≡ c +ℤ pos (t + 1) = simp ints (omega arith) in
      record {
        next = ap (λ (y : ℤ). to_z w32 (of_z w32 (y +ℤ pos 1))) v.next ∙ to_z-of_z fits ∙ e;
        cells = cells-more c bare shared from at old t new v.cells b k z f;
        counted = count-more c bare shared from at old t new v.cells b k m count v.counted g;
      }

pub loop-t-init : goal.loop-t-init
loop-t-init c =
    let z = to_z w32 (of_z w32 c.args.first) in
    let e : z ≡ z +ℤ pos 0 = simp ints (omega arith) in
    record {
      next = e;
      cells = refl;
      counted = refl;
    }

-- the label that follows fits
fits_after : (s : Start) (t : ℕ) → t < s.args.period → SFits w32 (to_z w32 (of_z w32 s.args.first) +ℤ pos t +ℤ pos 1)
fits_after s t h =
    let f = s.ranges.first in
    simp plain (s.requires.label.0 ∴ s.requires.labels ∴ h ∴ simp ints (omega arith))

-- no more are kept than are passed
pub overflow_add-count : goal.overflow_add-count
overflow_add-count c =
    let a = c.args in
    let few = count-few a.first a.bare a.shared a.from a.at a.pool.now c.loop-t.t in
    omega (arith, c.loop-t.invariant.counted, c.requires.room, c.requires.few)

pub overflow_add-label : goal.overflow_add-label
overflow_add-label c =
    let l = (goal.at.overflow_add-label c).At-loop-t in
    rw l.loop-t.invariant.next (fits_after (goal.at.At-loop-t l).Start l.loop-t.t c.loop-t-test.true)

-- whether the instant is kept
is-kept : (c : After-kept) → let l = (goal.at.After-kept c).At-loop-t in
    c.kept.result ≡ kept_at l.args.bare l.args.shared l.args.from l.args.pool.now l.loop-t.t
is-kept c =
    let i = (goal.at.After-kept c).In-loop-t in
    let l = (goal.at.In-loop-t i).At-loop-t in
    let a = l.args in
    let n = a.from + l.loop-t.t in
    let f : SFits w32 (get_or l.loop-t.pool n (pos 0)) = sfits_of c.kept-arg-1.given in
    let e : get_or l.loop-t.pool n (pos 0) ≡ get_or a.pool.now n empty =
    get_d_any l.loop-t.pool n (pos 0) empty (omega (arith, l.requires.stands, l.requires.room))
    ∙ ap (λ (p : List ℤ). get_or p n empty) l.loop-t.invariant.cells
    ∙ kept-before _ _ _ _ a.at a.pool.now l.loop-t.t n empty (omega (arith, l.requires.stands)) in
    c.kept.ensures ∙ ap (λ (z : ℤ). kept_by a.bare a.shared (label_of z)) (to_z-of_z f ∙ e)

pub loop-t-preserved : goal.loop-t-preserved
loop-t-preserved c =
    let i = (goal.at.loop-t-preserved c).In-loop-t in
    let l = (goal.at.In-loop-t i).At-loop-t in
    let a = l.args in
    let t = l.loop-t.t in
    let go = more (to_z w32 (of_z w32 a.first)) a.bare a.shared a.from a.at a.pool.now l.loop-t.pool (to_z w32 l.loop-t.label-bits) l.loop-t.count t
    l.loop-t.invariant (fits_after (goal.at.At-loop-t l).Start t i.loop-t-test.true) in
    ⊎_elim
    (λ w. go true (sym w.if-kept.true ∙ is-kept (goal.at.loop-t-preserved c).After-kept) _ _ (w.cell-is ∙ l.loop-t.invariant.next) (omega (arith, w.count-is)))
    (λ w. go false (sym w.if-kept.false ∙ is-kept (goal.at.loop-t-preserved c).After-kept) _ _ w.cell-is w.count-is)
    c.if-kept.branch-raw

pub returns : goal.returns
returns c =
    let l = (goal.at.returns c).At-loop-t in
    let s = (goal.at.At-loop-t l).Start in
    let a = s.args in
    let f = s.ranges.first in
    let e : l.loop-t.t ≡ a.period = omega arith in
    let v = simp plain at l.loop-t.invariant in record {
      cells = v.cells ∙ ap (λ (n : ℕ). kept_cells a.first a.bare a.shared a.from a.at n a.pool.now) e;
      count = v.counted ∙ ap (λ (n : ℕ). kept_count a.bare a.shared a.from n a.pool.now) e;
    }
