-- `counts::changes_in` meets its contract: the loop keeps the count, by the cell before and the cells that are left.
-- Assumes nothing.
use mathlib.Core.Path.{◌≡◌, sym, ◌∙◌, ap}
use mathlib.Core.Logic.{⊎_elim}
use Prim.Native.Nat.{ℕ, ◌+◌, ◌-◌, ◌<◌}
use native.Mathlib.Omega.{arith}
use borrow.Author.Rules.{sfits_of}
use lib.IntN.{pos}
use lib.ListN.{length, get_or, drop}
use mir.Syntax.{w32}
use mir.Val.{of_z}
use Rattle.integers.proofs.Machine.{test-eq}
use Rattle.calendar.specs.Meaning.{empty}
use Rattle.cursors.proofs.Cells.{get_d_any}
use Rattle.counts.specs.Labels.{differing}
use Rattle.counts.proofs.Whole.{differing-same, differing-more}
use Rattle.counts.proofs.changes_in.Goals as goal

pub loop-i-preserved : goal.loop-i-preserved
loop-i-preserved c =
    let k = c.loop-i in
    let l = c.args.cells.now in
    let i = k.i in
    let here : i < length l = omega arith in
    let x : get_or l i (pos 0) ≡ get_or l i empty = get_d_any l i (pos 0) empty here in
    let y : get_or l (i - 1) (pos 0) ≡ get_or l (i - 1) empty = get_d_any l (i - 1) (pos 0) empty (omega arith) in
    let e : i + 1 - 1 ≡ i = omega arith in
    let g = ap (λ (m : ℕ). differing (get_or l m empty) (drop (i + 1) l)) e in
    ⊎_elim
    (λ w.
    let m = differing-more l i empty here (get_or l (i - 1) empty) (λ h. w.if-cells-i.true (ap (of_z w32) (x ∙ h ∙ sym y))) in
    record { few = omega arith; left = omega (arith, k.invariant.left, m, g, w.count-is) })
    (λ w.
    let q = (test-eq w32 _ _ (sfits_of c.t9-1.given) (sfits_of c.t13-1.given)).0 w.if-cells-i.false in
    let m = differing-same l i empty here (get_or l (i - 1) empty) (sym x ∙ q ∙ y) in
    record { few = omega arith; left = omega (arith, k.invariant.left, m, g, w.count-is) })
    c.if-cells-i.branch-raw
