-- `counts::labels_on` meets its contract: the loop keeps the count, by the greatest label so far and the cells that are left.
-- Assumes nothing.
use mathlib.Core.Path.{◌≡◌, refl, sym, ◌∙◌, ap}
use mathlib.Core.Logic.{⊎_elim}
use Prim.Native.Nat.{◌-◌, ◌+◌, ◌<◌, ◌^◌}
use native.Mathlib.Omega.{arith}
use borrow.Author.Rules.{sfits_of}
use lib.IntN.{ℤ, pos}
use lib.ListN.{length, drop, take, get_or, length-drop}
use lib.Seq.{take-length}
use mir.Facts.{to_z-of_z, to_z_pos}
use mir.Syntax.{w32, w64}
use mir.Val.{SFits, to_z}
use Rattle.integers.proofs.Machine.{widened}
use Rattle.counts.specs.Labels.{rises, greatest, counted_on}
use Rattle.counts.proofs.Counts.{count-end}
use Rattle.counts.proofs.Steps.{labels-eq, Passed, passed_then, passed-more, passed-same}
use Rattle.counts.proofs.labels_on.Goals as goal
use Rattle.counts.proofs.labels_on.Goals.{After-loop-z}

pub loop-z-preserved : goal.loop-z-preserved
loop-z-preserved c =
    let k = c.loop-z in
    let i = k.z-index in
    let l = drop c.args.i c.args.cells.now in
    let top = to_z w32 k.top-bits in
    let here : i < length l = omega (arith, length-drop c.args.i c.args.cells.now) in
    let whole : take (length c.args.cells.now - c.args.i) l ≡ l = ap (λ n. take n l) (sym (length-drop c.args.i c.args.cells.now)) ∙ take-length l in
    let given : SFits w32 (get_or (take (length c.args.cells.now - c.args.i) l) i (pos 0)) = sfits_of c.z-1.given in
    let f : SFits w32 (get_or l i (pos 0)) = rw whole at given in
    let p : Passed l i (i + 1) top k.sum (to_z w32 c.if-z-top.top-bits) c.if-z-top.sum =
    ⊎_elim
    (λ w. passed-more l i (i + 1) top k.sum _ _ here refl f (rw whole at w.if-z-top.true) (rw whole at w.top-is) w.sum-is)
    (λ w. passed-same l i (i + 1) top k.sum _ _ here refl f k.invariant.fits (rw whole at w.if-z-top.false) w.top-is w.sum-is)
    c.if-z-top.branch-raw in
    passed_then l _ i (i + 1) _ _ _ _ _ _ k.invariant p

few : (c : After-loop-z) → c.loop-z.sum < 2 ^ 63
few c = let p = c.loop-z.invariant.few in omega arith

pub returns : goal.returns
unfolding counted_on
returns c =
    let k = c.loop-z in
    let l = drop c.args.i c.args.cells.now in
    let e = count-end l k.z-index (to_z w32 k.top-bits) (omega (arith, length-drop c.args.i c.args.cells.now)) in
    let f = to_z-of_z c.ranges.last in
    let r = ap (λ (y : ℤ). rises y l) f in
    labels-eq
    (to_z_pos w64 (few c) ∙ ap pos (omega (arith, k.invariant.left, e.0, r)))
    (to_z-of_z (widened k.invariant.fits) ∙ sym (ap (λ (y : ℤ). greatest y l) (sym f) ∙ k.invariant.end ∙ e.1))
