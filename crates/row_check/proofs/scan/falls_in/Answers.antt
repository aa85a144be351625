-- `row_check::scan::falls_in` meets its contract: as long as no cell is below the one before, the labels go on from the cell before.
-- Assumes nothing.
use mathlib.Core.Path.{◌≡◌, sym, ◌∙◌, ap, ap₂, subst}
use mathlib.Core.Logic.{⊎_elim}
use Prim.Native.Nat.{ℕ, ◌+◌, ◌-◌, ◌<◌}
use native.Mathlib.Omega.{arith}
use borrow.Author.Rules.{sfits_of}
use lib.IntN.{ℤ, pos}
use lib.Signed.{◌≤ℤ◌, le_z}
use lib.ListN.{length, get_or, drop}
use mir.Facts.{to_z-of_z}
use mir.Syntax.{w32}
use mir.Val.{SFits}
use Rattle.integers.proofs.Linear.{ints, ◌∴◌}
use Rattle.integers.proofs.Machine.{test-le, test-not-lt}
use Rattle.calendar.specs.Meaning.{empty}
use Rattle.cursors.proofs.Cells.{get_d_any}
use Rattle.row_check.specs.Order.{risen}
use Rattle.row_check.proofs.Order.{risen-on}
use Rattle.row_check.proofs.scan.falls_in.Goals as goal

pub loop-i-preserved : goal.loop-i-preserved
loop-i-preserved c =
    let k = c.loop-i in
    let l = c.args.cells.now in
    let i = k.i in
    let here : i < length l = omega arith in
    let x : get_or l i (pos 0) ≡ get_or l i empty = get_d_any l i (pos 0) empty here in
    let y : get_or l (i - 1) (pos 0) ≡ get_or l (i - 1) empty = get_d_any l (i - 1) (pos 0) empty (omega arith) in
    let f : SFits w32 (get_or l i (pos 0)) = sfits_of c.t9-1.given in
    let g : SFits w32 (get_or l (i - 1) (pos 0)) = sfits_of c.t13-1.given in
    let low : empty ≤ℤ get_or l (i - 1) empty = subst (λ (z : ℤ). empty ≤ℤ z) y (g ∴ simp ints (omega arith)) in
    let e : i ≡ i + 1 - 1 = omega arith in
    ⊎_elim
    (λ w. record { few = omega arith; same = λ n. absurd (omega (arith, n, w.count-is)) })
    (λ w.
    let o = (test-not-lt (get_or l i (pos 0)) (get_or l (i - 1) (pos 0))).0 (rw (to_z-of_z f, to_z-of_z g) at w.if-cells-i.false) in
    let t = ap₂ le_z (sym y) (sym x) ∙ (test-le (get_or l (i - 1) (pos 0)) (get_or l i (pos 0))).1 o in
    record {
      few = omega arith;
      same = λ n.
          k.invariant.same (sym w.count-is ∙ n)
          ∙ risen-on l i empty here (get_or l (i - 1) empty) low t
          ∙ ap (λ (m : ℕ). risen (get_or l m empty) (drop (i + 1) l)) e;
    })
    c.if-cells-i.branch-raw
