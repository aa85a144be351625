-- `cursors::cell_at` meets its contract: an index is a natural below the length, and its cell is read back from its bits.
-- Assumes nothing.
use mathlib.Core.Path.{◌≡◌, ◌∙◌}
use Prim.Native.Nat.{ℕ}
use native.Mathlib.Omega.{arith}
use borrow.Author.Rules.{sfits_of}
use lib.IntN.{pos, nat_abs}
use lib.ListN.{get_or}
use mir.Facts.{to_z-of_z}
use mir.Syntax.{w32, w64}
use mir.Val.{SFits, of_z, to_z}
use Rattle.integers.specs.Parts.{up}
use Rattle.integers.proofs.Machine.{plain}
use Rattle.calendar.specs.Meaning.{empty}
use Rattle.cursors.proofs.Cells.{get_d_any, index-nat}
use Rattle.cursors.proofs.cell_at.Goals as goal

pub overflow_cast-k : goal.overflow_cast-k
overflow_cast-k c =
    let i = c.ranges.i in
    let k = index-nat c.args.cells.now c.requires in
    simp plain (k.0, omega (arith, k.1, k.2))

pub bounds-cells-k : goal.bounds-cells-k
bounds-cells-k c =
    let i = c.ranges.i in
    let k = index-nat c.args.cells.now c.requires in
    simp plain (omega (arith, k.1, k.2))

pub offset_bounds-cells-k : goal.offset_bounds-cells-k
offset_bounds-cells-k c = omega (arith, bounds-cells-k c)

pub returns : goal.returns
returns c =
    let s = c.before in
    let l = s.args.cells.now in
    let i = s.ranges.i in
    let k = index-nat l s.requires in
    let j : ℕ = nat_abs (to_z w64 (of_z w64 s.args.i)) in
    let f : SFits w32 (get_or l j (pos 0)) = sfits_of c.result-1.given in
    let e : get_or l j (pos 0) ≡ get_or l (up s.args.i) empty = simp (plain, k.1) (get_d_any l (up s.args.i) (pos 0) empty k.2) in
    to_z-of_z f ∙ e
