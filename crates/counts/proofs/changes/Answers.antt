-- `counts::changes` meets its contract: the loop keeps the count, by the cell before and the cells that are left.
-- Assumes nothing.
use Prim.Native.Nat.{◌-◌}
use native.Mathlib.Omega.{arith}
use lib.ListN.{get_or}
use Rattle.calendar.specs.Meaning.{empty}
use Rattle.counts.proofs.Whole.{differing-end}
use Rattle.counts.proofs.changes.Goals as goal

pub loop-i-init : goal.loop-i-init
loop-i-init c = record { few = omega arith; within = omega (arith, c.requires); left = omega arith }

pub loop-i-preserved : goal.loop-i-preserved
loop-i-preserved c = record { few = omega arith; within = omega arith; left = omega arith }

pub returns : goal.returns
returns c =
    let k = c.loop-i in
    let l = c.args.cells.now in
    omega (arith, k.invariant.left, differing-end l k.i (get_or l (k.i - 1) empty) (omega arith))
