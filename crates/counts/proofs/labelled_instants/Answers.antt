-- `counts::labelled_instants` meets its contract: the loop counts the labels of the cells that it has passed.
-- Assumes nothing.
use mathlib.Core.Path.{◌∙◌, ap}
use Prim.Native.Nat.{◌<◌, ◌^◌}
use native.Mathlib.Omega.{arith}
use lib.IntN.{pos}
use mir.Facts.{to_z_pos}
use mir.Syntax.{w64}
use Rattle.integers.proofs.Linear.{ints, ◌∴◌}
use Rattle.counts.proofs.Counts.{labelled-end}
use Rattle.counts.proofs.labelled_instants.Goals as goal
use Rattle.counts.proofs.labelled_instants.Goals.{After-loop-i}

pub loop-i-init : goal.loop-i-init
loop-i-init c = record { few = omega arith; within = omega arith; left = omega arith }

pub loop-i-preserved : goal.loop-i-preserved
loop-i-preserved c = record { few = omega arith; within = omega arith; left = omega arith }

few : (c : After-loop-i) → c.loop-i.count < 2 ^ 63
few c = omega arith

pub overflow_cast-result : goal.overflow_cast-result
overflow_cast-result c = few c ∴ simp ints (omega arith)

pub returns : goal.returns
returns c =
    let k = c.loop-i in
    to_z_pos w64 (few c) ∙ ap pos (omega (arith, k.invariant.left, labelled-end c.args.cells.now k.i (omega arith)))
