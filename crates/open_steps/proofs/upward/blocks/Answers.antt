-- `open_steps::upward::blocks` meets its contract. The loop's invariant: `left` set cells are to be passed from `word` on.
-- Assumes nothing.
use native.Mathlib.Omega.{arith}
use Rattle.open_steps.proofs.upward.blocks.Goals as goal

pub loop-word-init : goal.loop-word-init
loop-word-init c = (omega arith, omega arith)

pub ones_in-n-requires : goal.ones_in-n-requires
ones_in-n-requires c = (omega arith, omega arith, omega arith)

pub returns-then-left-n : goal.returns-then-left-n
returns-then-left-n c = let k = c.loop-word in record { most = k.invariant.0; same = k.invariant.1 }

pub loop-word-preserved : goal.loop-word-preserved
loop-word-preserved c = (omega arith, omega arith)

pub returns : goal.returns
returns c = let k = c.loop-word in record { most = k.invariant.0; same = k.invariant.1 }
