-- `open_steps::upward::by_words` meets its contract. The loop's invariant: `left` set cells are to be passed from `word` on.
-- Assumes nothing.
use native.Mathlib.Omega.{arith}
use Rattle.bitmaps.proofs.Words.{tally-whole}
use Rattle.open_steps.proofs.Selected.{nth_in}
use Rattle.open_steps.proofs.upward.by_words.Goals as goal

pub returns-then-left-n : goal.returns-then-left-n
returns-then-left-n c = nth_in _ _ _ _ _ c.place_of.ensures.0 c.loop-word.invariant c.place_of.ensures.1

pub loop-word-preserved : goal.loop-word-preserved
loop-word-preserved c = grind (arith, tally-whole)
