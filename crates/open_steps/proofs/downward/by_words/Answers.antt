-- `open_steps::downward::by_words` meets its contract. The loop's invariant: `left` set cells are to be passed before `word`.
-- Assumes nothing.
use Prim.Native.Nat.{◌-◌}
use native.Mathlib.Omega.{arith}
use Rattle.words.specs.Bits.{cell}
use Rattle.words.proofs.Tally.{tally-zero}
use Rattle.bitmaps.proofs.Words.{tally-whole}
use Rattle.open_steps.proofs.Selected.{below_in}
use Rattle.open_steps.proofs.downward.by_words.Goals as goal
use Rattle.open_steps.proofs.downward.by_words.Goals.{At-loop-word}

pub returns-then-left-n : goal.returns-then-left-n
returns-then-left-n c =
    let k = (goal.at.returns-then-left-n c).At-loop-word.loop-word in
    below_in _ _ (k.word - 1) _ _ _ c.place_of.ensures.0 (grind (arith, k.invariant, c.ones_of-n.ensures, tally-whole)) c.place_of.ensures.1

pub loop-word-preserved : goal.loop-word-preserved
loop-word-preserved c = grind (arith, tally-whole)

pub returns : goal.returns
returns c = grind (arith, tally-zero (cell c.args.words.now))
