-- `open_steps::upward::by_words` meets its contract. The loop's invariant: `left` set cells are to be passed from `word` on.
-- Assumes nothing.
use mathlib.Core.Path.{◌≡◌}
use Prim.Native.Nat.{◌+◌, ◌*◌}
use Rattle.words.specs.Bits.{cell, tally}
use Rattle.open_steps.proofs.upward.by_words.Given as goal

abbrev pub invariant-loop-word : goal.invariant-loop-word
invariant-loop-word l = tally (cell l.words) (64 * l.word) + l.left ≡ tally (cell l.words) (64 * l.i) + l.k
