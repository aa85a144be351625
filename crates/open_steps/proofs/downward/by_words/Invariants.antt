-- `open_steps::downward::by_words` meets its contract. The loop's invariant: `left` set cells are to be passed before `word`.
-- Assumes nothing.
use mathlib.Core.Path.{◌≡◌}
use Prim.Native.Nat.{◌+◌, ◌*◌}
use Rattle.words.specs.Bits.{cell, tally}
use Rattle.open_steps.proofs.downward.by_words.Given as goal

abbrev pub invariant-loop-word : goal.invariant-loop-word
invariant-loop-word l = tally (cell l.words) (64 * l.i) + l.left ≡ tally (cell l.words) (64 * l.word) + l.k
