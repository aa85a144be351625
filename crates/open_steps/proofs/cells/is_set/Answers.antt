-- `open_steps::cells::is_set` meets its contract: the word shifted down has the cell's bit at its end.
-- Assumes nothing.
use mathlib.Core.Path.{ap}
use Prim.Native.Nat.{ℕ, ◌/◌, ◌%◌, ◌^◌}
use lib.Dec.{eqb}
use Rattle.words.specs.Bits.{bit, cell}
use Rattle.open_steps.proofs.cells.is_set.Goals as goal

pub returns : goal.returns
unfolding bit cell
returns c = ap (λ (w : ℕ). eqb (w / 2 ^ (c.args.c % 64) % 2) 1) c.word_at.ensures
