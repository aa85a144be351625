-- `sheet_lines::write_word` meets its contract. The loop's invariant: the first i bytes have been written.
-- Assumes nothing.
use lib.ListN.{take}
use Rattle.sheet_lines.specs.Laid.{Adds}
use Rattle.sheet_lines.proofs.write_word.Given as goal

abbrev pub invariant-loop-b : goal.invariant-loop-b
invariant-loop-b l = Adds (take l.b-index l.word) l.at l.initial.out l.place l.out
