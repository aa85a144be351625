-- `table_text::entry::read_entry` meets its contract. The loop's invariant: what is left of the line is to be read behind the first k numbers.
-- Assumes nothing.
use mathlib.Core.Path.{◌≡◌}
use Prim.Native.Nat.{◌≤◌}
use lib.ListN.{length, take, drop}
use Rattle.table_text.proofs.Cutting.{rest}
use Rattle.table_text.specs.Parse.{entry_of}
use Rattle.table_text.proofs.entry.read_entry.Given as goal

abbrev pub invariant-loop-k : goal.invariant-loop-k
invariant-loop-k l =
    (l.from ≤ length l.line) × (length l.numbers ≡ 6) ×
    (entry_of l.line ≡ rest (take l.k l.numbers) (drop l.from l.line))
