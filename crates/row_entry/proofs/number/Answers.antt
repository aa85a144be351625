-- `row_entry::number` meets its contract: a number up to the pool's limit fits 32 bits.
-- Assumes nothing.
use Rattle.integers.proofs.Machine.{plain}
use Rattle.entries.proofs.Naturals.{nat_abs-up}
use Rattle.row_entry.proofs.Numbers.{cast-number}
use Rattle.row_entry.proofs.number.Goals as goal

pub overflow_cast-result : goal.overflow_cast-result
overflow_cast-result c = let z = c.ranges.z in simp plain (cast-number c.requires.0 c.requires.1)

pub returns : goal.returns
returns c = let z = c.ranges.z in simp plain (nat_abs-up c.requires.0)
