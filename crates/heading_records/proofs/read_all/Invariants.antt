-- The first i headings are read.
use Rattle.std.proofs.Common.{◌≡◌}
use Rattle.heading_records.specs.Reading.{read_upto}
use Rattle.heading_records.proofs.read_all.Given as goal

abbrev pub invariant-loop-i : goal.invariant-loop-i
invariant-loop-i l = l.read ≡ read_upto l.headings l.i
