-- The first i headings are written, and the rest is as it was.
use Rattle.std.proofs.Common.{◌≡◌}
use Rattle.hand_proofs.proofs.Written.{wrote}
use Rattle.headings.specs.LeftRecords.{record_at}
use Rattle.headings.proofs.write_all.Given as goal

abbrev pub invariant-loop-i : goal.invariant-loop-i
invariant-loop-i l = l.headings ≡ wrote (record_at l.numbers) l.fn.headings l.i
