-- The loop ends behind the last heading, so all are written.
use Rattle.std.proofs.Common.{arith}
use Rattle.hand_proofs.proofs.Written.{wrote-end}
use Rattle.headings.specs.LeftRecords.{record_at}
use Rattle.headings.proofs.write_all.Goals as goal

pub returns : goal.returns
returns c = wrote-end (record_at c.args.numbers.now) _ _ _ c.loop-i.auto.i-end c.loop-i.invariant (omega arith)
