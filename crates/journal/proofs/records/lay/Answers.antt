-- `journal::records::lay` meets its contract. The loop's invariant: the bytes before i are those of the record.
-- Assumes nothing.
use Rattle.journal.proofs.Laying.{laid_none, laid_more, laid-all}
use Rattle.journal.proofs.records.lay.Goals as goal

pub loop-i-init : goal.loop-i-init
loop-i-init c = laid_none _ _

pub loop-i-preserved : goal.loop-i-preserved
loop-i-preserved c = laid_more c.loop-i.invariant c.loop-i-test.true _ c.byte_at.ensures

pub returns : goal.returns
returns c = laid-all c.loop-i.invariant c.requires c.loop-i-test.false
