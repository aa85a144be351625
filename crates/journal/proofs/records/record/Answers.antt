-- `journal::records::record` meets its contract: where a number of bytes is answered, the record is laid.
-- Assumes nothing.
use Rattle.journal.proofs.Laying.{record-fits, left-record, left-nothing}
use Rattle.journal.proofs.records.record.Goals as goal

pub lay-requires : goal.lay-requires
lay-requires c = record-fits _ _ c.recorded-written.ensures _ c.in-Ok.is

pub returns-in-Ok : goal.returns-in-Ok
returns-in-Ok c = left-record _ _ c.recorded-written.ensures _ c.in-Ok.is _ c.lay.ensures

pub returns-in-Err : goal.returns-in-Err
returns-in-Err c = left-nothing _ _ c.recorded-written.ensures _ c.in-Err.is _ c.clear.ensures
