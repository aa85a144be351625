-- `journal::records::lay` meets its contract. The loop's invariant: the bytes before i are those of the record.
-- Assumes nothing.
use lib.ListN.{length}
use Rattle.journal.specs.Journal.{record_of}
use Rattle.journal.proofs.Laying.{Laid}
use Rattle.journal.proofs.records.lay.Given as goal

abbrev pub invariant-loop-i : goal.invariant-loop-i
invariant-loop-i l = Laid (record_of l.text) (length l.initial.out) l.i l.out
