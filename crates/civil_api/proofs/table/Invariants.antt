-- `civil_api::table` meets its contract. The loop's invariant: the numbers before i are those that are to be left.
-- Assumes nothing.
use Rattle.civil_api.proofs.Tables.{Written}
use Rattle.civil_api.proofs.table.Given as goal

abbrev pub invariant-loop-i : goal.invariant-loop-i
invariant-loop-i l = Written l.n l.i l.list
