-- `checking::check` meets its contract: checks 1, 2 and 3 pass, and then it is what its entries and the rest come to.
-- Assumes nothing.
use mathlib.Core.Path.{◌≡◌, sym, ◌∙◌, ap}
use Prim.Native.Nat.{ℕ, ◌/◌}
use lib.ListN.{length}
use Rattle.calendar.specs.Limits.{heading_length}
use Rattle.calendar.specs.Reply.Reply.{answer}
use Rattle.calendar.specs.Table.{admitted}
use Rattle.entries.specs.Entries.{begun_reply}
use Rattle.checking.proofs.Table.{check-refused, check-admitted, admitted-claimed}
use Rattle.checking.proofs.check.Goals as goal
use Rattle.checking.proofs.check.Goals.{After-begin-begun, In-Ok}

pub returns-in-Err : goal.returns-in-Err
returns-in-Err c =
    let b = (goal.at.returns-in-Err c).After-begin-begun in
    let a = b.args in
    rw c.number.ensures (check-refused a.table.now a.headings.now a.pool.now _ (sym b.begin-begun.ensures ∙ ap begun_reply c.in-Err.is))

abbrev count : In-Ok → ℕ
count c = c.in-Ok.n

passes : (c : In-Ok) → let a = c.args in
    admitted a.table.now (length a.headings.now / heading_length) (length a.pool.now) ≡ answer (count c)
passes c = sym c.begin-begun.ensures ∙ ap begun_reply c.in-Ok.is

pub check_entries-requires : goal.check_entries-requires
check_entries-requires c =
    let a = c.args in
    admitted-claimed a.table.now a.headings.now a.pool.now (count c) (passes c)

pub returns-in-Ok : goal.returns-in-Ok
returns-in-Ok c =
    let k = (goal.at.returns-in-Ok c).In-Ok in
    let a = k.args in
    c.check_entries.ensures ∙ sym (check-admitted a.table.now a.headings.now a.pool.now (count k) (passes k))
