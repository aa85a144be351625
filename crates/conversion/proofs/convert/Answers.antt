-- `conversion::convert` meets its contract: the headings are cleared, checks 1, 2 and 3 pass, and then it is what its entries come to.
-- Assumes nothing.
use mathlib.Core.Path.{◌≡◌, sym, ◌∙◌, ap}
use Prim.Native.Nat.{ℕ, ◌/◌}
use lib.ListN.{length}
use Rattle.calendar.specs.Limits.{heading_length}
use Rattle.calendar.specs.Table.{admitted}
use Rattle.entries.specs.Entries.{begun_reply}
use Rattle.conversion.proofs.Outcomes.{outcome-refused, outcome-entries, admitted-due}
use Rattle.conversion.proofs.convert.Goals as goal

pub returns-in-Err : goal.returns-in-Err
returns-in-Err c =
    let a = c.args in
    let begins : begun_reply c.begin-begun.result ≡ admitted a.table.now (length a.headings.now / heading_length) (length a.pool.now) =
    c.begin-begun.ensures ∙ ap (λ (h : ℕ). admitted a.table.now (h / heading_length) (length a.pool.now)) c.clear_headings.auto.headings in
    rw c.number.ensures
    (outcome-refused a.table.now (length a.headings.now) (length a.pool.now) _ c.clear_headings.new.headings _ (sym begins ∙ ap begun_reply c.in-Err.is)
    (record { numbers = c.clear_headings.ensures; cells = c.clear_cells.ensures }))

pub convert_entries-requires : goal.convert_entries-requires
convert_entries-requires c =
    let a = c.args in
    let begins : begun_reply c.begin-begun.result ≡ admitted a.table.now (length a.headings.now / heading_length) (length a.pool.now) =
    c.begin-begun.ensures ∙ ap (λ (h : ℕ). admitted a.table.now (h / heading_length) (length a.pool.now)) c.clear_headings.auto.headings in
    admitted-due a.table.now (length a.headings.now) c.in-Ok.n c.clear_headings.new.headings a.pool.now c.clear_headings.ensures (sym begins ∙ ap begun_reply c.in-Ok.is)

pub returns-in-Ok : goal.returns-in-Ok
returns-in-Ok c =
    let a = c.args in
    let begins : begun_reply c.begin-begun.result ≡ admitted a.table.now (length a.headings.now / heading_length) (length a.pool.now) =
    c.begin-begun.ensures ∙ ap (λ (h : ℕ). admitted a.table.now (h / heading_length) (length a.pool.now)) c.clear_headings.auto.headings in
    outcome-entries a.table.now (length a.headings.now) (length a.pool.now) c.in-Ok.n _ _ _ (sym begins ∙ ap begun_reply c.in-Ok.is)
    (rw c.clear_headings.auto.headings at c.convert_entries.ensures)
