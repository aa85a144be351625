-- `sheet_text::lay_sheet` meets its contract: what is written is the line of the bad line, or the sheet of the table that was read.
-- Assumes nothing.
use Rattle.std.specs.Prelude.{Result}
use mathlib.Core.Path.{◌≡◌, sym, ◌∙◌, ap, subst}
use mathlib.Core.List.{[]}
use Prim.Native.Nat.{ℕ, ◌≤◌}
use lib.ListN.{length}
use lib.Seq.{length-take-le}
use Rattle.table_text.specs.Text.{table_length}
use Rattle.table_text.specs.Parse.{parse}
use Rattle.table_text.specs.Tables.{Left}
use Rattle.sheet_lines.specs.RowLines.{refusal_line}
use Rattle.sheet_lines.proofs.Laying.{laid_none, relay}
use Rattle.sheet_text.proofs.Texts.{sheet-bad, sheet-table}
use Rattle.sheet_text.proofs.lay_sheet.Goals as goal
use Rattle.sheet_text.proofs.lay_sheet.Goals.{After-lay_table, After-read_table-reading, After-write_refusal, In-Ok, Start}

abbrev start : After-read_table-reading → Start
start a = (goal.at.After-read_table-reading a).Start

-- the reading is x
abbrev Says : After-read_table-reading → Result ℕ ℕ → Type 0
Says a x = Left table_length (parse (start a).args.text.now) x a.read_table-reading.new.table

says : (a : After-read_table-reading) (x : Result ℕ ℕ) → a.read_table-reading.result ≡ x → Says a x
says a x e = subst (Says a) e a.read_table-reading.ensures

abbrev reading : In-Ok → After-read_table-reading
reading k = (goal.at.In-Ok k).After-read_table-reading

-- the table that was read stands in the array
read : (k : In-Ok) → k.in-Ok.n ≤ length (reading k).read_table-reading.new.table
read k = (sheet-table table_length _ _ _ (reading k).read_table-reading.auto.table (says (reading k) _ k.in-Ok.is)).0

pub slice_bounds-table-end : goal.slice_bounds-table-end
slice_bounds-table-end c = read c

pub slice_bounds-lay_table-end : goal.slice_bounds-lay_table-end
slice_bounds-lay_table-end c = sym (length-take-le _ _ (read (goal.at.slice_bounds-lay_table-end c).In-Ok))

pub returns-in-Err : goal.returns-in-Err
returns-in-Err c =
    let w = (goal.at.returns-in-Err c).After-write_refusal in
    let is-19 = ap (λ (k : ℕ). refusal_line k c.in-Err.line) c.number.ensures in
    relay (is-19 ∙ sheet-bad table_length _ _ _ (says (goal.at.returns-in-Err c).After-read_table-reading _ c.in-Err.is))
    (w.write_refusal.ensures [] _ (laid_none _))

pub returns-in-Ok : goal.returns-in-Ok
returns-in-Ok c =
    let w = (goal.at.returns-in-Ok c).After-lay_table in
    let k = (goal.at.After-lay_table w).In-Ok in
    relay (sheet-table table_length _ _ _ (reading k).read_table-reading.auto.table (says (reading k) _ k.in-Ok.is)).1
    w.lay_table.ensures
