-- `sheet_text::lay_converted` meets its contract: what is written are the lines of what the conversion leaves.
-- Assumes nothing.
use mathlib.Core.Path.{◌≡◌, subst}
use mathlib.Core.List.{[]}
use Prim.Native.Nat.{◌*◌}
use Rattle.calendar.specs.Limits.{entry_limit, heading_length}
use Rattle.table_text.specs.Text.{sheet_pool}
use Rattle.conversion.specs.Conversion.{Conversion}
use Rattle.conversion.specs.Left.{Left}
use Rattle.sheet_lines.proofs.Laying.{laid_none, relay}
use Rattle.sheet_text.proofs.Rows.{printed-refusal, rows-there, printed-rows}
use Rattle.sheet_text.proofs.lay_converted.Goals as goal
use Rattle.sheet_text.proofs.lay_converted.Goals.{After-convert-converted, After-write_refusal, After-write_rows, Start}

abbrev start : After-convert-converted → Start
start a = (goal.at.After-convert-converted a).Start

-- the conversion's answer is x
abbrev Says : After-convert-converted → Conversion → Type 0
Says a x = Left (start a).args.table.now (heading_length * entry_limit) sheet_pool x a.convert-converted.new.headings a.convert-converted.new.pool

says : (a : After-convert-converted) (x : Conversion) → a.convert-converted.result ≡ x → Says a x
says a x e = subst (Says a) e (rw ((start a).requires.0, (start a).requires.1) at a.convert-converted.ensures)

pub write_rows-requires : goal.write_rows-requires
write_rows-requires c =
    rows-there _ _ _ _ _ (says (goal.at.write_rows-requires c).After-convert-converted _ c.in-Ok.is)

pub returns-in-Err : goal.returns-in-Err
returns-in-Err c =
    let w = (goal.at.returns-in-Err c).After-write_refusal in
    relay (printed-refusal _ _ _ _ _ _ _ (says (goal.at.returns-in-Err c).After-convert-converted _ c.in-Err.is))
    (w.write_refusal.ensures [] _ (laid_none _))

pub returns-in-Ok : goal.returns-in-Ok
returns-in-Ok c =
    let w = (goal.at.returns-in-Ok c).After-write_rows in
    relay (printed-rows _ _ _ _ _ (says (goal.at.returns-in-Ok c).After-convert-converted _ c.in-Ok.is))
    (w.write_rows.ensures [] _ (laid_none _))
