-- `table_api::sheet` meets its contract: the code of what `sheet_text::sheet` answers, and the list as it leaves it. The count fits, since the list has
-- room for the sheet.
-- Assumes nothing.
use mathlib.Core.Path.{◌∙◌, sym, ap}
use Prim.Native.Nat.{◌<◌, ◌^◌}
use native.Mathlib.Omega.{arith}
use Rattle.codes.proofs.Counts.{count_fits, count-back}
use Rattle.sheet_text.proofs.Whole.{taken-fit}
use Rattle.table_api.specs.Codes.{sheet_code}
use Rattle.table_api.proofs.sheet.Goals as goal
use Rattle.table_api.proofs.sheet.Goals.{After-sheet-written, In-Some}

abbrev writing : In-Some → After-sheet-written
writing k = (goal.at.In-Some k).After-sheet-written

-- the count is below half of the numbers of 64 bits
small : (k : In-Some) → k.in-Some.n < 2 ^ 63
small k =
    let w = writing k in
    omega (arith, taken-fit w.sheet-written.ensures k.in-Some.is, w.well_formed, w.type_inv)

pub overflow_cast-result : goal.overflow_cast-result
overflow_cast-result c = count_fits c.in-Some.n (small c)

pub returns-in-Some : goal.returns-in-Some
returns-in-Some c =
    let w = (writing c).sheet-written in
    (w.result, count-back c.in-Some.n (small c) ∙ ap sheet_code (sym c.in-Some.is), w.ensures)

pub returns-in-None : goal.returns-in-None
returns-in-None c =
    let w = c.sheet-written in
    (w.result, ap sheet_code (sym c.in-None.is), w.ensures)
