-- `row_check::scan::last_label` meets its contract: the labels go on from the cell up to which they rise.
-- Assumes nothing.
use mathlib.Core.Path.{sym, ◌∙◌}
use Rattle.row_check.proofs.scan.last_label.Goals as goal

pub returns : goal.returns
returns c = c.last_stepped-2.ensures ∙ sym c.rising_to-from.ensures.start_value
