-- `dates::days_to_month` meets its contract: its division is right at each month.
-- Assumes nothing.
use Rattle.dates.proofs.Months.{days-right}
use Rattle.dates.proofs.days_to_month.Goals as goal
use Rattle.dates.proofs.days_to_month.Goals.{Start}

pub overflow_sub-result-2 : goal.overflow_sub-result-2
overflow_sub-result-2 c =
    let s = (goal.at.overflow_sub-result-2 c).Start in rw c.too_many.ensures (days-right s.args.leap s.args.month s.requires.0 s.requires.1).begun

pub returns : goal.returns
returns c =
    let s = (goal.at.returns c).Start in rw c.too_many.ensures (days-right s.args.leap s.args.month s.requires.0 s.requires.1).right
