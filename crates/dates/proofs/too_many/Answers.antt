-- `dates::too_many` meets its contract, at each of its three cases.
-- Assumes nothing.
use Rattle.dates.proofs.Months.{many-early, many-late}
use Rattle.dates.proofs.too_many.Goals as goal
use Rattle.dates.proofs.too_many.Goals.{Start}

pub returns-then-month-le2 : goal.returns-then-month-le2
returns-then-month-le2 c = many-early c.args.leap c.args.month c.if-month-le2.true

pub returns-then-leap : goal.returns-then-leap
returns-then-leap c =
    let s = (goal.at.returns-then-leap c).Start in many-late s.args.leap s.args.month c.if-month-le2.false c.if-leap.true

pub returns-else-leap : goal.returns-else-leap
returns-else-leap c =
    let s = (goal.at.returns-else-leap c).Start in many-late s.args.leap s.args.month c.if-month-le2.false c.if-leap.false
