-- `dates::too_few` meets its contract, at each of its four cases.
-- Assumes nothing.
use borrow.Author.Tests.{lt-ltb, le-ltb}
use Rattle.dates.proofs.Months.{few-leap, few-common}
use Rattle.dates.proofs.too_few.Goals as goal

pub returns-then-n-lt60 : goal.returns-then-n-lt60
returns-then-n-lt60 c = let n = c.args.n in few-leap n c.if-leap.true (lt-ltb n 60 c.if-n-lt60.true)

pub returns-else-n-lt60 : goal.returns-else-n-lt60
returns-else-n-lt60 c = let n = c.args.n in few-leap n c.if-leap.true (le-ltb n 60 c.if-n-lt60.false)

pub returns-then-n-lt59 : goal.returns-then-n-lt59
returns-then-n-lt59 c = let n = c.args.n in few-common n c.if-leap.false (lt-ltb n 59 c.if-n-lt59.true)

pub returns-else-n-lt59 : goal.returns-else-n-lt59
returns-else-n-lt59 c = let n = c.args.n in few-common n c.if-leap.false (le-ltb n 59 c.if-n-lt59.false)
