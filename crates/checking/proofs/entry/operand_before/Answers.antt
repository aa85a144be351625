-- `checking::entry::operand_before` meets its contract.
-- Assumes nothing.
use mathlib.Core.Path.{◌∙◌}
use native.Mathlib.Omega.{arith}
use Rattle.verdicts.proofs.LeftBy.{operand-among, operand-none}
use Rattle.checking.proofs.entry.operand_before.Goals as goal
use Rattle.checking.proofs.entry.operand_before.Goals.{Start}

pub returns-then-j-k : goal.returns-then-j-k
returns-then-j-k c =
    let s = (goal.at.returns-then-j-k c).Start in
    let a = s.args in
    c.operand_at.ensures ∙ operand-among a.headings.now a.k a.j (omega arith)

pub returns-else-j-k : goal.returns-else-j-k
returns-else-j-k c =
    let s = (goal.at.returns-else-j-k c).Start in
    let a = s.args in
    operand-none a.headings.now a.k a.j s.requires (omega arith)
