-- `fill_pointwise::counted_outcome` meets its contract.
-- Assumes nothing.
use native.Mathlib.Omega.{arith}
use Rattle.granules.proofs.Tests.{ltb_iff, false-iff}
use Rattle.fill_pointwise.proofs.counted_outcome.Goals as goal
use Rattle.fill_pointwise.proofs.counted_outcome.Goals.{Start}

pub returns-then-outside-gt0 : goal.returns-then-outside-gt0
returns-then-outside-gt0 c = rw ((ltb_iff 0 c.args.outside).1 c.if-outside-gt0.true)

pub returns-else-outside-gt0 : goal.returns-else-outside-gt0
returns-else-outside-gt0 c =
    let s = (goal.at.returns-else-outside-gt0 c).Start in
    rw ((false-iff (ltb_iff 0 s.args.outside)).1 (λ h. omega (arith, c.if-outside-gt0.false))) c.outcome.ensures
