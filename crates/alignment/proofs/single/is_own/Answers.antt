-- `alignment::single::is_own` meets its contract.
-- Assumes nothing.
use borrow.Author.Tests.{not-false}
use mathlib.Core.Path.{sym, ◌∙◌}
use native.Mathlib.Omega.{arith}
use mir.Syntax.{w32}
use mir.Val.{SFits}
use Rattle.integers.proofs.Linear.{ints, ◌∴◌}
use Rattle.integers.proofs.Machine.{plain}
use Rattle.granules.proofs.Tests.{eqb-iff}
use Rattle.cursors.specs.Found.{Within}
use Rattle.cursors.proofs.Numbers.{numbers}
use Rattle.cursors.proofs.Bounds.{in-range}
use Rattle.alignment.proofs.single.is_own.Goals as goal
use Rattle.alignment.proofs.single.is_own.Goals.{Else-not-in_range, Start}

-- the number is within the limits
within : (c : Else-not-in_range) → Within 1000000000 c.args.first
within c =
    let s = (goal.at.Else-not-in_range c).Start in
    let f = s.ranges.first in
    let e = simp plain at c.in_range.ensures in
    (in-range s.args.first).0 (sym e ∙ not-false _ c.if-not-in_range.false-raw)

small : (c : Else-not-in_range) → SFits w32 c.args.first
small c = within c ∴ simp ints (omega arith)

pub overflow_cast-first : goal.overflow_cast-first
overflow_cast-first c =
    let f = c.ranges.first in
    simp plain (small c)

pub others-requires : goal.others-requires
others-requires c =
    let s = (goal.at.others-requires c).Start in
    let f = s.ranges.first in
    let g = small c in
    let n = numbers s.args.period s.args.distance s.args.cells.now s.requires in
    record { within = simp plain (within c); cells_len_bound = omega (arith, n.whole, n.high) }

pub returns-clause-along : goal.returns-clause-along
returns-clause-along c =
    let e = (goal.at.returns-clause-along c).Else-not-in_range in
    let s = (goal.at.Else-not-in_range e).Start in
    let f = s.ranges.first in
    let g = small e in
    let h = simp plain at c.others.ensures.none in
    let i = eqb-iff c.others.result 0 in
    λ z. h (i.0 z)
