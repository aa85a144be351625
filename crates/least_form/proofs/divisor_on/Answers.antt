-- `least_form::divisor_on` meets its contract. The loop keeps that no divisor was passed.
-- Assumes nothing.
use native.Mathlib.Omega.{arith}
use Rattle.least_form.proofs.Divisors.{passed_start, passed-more}
use Rattle.least_form.proofs.divisor_on.Goals as goal
use Rattle.least_form.proofs.divisor_on.Goals.{Start}

pub loop-d-init : goal.loop-d-init
loop-d-init c = passed_start c.args.g c.args.start c.requires.1

pub returns-then-g-d-eq0 : goal.returns-then-g-d-eq0
returns-then-g-d-eq0 c = c.loop-d.invariant

-- the next number, after one that leaves a remainder
pub loop-d-preserved : goal.loop-d-preserved
loop-d-preserved c =
    let s = (goal.at.loop-d-preserved c).Start in
    passed-more s.args.g s.args.start c.loop-d.d s.requires.1 c.loop-d.invariant c.if-g-d-eq0.false

pub overflow_add-d : goal.overflow_add-d
overflow_add-d c = omega (arith, (loop-d-preserved c).within)

pub loop-d-smaller : goal.loop-d-smaller
loop-d-smaller c = omega (arith, (loop-d-preserved c).within)

pub returns : goal.returns
returns c = c.loop-d.invariant
