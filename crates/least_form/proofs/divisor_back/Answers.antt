-- `least_form::divisor_back` meets its contract. The loop keeps that no divisor is above d; 1 is the last.
-- Assumes nothing.
use native.Mathlib.Omega.{arith}
use Rattle.least_form.proofs.Divisors.{above-start, above-pos, above-less, above-greatest}
use Rattle.least_form.proofs.divisor_back.Goals as goal
use Rattle.least_form.proofs.divisor_back.Goals.{At-loop-d}

pub loop-d-init : goal.loop-d-init
loop-d-init c = above-start c.args.g c.args.m

pub nonzero_rem-g : goal.nonzero_rem-g
nonzero_rem-g c = above-pos c.args.g c.args.m c.loop-d.d c.requires c.loop-d.invariant

pub overflow_sub-d : goal.overflow_sub-d
overflow_sub-d c = nonzero_rem-g (goal.at.overflow_sub-d c).At-loop-d

pub loop-d-smaller : goal.loop-d-smaller
loop-d-smaller c = omega (arith, nonzero_rem-g (goal.at.loop-d-smaller c).At-loop-d)

pub loop-d-preserved : goal.loop-d-preserved
loop-d-preserved c =
    let s = c.args in
    above-less s.g s.m c.loop-d.d c.loop-d.invariant c.loop-d-test.true

pub returns : goal.returns
returns c =
    let s = c.args in
    above-greatest s.g s.m c.loop-d.d c.loop-d.invariant c.loop-d-test.false
