-- `least_form::divisor_on` meets its contract. The loop keeps that no divisor was passed.
-- Assumes nothing.
use Prim.Native.Nat.{◌-◌}
use Rattle.least_form.specs.Divisors.{Passed}
use Rattle.least_form.proofs.divisor_on.Given as goal

abbrev pub invariant-loop-d : goal.invariant-loop-d
invariant-loop-d l = Passed l.g l.start l.d

abbrev pub decreases-loop-d : goal.decreases-loop-d
decreases-loop-d l = l.g - l.d
