-- `least_form::divisor_back` meets its contract. The loop keeps that no divisor is above d; 1 is the last.
-- Assumes nothing.
use Rattle.least_form.proofs.Divisors.{Above}
use Rattle.least_form.proofs.divisor_back.Given as goal

abbrev pub invariant-loop-d : goal.invariant-loop-d
invariant-loop-d l = Above l.g l.m l.d

abbrev pub decreases-loop-d : goal.decreases-loop-d
decreases-loop-d l = l.d
