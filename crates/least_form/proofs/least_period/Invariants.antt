-- `least_form::least_period` meets its contract. The loop keeps that the cells passed with no divisor above m, and how many
-- were tried.
-- Assumes nothing.
use mathlib.Core.List.{List}
use Prim.Native.Nat.{ℕ}
use lib.IntN.{ℤ}
use Rattle.calendar.specs.Meaning.{Row}
use Rattle.least_form.proofs.Search.{Searched}
use Rattle.least_form.proofs.least_period.Given as goal

abbrev pub row : ℕ → ℕ → List ℤ → Row
row P N cells = record { period = P; distance = N; cells = cells }

abbrev pub invariant-loop-m : goal.invariant-loop-m
invariant-loop-m l = Searched (row l.p l.n l.cells) l.m l.tried

abbrev pub decreases-loop-m : goal.decreases-loop-m
decreases-loop-m l = l.m
