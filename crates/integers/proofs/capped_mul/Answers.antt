-- `integers::capped_mul` meets its contract: the division tells whether the product is at most the cap.
-- Assumes nothing.
use mathlib.Core.Path.{sym}
use native.Mathlib.Nat.{zero-mul, le-div_iff_mul-le, div-lt_iff_lt-mul}
use native.Mathlib.Omega.{arith}
use Rattle.integers.proofs.Cap.{capped-within, capped-too-long}
use Rattle.integers.proofs.capped_mul.Goals as goal

pub returns-then-a-eq0 : goal.returns-then-a-eq0
returns-then-a-eq0 c = rw (c.if-a-eq0.true, zero-mul) (sym (capped-within (omega arith)))

pub nonzero_div-cap : goal.nonzero_div-cap
nonzero_div-cap c = omega arith

pub overflow_mul-result : goal.overflow_mul-result
overflow_mul-result c = omega (arith, (le-div_iff_mul-le (nonzero_div-cap c.before)).0 c.if-b-cap.true)

pub returns-then-b-cap : goal.returns-then-b-cap
returns-then-b-cap c = sym (capped-within (omega (arith, (le-div_iff_mul-le (nonzero_div-cap c.before)).0 c.if-b-cap.true)))

pub returns-else-b-cap : goal.returns-else-b-cap
returns-else-b-cap c = sym (capped-too-long (omega (arith, (div-lt_iff_lt-mul (nonzero_div-cap c.before)).0 c.if-b-cap.false)))
