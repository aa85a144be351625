-- `integers::capped_lcm` meets its contract: the product is that of `lcm`, which is 0 where the divisor is.
-- Assumes nothing.
use mathlib.Core.Path.{◌≡◌, sym}
use Prim.Native.Nat.{ℕ}
use native.Mathlib.Nat.{div-zero, zero-mul}
use native.Mathlib.Omega.{arith}
use Rattle.integers.specs.Gcd.{gcd, lcm}
use Rattle.integers.proofs.Cap.{capped-within}
use Rattle.integers.proofs.capped_lcm.Goals as goal

no-divisor : (a b : ℕ) → gcd a b ≡ 0 → lcm a b ≡ 0
unfolding lcm
no-divisor a b e = rw (e, div-zero, zero-mul)

pub returns-then-g-eq0 : goal.returns-then-g-eq0
returns-then-g-eq0 c =
    let s = c.before.before.args in
    let e : gcd s.a s.b ≡ 0 = cc in
    rw (no-divisor s.a s.b e) (sym (capped-within (omega arith)))

pub returns : goal.returns
unfolding lcm
returns c = cc
