-- `sizes::group_period` meets its contract: the greatest common divisor divides x, so the division may be made before the product.
use mathlib.Core.Path.{sym, ◌∙◌, ap}
use Prim.Native.Nat.{ℕ, ◌*◌, ◌/◌}
use native.Mathlib.Omega.{arith}
use Rattle.integers.specs.Capped.{capped_at}
use Rattle.integers.proofs.Divisors.{gcd-pos}
use Rattle.sizes.specs.Stored.{turn_of}
use Rattle.sizes.proofs.Whole.{group-period-is}
use Rattle.sizes.proofs.group_period.Goals as goal
use Rattle.sizes.proofs.group_period.Goals.{Start}

pub nonzero_div-x : goal.nonzero_div-x
nonzero_div-x c =
    let s = (goal.at.nonzero_div-x c).Start in
    omega (arith, gcd-pos s.args.x s.args.a.distance s.requires)

pub returns : goal.returns
returns c =
    let s = c.args in
    c.capped_mul.ensures
    ∙ ap (capped_at s.room) (ap (λ (g : ℕ). s.a.period * (s.x / g)) c.gcd.ensures ∙ sym (group-period-is (turn_of s.a) s.x))
