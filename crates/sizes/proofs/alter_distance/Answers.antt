-- `sizes::alter_distance` meets its contract: the product is below 2^64.
use mathlib.Core.Path.{◌≡◌, ◌∙◌, ap}
use Prim.Native.Nat.{ℕ, ◌*◌, ◌/◌}
use native.Mathlib.Omega.{arith}
use Rattle.integers.specs.Parts.{up}
use Rattle.integers.specs.Gcd.{gcd}
use Rattle.integers.proofs.Divisors.{gcd-pos}
use Rattle.sizes.specs.Altered.{alter_distance}
use Rattle.sizes.proofs.Altered.{Natural, natural, distance-fits}
use Rattle.sizes.proofs.alter_distance.Goals as goal
use Rattle.sizes.proofs.alter_distance.Goals.{After-gcd, Start}

fine-natural : (c : Start) → Natural c.args.fine
fine-natural c = natural c.ranges.fine c.requires.pos_bound

pub overflow_cast-fine : goal.overflow_cast-fine
overflow_cast-fine c = (fine-natural c).cast

divisor : (c : After-gcd) → c.gcd.result ≡ gcd (up c.args.fine) c.args.a.distance
divisor c = c.gcd.ensures ∙ ap (λ (d : ℕ). gcd d c.args.a.distance) (fine-natural (goal.at.After-gcd c).Start).is

pub nonzero_div-result : goal.nonzero_div-result
nonzero_div-result c =
    let s = (goal.at.nonzero_div-result c).Start in
    omega (arith, divisor (goal.at.nonzero_div-result c).After-gcd, gcd-pos (up s.args.fine) s.args.a.distance (fine-natural s).positive)

pub overflow_mul-result : goal.overflow_mul-result
overflow_mul-result c =
    let s = (goal.at.overflow_mul-result c).Start in
    let p = s.requires.stored in
    distance-fits s.args.a.distance c.gcd.result s.args.coarse (omega arith) s.requires.coarse_le_most_coarse

pub returns : goal.returns
unfolding alter_distance
returns c =
    let s = c.args in
    ap (λ (g : ℕ). s.a.distance / g * s.coarse) (divisor (goal.at.returns c).After-gcd)
