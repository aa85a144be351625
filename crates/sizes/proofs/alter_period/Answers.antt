-- `sizes::alter_period` meets its contract: with m = D/gcd(D, Na), r·D is Na·m.
use mathlib.Core.Path.{◌≡◌, sym, ◌∙◌, ap, ap₂}
use Prim.Native.Nat.{ℕ, ◌*◌, ◌/◌}
use native.Mathlib.Omega.{arith}
use Rattle.integers.specs.Parts.{up}
use Rattle.integers.specs.Gcd.{gcd}
use Rattle.integers.specs.Capped.{capped_at}
use Rattle.integers.proofs.Divisors.{gcd-pos}
use Rattle.sizes.specs.Stored.{turn_of}
use Rattle.sizes.proofs.Altered.{Natural, natural, alter-period-is}
use Rattle.sizes.proofs.alter_period.Goals as goal
use Rattle.sizes.proofs.alter_period.Goals.{After-gcd, Start}

fine-natural : (c : Start) → Natural c.args.fine
fine-natural c = natural c.ranges.fine c.requires.pos_bound

pub overflow_cast-d : goal.overflow_cast-d
overflow_cast-d c = (fine-natural c).cast

divisor : (c : After-gcd) → c.gcd.result ≡ gcd (up c.args.fine) c.args.a.distance
divisor c = c.gcd.ensures ∙ ap (λ (d : ℕ). gcd d c.args.a.distance) (fine-natural (goal.at.After-gcd c).Start).is

pub nonzero_div-d : goal.nonzero_div-d
nonzero_div-d c =
    let s = (goal.at.nonzero_div-d c).Start in
    omega (arith, divisor c, gcd-pos (up s.args.fine) s.args.a.distance (fine-natural s).positive)

pub returns : goal.returns
returns c =
    let s = (goal.at.returns c).Start in
    let a = s.args.a in
    c.capped_mul.ensures
    ∙ ap (capped_at s.args.room)
    (ap₂ (λ (d g : ℕ). a.period * (d / g)) (fine-natural s).is (divisor (goal.at.returns c).After-gcd)
    ∙ sym (alter-period-is (turn_of a) s.args.fine (fine-natural s).positive s.requires.stored.positive))
