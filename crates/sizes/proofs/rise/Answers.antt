-- `sizes::rise` meets its contract: the product is at most the span.
use native.Mathlib.Omega.{arith}
use Rattle.sizes.specs.Stored.{turn_of}
use Rattle.algebra.proofs.Span.{rise-at-most}
use Rattle.sizes.proofs.rise.Goals as goal
use Rattle.sizes.proofs.rise.Goals.{Start}

pub overflow_mul-result : goal.overflow_mul-result
overflow_mul-result c =
    let s = (goal.at.overflow_mul-result c).Start in
    omega (arith, rise-at-most (turn_of s.args.a) s.args.span s.requires.distance-at-most)
