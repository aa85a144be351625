-- `sizes::altering_of` meets its contract: its quotients are those of lcm(A, x) by A and by x, and no product wraps.
use native.Mathlib.Omega.{arith}
use Rattle.integers.proofs.Linear.{ints, ◌∴◌}
use Rattle.integers.proofs.Machine.{plain}
use Rattle.sizes.proofs.Multiples.{Computed, computed, fine-fits}
use Rattle.sizes.proofs.altering_of.Goals as goal
use Rattle.sizes.proofs.altering_of.Goals.{After-gcd-g}

-- what the two rises and their common divisor give
known : (c : After-gcd-g)
    → Computed
    c.args.a
    c.args.b
    c.args.x
    c.args.z
    c.rise-coarse_rise.result
    c.rise-fine_rise.result
    c.gcd-g.result
known c = computed c.requires _ _ c.rise-coarse_rise.ensures c.rise-fine_rise.ensures _ c.gcd-g.ensures

pub nonzero_div-spans : goal.nonzero_div-spans
nonzero_div-spans c = (known c).divisor

pub nonzero_div-changes : goal.nonzero_div-changes
nonzero_div-changes c = (known c).divisor

pub overflow_mul-result : goal.overflow_mul-result
overflow_mul-result c = omega (arith, (known c).coarse-at-most)

pub overflow_mul-result-2 : goal.overflow_mul-result-2
overflow_mul-result-2 c = omega (arith, (known c).spans-at-most)

pub overflow_cast-result : goal.overflow_cast-result
overflow_cast-result c = (known c).spans-at-most ∴ simp ints (omega arith)

pub overflow_cast-result-2 : goal.overflow_cast-result-2
overflow_cast-result-2 c = (known c).changes-at-most ∴ simp ints (omega arith)

pub overflow_mul-result-3 : goal.overflow_mul-result-3
overflow_mul-result-3 c =
    let z = c.ranges.z in
    let h = (overflow_cast-result-2 c).sfits in
    simp plain (known c).changed-fits

pub overflow_add-result : goal.overflow_add-result
overflow_add-result c =
    let z = c.ranges.z in
    let h = (overflow_cast-result-2 c).sfits in
    let k = (overflow_cast-result c).sfits in
    let p = (known c).changed-fits in
    simp plain (fine-fits (known c))

pub returns : goal.returns
returns c =
    let z = c.ranges.z in
    let h = (overflow_cast-result-2 c).sfits in
    let k = (overflow_cast-result c).sfits in
    let p = (known c).changed-fits in
    let q = fine-fits (known c) in
    record {
      coarse = (known c).coarse;
      fine = simp plain (known c).fine;
      bound = (known c).coarse-at-most;
    }
