-- `open_map::turns::composed` meets its contract: the product stays within 2 ^ 62.
-- Assumes nothing.
use Prim.Native.Nat.{◌^◌, ◌<◌}
use native.Mathlib.Omega.{arith}
use lib.IntN.{pos, ◌+ℤ◌, ◌*ℤ◌}
use mir.Syntax.{w64}
use mir.Val.{SFits}
use Rattle.integers.proofs.Linear.{ints, ◌∴◌}
use Rattle.integers.proofs.Machine.{plain}
use Rattle.cursors.specs.Found.{Within}
use Rattle.cursors.proofs.Numbers.{product-within}
use Rattle.open_map.proofs.turns.composed.Goals as goal
use Rattle.open_map.proofs.turns.composed.Goals.{Start}

product : (c : Start) → Within (2 ^ 62) (c.args.size *ℤ c.args.turn)
product c = product-within (2 ^ 22) (2 ^ 40) c.args.size c.args.turn (c.requires.turning ∴ simp ints (omega arith)) c.requires.within.0

product-fits : (c : Start) → SFits w64 (c.args.size *ℤ c.args.turn)
product-fits c = product c ∴ simp ints (omega arith)

sum_fits : (c : Start) → SFits w64 (c.args.size *ℤ c.args.turn +ℤ pos c.args.rest)
sum_fits c = product c ∴ c.requires.within.1 ∴ simp ints (omega arith)

pub overflow_mul-result : goal.overflow_mul-result
overflow_mul-result c =
    let s = c.ranges.size in
    let t = c.ranges.turn in
    simp plain (product-fits c)

pub overflow_add-result : goal.overflow_add-result
overflow_add-result c =
    let s = c.ranges.size in
    let t = c.ranges.turn in
    let p = product-fits c in
    let r : c.args.rest < 2 ^ 63 = omega (arith, c.requires.within.1) in
    simp plain (sum_fits c)

pub returns : goal.returns
returns c =
    let s = c.ranges.size in
    let t = c.ranges.turn in
    let p = product-fits c in
    let q = sum_fits c in
    let r : c.args.rest < 2 ^ 63 = omega (arith, c.requires.within.1) in
    simp plain
