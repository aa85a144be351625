-- `open_steps::cells::place_of` meets its contract. The loop's invariant: at `start` at most k set bits are passed,
-- at `start + size` more than k.
-- Assumes nothing.
use mathlib.Core.Path.{◌≡◌, ap}
use Prim.Native.Nat.{◌+◌, ◌-◌, ◌/◌}
use native.Mathlib.Omega.{arith}
use Rattle.words.specs.Bits.{bit, tally}
use Rattle.words.proofs.Tally.{tally-one}
use Rattle.words.proofs.Ones.{bit_le}
use Rattle.open_steps.proofs.cells.place_of.Goals as goal

pub loop-size-init : goal.loop-size-init
unfolding tally
loop-size-init c = record { some = omega arith; within = omega arith; passed = omega arith; ahead = c.requires }

pub loop-size-preserved-then-ones_below-k : goal.loop-size-preserved-then-ones_below-k
loop-size-preserved-then-ones_below-k c =
    let k = c.loop-size in
    let w = c.args.w in
    let e : k.start + k.size / 2 + (k.size - k.size / 2) ≡ k.start + k.size = omega arith in
    record {
      some = omega arith;
      within = omega arith;
      passed = omega arith;
      ahead = omega (arith, ap (tally (bit w)) e);
    }

pub loop-size-preserved : goal.loop-size-preserved
loop-size-preserved c = record { some = omega arith; within = omega arith; passed = omega arith; ahead = omega arith }

pub returns : goal.returns
returns c =
    let k = c.loop-size in
    let w = c.args.w in
    let e : k.start + k.size ≡ k.start + 1 = omega arith in
    let t = tally-one (bit w) k.start in
    let b = bit_le w k.start in
    (omega arith, record { set = omega (arith, ap (tally (bit w)) e); rank = omega (arith, ap (tally (bit w)) e) })
