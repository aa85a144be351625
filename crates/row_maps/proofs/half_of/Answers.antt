-- `row_maps::half_of` meets its contract. The loop's invariant: the bits before k are packed.
-- Assumes nothing.
use mathlib.Core.Path.{◌≡◌, refl}
use mathlib.Core.List.{List}
use Prim.Native.Nat.{ℕ, ◌+◌, ◌*◌, ◌%◌, ◌^◌, ◌≤◌, ◌<◌}
use native.Mathlib.Omega.{arith}
use lib.IntN.{ℤ}
use Rattle.row_maps.specs.Making.{packed}
use Rattle.row_maps.proofs.Packed.{packed-grown}
use Rattle.row_maps.proofs.Shows.{labelled-le}
use Rattle.row_maps.proofs.half_of.Invariants.{bits}
use Rattle.row_maps.proofs.half_of.Goals as goal
use Rattle.row_maps.proofs.half_of.Goals.{After-label_bit, At-loop-k}

bits-le : (cells : List ℤ) (c k : ℕ) → bits cells c k ≤ 1
bits-le cells c k = labelled-le cells (c + k)

pub loop-k-init : goal.loop-k-init
unfolding packed
loop-k-init c = refl

-- one bit more
grown : (c : After-label_bit) → let a = (goal.at.After-label_bit c).At-loop-k in let f = bits a.args.cells.now a.args.c in
    (a.loop-k.half + (c.label_bit.result * 2 ^ a.loop-k.k) % 2 ^ 32 ≡ packed f (a.loop-k.k + 1)) × (packed f (a.loop-k.k + 1) < 2 ^ 32)
grown c =
    let a = (goal.at.After-label_bit c).At-loop-k in
    let l = a.args.cells.now in
    packed-grown (bits l a.args.c) (bits-le l a.args.c) 32 a.loop-k.k a.loop-k.half c.label_bit.result c.loop-k-test.true a.loop-k.invariant c.label_bit.ensures

pub overflow_add-half : goal.overflow_add-half
overflow_add-half c = let g = grown c in record { fits = omega (arith, g.0, g.1) }

pub loop-k-preserved : goal.loop-k-preserved
loop-k-preserved c = (grown c).0
