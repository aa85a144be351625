-- `row_maps::last_word` meets its contract. The loop's invariant: the bits before k are packed.
-- Assumes nothing.
use mathlib.Core.Path.{◌≡◌, refl}
use mathlib.Core.List.{List}
use Prim.Native.Nat.{ℕ, ◌+◌, ◌*◌, ◌%◌, ◌^◌, ◌≤◌, ◌<◌}
use native.Mathlib.Omega.{arith}
use lib.IntN.{ℤ}
use Rattle.row_maps.specs.Making.{packed, word_of}
use Rattle.row_maps.proofs.Packed.{packed-grown}
use Rattle.row_maps.proofs.Shows.{labelled-le}
use Rattle.row_maps.proofs.last_word.Invariants.{bits}
use Rattle.row_maps.proofs.last_word.Goals as goal
use Rattle.row_maps.proofs.last_word.Goals.{After-bit_at, At-loop-k}

bits-le : (cells : List ℤ) (i k : ℕ) → bits cells i k ≤ 1
bits-le cells i k = labelled-le cells (64 * i + k)

pub loop-k-init : goal.loop-k-init
unfolding packed
loop-k-init c = refl

-- one bit more
grown : (c : After-bit_at) → let a = (goal.at.After-bit_at c).At-loop-k in let f = bits a.args.cells.now a.args.i in
    (a.loop-k.word + (c.bit_at.result * 2 ^ a.loop-k.k) % 2 ^ 64 ≡ packed f (a.loop-k.k + 1)) × (packed f (a.loop-k.k + 1) < 2 ^ 64)
grown c =
    let a = (goal.at.After-bit_at c).At-loop-k in
    let l = a.args.cells.now in
    packed-grown (bits l a.args.i) (bits-le l a.args.i) 64 a.loop-k.k a.loop-k.word c.bit_at.result c.loop-k-test.true a.loop-k.invariant c.bit_at.ensures

pub overflow_add-word : goal.overflow_add-word
overflow_add-word c = let g = grown c in record { fits = omega (arith, g.0, g.1) }

pub loop-k-preserved : goal.loop-k-preserved
loop-k-preserved c = (grown c).0

pub returns : goal.returns
unfolding word_of
returns c = let e : c.loop-k.k ≡ 64 = omega arith in rw e at c.loop-k.invariant
