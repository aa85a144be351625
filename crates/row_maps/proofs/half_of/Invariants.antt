-- `row_maps::half_of` meets its contract. The loop's invariant: the bits before k are packed.
-- Assumes nothing.
use mathlib.Core.Path.{◌≡◌}
use mathlib.Core.List.{List}
use Prim.Native.Nat.{ℕ, ◌+◌}
use lib.IntN.{ℤ}
use Rattle.row_maps.specs.Making.{labelled, packed}
use Rattle.row_maps.proofs.half_of.Given as goal

-- the bits of the 32 cells from c on
abbrev pub bits : List ℤ → ℕ → ℕ → ℕ
bits cells c = λ k. labelled cells (c + k)

abbrev pub invariant-loop-k : goal.invariant-loop-k
invariant-loop-k l = l.half ≡ packed (bits l.cells l.c) l.k
