-- `row_maps::last_word` meets its contract. The loop's invariant: the bits before k are packed.
-- Assumes nothing.
use mathlib.Core.Path.{◌≡◌}
use mathlib.Core.List.{List}
use Prim.Native.Nat.{ℕ, ◌+◌, ◌*◌}
use lib.IntN.{ℤ}
use Rattle.row_maps.specs.Making.{labelled, packed}
use Rattle.row_maps.proofs.last_word.Given as goal

-- the bits of the word i
abbrev pub bits : List ℤ → ℕ → ℕ → ℕ
bits cells i = λ k. labelled cells (64 * i + k)

abbrev pub invariant-loop-k : goal.invariant-loop-k
invariant-loop-k l = l.word ≡ packed (bits l.cells l.i) l.k
