-- The first cell that fails a test, as the library finds it.
-- Assumes nothing.
use mathlib.Core.Path.{◌≡◌, ap}
use mathlib.Core.Bool.{Bool, not}
use mathlib.Core.List.{List}
use Prim.Native.Nat.{◌≤◌}
use native.Mathlib.Omega.{arith}
use lib.IntN.{ℤ, pos}
use lib.ListN.{length}
use Rattle.std.specs.List.{position, position_or_len}
use Rattle.std.specs.Option.{unwrap_or}
use Rattle.std.proofs.lemmas.List.Sums.{position_or_len_is}
use Rattle.std.proofs.lemmas.Grind.{common_steps}
use Rattle.cursors.specs.Search.{run}
use Rattle.cursors.proofs.Search.{run-fails, run_length, run-passes}

pub found-run : (f : ℤ → Bool) (l : List ℤ) → unwrap_or (position (λ z. not (f z)) l) (length l) ≡ run f l
found-run f l =
    let e : position_or_len (λ z. not (f z)) l ≡ run f l = position_or_len_is _ l (run f l) (pos 0) (run_length f l) (λ k h. ap not (run-passes f l k (pos 0) h)) (λ h. ap not (run-fails f l (pos 0) h)) in
    let h : run f l ≤ length l = run_length f l in
    grind (arith, common_steps)
