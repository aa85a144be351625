-- Counts as answers: those of what a lent list holds fit a signed number of 64 bits.
-- Assumes nothing.
use mathlib.Core.Path.{◌≡◌}
use Prim.Native.Nat.{ℕ, ◌^◌, ◌<◌}
use native.Mathlib.Omega.{arith}
use lib.IntN.{pos}
use mir.Syntax.{w64}
use mir.Val.{SFits, to_z}
use Rattle.integers.proofs.Linear.{ints}
use Rattle.integers.proofs.Machine.{plain}

-- a count below half of the numbers of 64 bits fits, and is read back
pub count_fits : (n : ℕ) → n < 2 ^ 63 → SFits w64 (pos n)
count_fits n h = simp ints (omega arith)

pub count-back : (n : ℕ) → n < 2 ^ 63 → to_z w64 n ≡ pos n
count-back n h = simp plain
