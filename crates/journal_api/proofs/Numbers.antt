-- A number of bytes as an answer: below half of the numbers of 64 bits it fits, and is read back.
use mathlib.Core.Path.{◌≡◌}
use Prim.Native.Nat.{ℕ, ◌^◌, ◌<◌}
use native.Mathlib.Omega.{arith}
use lib.IntN.{pos}
use mir.Syntax.{w64}
use mir.Val.{SFits, to_z}
use Rattle.integers.proofs.Linear.{ints}
use Rattle.integers.proofs.Machine.{plain}

pub number_fits : (n : ℕ) → n < 2 ^ 63 → SFits w64 (pos n)
number_fits n h = simp ints (omega arith)

pub number-back : (n : ℕ) → n < 2 ^ 63 → to_z w64 n ≡ pos n
number-back n h = simp plain
