-- What a scan of sound rows has at its instant: it is near, and its label is small.
-- Assumes nothing.
use mathlib.Core.Path.{◌≡◌}
use mathlib.Core.Option.{some}
use mathlib.Core.List.{List}
use Prim.Native.Nat.{◌^◌}
use native.Mathlib.Omega.{arith}
use lib.IntN.{ℤ, pos, ◌+ℤ◌}
use lib.Signed.{◌≤ℤ◌, ◌<ℤ◌}
use Rattle.integers.proofs.Linear.{ints, ◌∴◌}
use Rattle.calendar.specs.Meaning.{meant}
use Rattle.calendar.specs.Limits.{pool_limit}
use Rattle.calendar.specs.Questions.{given}
use Rattle.cursors.specs.Found.{Sound, Within, Near}
use Rattle.cursors.proofs.Bounds.{label-bound}

-- an instant of a working row, or next to it
pub is-near : (t : ℤ) → pos 0 ≤ℤ t → t ≤ℤ pos pool_limit → Near t
is-near = simp ints (omega arith)

-- the next instant
pub next_low : (t : ℤ) → pos 0 ≤ℤ t → pos 0 ≤ℤ (t +ℤ pos 1)
next_low = simp ints (omega arith)

pub next-high : (t : ℤ) → t <ℤ pos pool_limit → (t +ℤ pos 1) ≤ℤ pos pool_limit
next-high = simp ints (omega arith)

-- the label of such an instant
pub label_small : (period distance : ℤ) (cells : List ℤ) → Sound period distance cells → (t j : ℤ) → pos 0 ≤ℤ t → t ≤ℤ pos pool_limit
    → meant (given period distance cells) t ≡ some j → Within (2 ^ 40) j
label_small period distance cells s t j lo hi e =
    let b = label-bound period distance cells s pool_limit t j (lo ∴ simp ints (omega arith)) hi e in
    b ∴ simp ints (omega arith)
