-- Numbers that are cast to u64, and the lateness among them.
use mathlib.Core.Path.{◌≡◌, sym, subst}
use mathlib.Core.Logic.Iff
use mathlib.Core.Logic.{◌↔◌}
use mathlib.Core.Bool.{true}
use Prim.Native.Nat.{ℕ, ◌≤◌, ◌<◌, ◌^◌}
use native.Mathlib.Omega.{arith}
use lib.Dec.{T}
use lib.IntN.{ℤ, pos, nat_abs}
use lib.Signed.{◌≤ℤ◌, non_neg}
use mir.Syntax.{w64}
use mir.Val.{Fits}
use Rattle.integers.specs.Parts.{up}
use Rattle.integers.proofs.Linear.{ints}
use Rattle.integers.proofs.Order.{pos-up}
use Rattle.calendar.specs.Limits.{between, late_limit}
use Rattle.granules.proofs.Tests.{and-iff, le_z-iff}

-- a natural number as the machine casts it
pub cast : {x : ℤ} (n : ℕ) → x ≡ pos n → n < 2 ^ 64 → T (non_neg x) × Fits w64 (nat_abs x)
cast n e h = subst (λ (x : ℤ). T (non_neg x) × Fits w64 (nat_abs x)) (sym e) (tt, omega arith)

-- a lateness is a natural number, at most 1,048,576
between-iff : (d : ℤ) → (between (pos 0) (pos late_limit) d ≡ true) ↔ ((pos 0 ≤ℤ d) × (d ≤ℤ pos late_limit))
between-iff d = simp (and-iff, le_z-iff) Iff.rfl

pub lateness : (d : ℤ) → between (pos 0) (pos late_limit) d ≡ true → (d ≡ pos (up d)) × (up d ≤ late_limit)
lateness d h =
    let b = (between-iff d).0 h in
    let e = pos-up {z = d} b.0 in
    (sym e, omega (arith, simp ints at b.1, simp ints at e))
