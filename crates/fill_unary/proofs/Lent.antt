-- An operand of a pool, lent by its cells alone: its period is the number of its cells.
-- Assumes nothing.
use mathlib.Core.Path.{◌≡◌, refl, ◌∙◌, ap}
use Prim.Native.Nat.{ℕ, ◌-◌}
use native.Mathlib.Omega.{arith}
use lib.IntN.{ℤ, pos, negsuc}
use lib.Signed.{◌≤ℤ◌}
use mir.Syntax.{w64}
use mir.Val.{of_z, to_z}
use Rattle.integers.specs.Parts.{up}
use Rattle.kinds.specs.declared.Operand.{Operand}
use Rattle.kinds.specs.Stands.{end}
use Rattle.fill_shared.proofs.Filling.{Lent, lent_as, lent_of}

-- its period is the number of its cells
pub period-bits : (a : Operand) (e : ℕ) → pos 0 ≤ℤ a.period → e ≡ end a → of_z w64 a.period ≡ e - a.start
period-bits a e h x = bits a.period h ∙ omega (arith, x)
  where
    bits : (z : ℤ) → pos 0 ≤ℤ z → of_z w64 z ≡ up z
    bits (pos n) h = refl
    bits (negsuc n) h = absurd h.le

-- the row as it is lent by its cells alone
abbrev pub lent_from : ℕ → ℕ → ℤ → Lent
lent_from s e n = lent_as s e (to_z w64 (e - s)) n

pub lent-from : (a : Operand) (e : ℕ) → pos 0 ≤ℤ a.period → e ≡ end a → lent_of a e ≡ lent_from a.start e (to_z w64 (of_z w64 a.distance))
lent-from a e h x = ap (λ (p : ℕ). lent_as a.start e (to_z w64 p) (to_z w64 (of_z w64 a.distance))) (period-bits a e h x)
