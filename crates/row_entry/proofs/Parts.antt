-- An operand, as the machine takes it apart.
-- Assumes nothing.
use mathlib.Core.Path.{◌≡◌, ◌∙◌, ap, ap₂}
use mathlib.Core.List.{List}
use Prim.Native.Nat.{ℕ, ◌+◌, ◌-◌}
use native.Mathlib.Omega.{arith}
use lib.IntN.{ℤ, pos, nat_abs}
use lib.Signed.{◌≤ℤ◌}
use lib.ListN.{take, drop}
use mir.Syntax.{w64}
use mir.Val.{SFits, of_z, to_z}
use mir.ValLaws.{to_z-of_z}
use Rattle.integers.specs.Parts.{up}
use Rattle.calendar.specs.Meaning.{Row}
use Rattle.calendar.specs.Questions.{given}
use Rattle.kinds.specs.declared.Operand.{Operand}
use Rattle.kinds.specs.Stands.{end, row_in}
use Rattle.entries.proofs.Naturals.{nat_abs-up}

-- its numbers fit their width
pub record OperandFits (a : Operand) : Type 0 where
  pub period : SFits w64 a.period
  pub distance : SFits w64 a.distance

-- its end, as the machine sums it up
pub end_read : (a : Operand) → OperandFits a → pos 0 ≤ℤ a.period → a.start + nat_abs (to_z w64 (of_z w64 a.period)) ≡ end a
end_read a f h = ap (λ (n : ℕ). a.start + n) (ap nat_abs (to_z-of_z w64 a.period f.period) ∙ nat_abs-up h)

-- its row, handed over in parts
abbrev pub handed : List ℤ → Operand → ℕ → Row
handed pool a e = given (to_z w64 (of_z w64 a.period)) (to_z w64 (of_z w64 a.distance)) (take (e - a.start) (drop a.start pool))

pub handed-is : (pool : List ℤ) (a : Operand) (e : ℕ) → OperandFits a → e ≡ end a → handed pool a e ≡ row_in pool a
handed-is pool a e f h =
    let n : e - a.start ≡ up a.period = omega arith in
    ap₂ (λ (p d : ℤ). given p d (take (e - a.start) (drop a.start pool))) (to_z-of_z w64 a.period f.period) (to_z-of_z w64 a.distance f.distance)
    ∙ ap (λ (n : ℕ). given a.period a.distance (take n (drop a.start pool))) n
