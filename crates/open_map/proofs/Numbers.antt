-- Bounds of the numbers on the way, and numbers that the machine reads back from their bits.
-- Assumes nothing.
use mathlib.Core.Path.{◌≡◌, ◌∙◌, ap}
use Prim.Native.Nat.{ℕ, ◌+◌, ◌^◌, ◌≤◌, ◌<◌}
use native.Mathlib.Omega.{arith}
use lib.Dec.{T}
use lib.IntN.{ℤ, pos, nat_abs, ◌+ℤ◌, ◌*ℤ◌}
use lib.Signed.{◌≤ℤ◌, non_neg}
use mir.Facts.{to_z-of_z}
use mir.Syntax.{w64}
use mir.Val.{SFits, Fits, of_z, to_z}
use Rattle.integers.specs.Parts.{up}
use Rattle.integers.specs.Floor.{floor_div, floor_mod}
use Rattle.integers.proofs.Linear.{ints, ◌∴◌}
use Rattle.integers.proofs.Order.{pos-up}
use Rattle.integers.proofs.Floor.{floor-eq, floor-lt}
use Rattle.calendar.specs.Limits.{pool_limit}
use Rattle.cursors.specs.Found.{Within}
use Rattle.cursors.proofs.Cells.{cast-nat}
use Rattle.cursors.proofs.Numbers.{rise-bound}
use Rattle.open_map.specs.declared.turns.Turned.{Turned}
use Rattle.open_map.specs.Turns.{turned_at}

-- a quotient is no farther from 0, but for the divisor
pub quotient-within : (P B : ℕ) → 0 < P → (t : ℤ) → Within B t → Within (B + P) (floor_div t P)
quotient-within P B above t h = rise-bound P 1 B above above t h.0 h.1 ∴ simp ints (omega arith)

-- a number that is not below 0, cast to an unsigned one
pub cast-up : (z : ℤ) → SFits w64 z → pos 0 ≤ℤ z → T (non_neg (to_z w64 (of_z w64 z))) × Fits w64 (nat_abs (to_z w64 (of_z w64 z))) × (nat_abs (to_z w64 (of_z w64 z)) ≡ up z)
cast-up z f h =
    let n = cast-nat h in
    let e : nat_abs (to_z w64 (of_z w64 z)) ≡ up z = ap nat_abs (to_z-of_z f) ∙ n.1 in
    let b : up z < 2 ^ 64 = omega (arith, simp ints at f, simp ints at (pos-up h)) in
    (rw (to_z-of_z f) n.0, record { fits = omega arith }, e)

-- an instant, its turn and its cell
pub record Placed (P : ℕ) (t : ℤ) (r : Turned) : Type 0 where
  pub turn_is : r.turn ≡ floor_div t P
  pub cell-is : r.cell ≡ floor_mod t P
  pub is : t ≡ pos P *ℤ r.turn +ℤ pos r.cell
  pub below : r.cell < P
  pub near : Within (2 ^ 33) r.turn
  pub turn-fits : SFits w64 r.turn

pub placed : (P : ℕ) → 1 ≤ P → P ≤ pool_limit → (t : ℤ) → Within (2 ^ 32) t → (r : Turned) → r ≡ turned_at P t → Placed P t r
unfolding turned_at
placed P low high t h r e =
    let turn_is : r.turn ≡ floor_div t P = ap (λ (d : Turned). d.turn) e in
    let cell-is : r.cell ≡ floor_mod t P = ap (λ (d : Turned). d.cell) e in
    let near : Within (2 ^ 33) r.turn = turn_is ∴ high ∴ quotient-within P (2 ^ 32) low t h ∴ simp ints (omega arith) in
    record {
      turn_is = turn_is;
      cell-is = cell-is;
      is = floor-eq P low t ∴ ap (λ (z : ℤ). pos P *ℤ z) turn_is ∴ cell-is ∴ simp ints (omega arith);
      below = omega (arith, floor-lt P low t);
      near = near;
      turn-fits = near ∴ simp ints (omega arith);
    }

pub turned-eq : (q q' : ℤ) (i i' : ℕ) → q ≡ q' → i ≡ i' → ◌≡◌ {A = Turned} (record { turn = q; cell = i }) (record { turn = q'; cell = i' })
turned-eq q q' i i' e f = λ k. record { turn = e k; cell = f k }
