-- How large the numbers are with which the walk starts.
-- Assumes nothing.
use mathlib.Core.Path.{◌≡◌, sym}
use Prim.Native.Nat.{ℕ, ◌+◌, ◌^◌, ◌≤◌}
use native.Mathlib.Omega.{arith}
use lib.IntN.{ℤ, pos, negsuc, neg_ℤ, ◌+ℤ◌, ◌-ℤ◌, ◌*ℤ◌}
use lib.Signed.{◌≤ℤ◌, ◌<ℤ◌}
use mir.Syntax.{w64}
use mir.Val.{SFits}
use Rattle.integers.specs.Parts.{up}
use Rattle.integers.specs.Floor.{floor_div}
use Rattle.integers.proofs.Linear.{ints, ◌∴◌}
use Rattle.integers.proofs.Order.{pos-up}
use Rattle.integers.proofs.Floor.{floor-eq, floor-lt}
use Rattle.calendar.specs.Algebra.{changes}
use Rattle.cursors.specs.Found.{Within}
use Rattle.cursors.proofs.Numbers.{rise-bound, product-within}
use Rattle.kinds.specs.declared.Alteration.{Alteration}
use Rattle.kinds.specs.Limits.{Limits}

-- x and y as natural numbers
pub record Small (by : Alteration) : Type 0 where
  pub x-is : by.x ≡ pos (up by.x)
  pub y-is : by.y ≡ pos (up by.y)
  pub x-low : 1 ≤ up by.x
  pub x-high : up by.x ≤ 1000000
  pub y-high : up by.y ≤ 1000000
  pub x_fits : SFits w64 by.x
  pub y-fits : SFits w64 by.y
  pub z-fits : SFits w64 by.z

pub small : (by : Alteration) → Limits by → Small by
small by l =
    let x : by.x ≡ pos (up by.x) = sym (pos-up (l.x-low ∴ simp ints (omega arith))) in
    let y : by.y ≡ pos (up by.y) = sym (pos-up (l.y-low ∴ simp ints (omega arith))) in
    record {
      x-is = x;
      y-is = y;
      x-low = x ∴ l.x-low ∴ simp ints (omega arith);
      x-high = x ∴ l.x-high ∴ simp ints (omega arith);
      y-high = y ∴ l.y-high ∴ l.x-high ∴ simp ints (omega arith);
      x_fits = l.x-low ∴ l.x-high ∴ simp ints (omega arith);
      y-fits = l.y-low ∴ l.y-high ∴ l.x-high ∴ simp ints (omega arith);
      z-fits = l.z-low ∴ l.z-high ∴ simp ints (omega arith);
    }

pub changes-within : (x y : ℕ) (i : ℤ) → 1 ≤ x → x ≤ 1000000 → y ≤ 1000000 → Within (2 ^ 32) i → Within (2 ^ 33) (changes x y (i -ℤ pos 1))
changes-within x y i above small few h =
    let t = i -ℤ pos 1 -ℤ pos y in
    let l : neg_ℤ (pos (2 ^ 32 + 1000001)) ≤ℤ t = h.0 ∴ few ∴ simp ints (omega arith) in
    let u : t ≤ℤ pos (2 ^ 32 + 1000001) = h.1 ∴ simp ints (omega arith) in
    rise-bound x 1 (2 ^ 32 + 1000001) above above t l u ∴ small ∴ simp ints (omega arith)

pub changed-within : (x y : ℕ) (z i : ℤ) → 1 ≤ x → x ≤ 1000000 → y ≤ 1000000 → Within 1000000 z → Within (2 ^ 32) i → Within (2 ^ 53) (changes x y (i -ℤ pos 1) *ℤ z)
changed-within x y z i above small few k h =
    product-within (2 ^ 33) 1000000 (changes x y (i -ℤ pos 1)) z (changes-within x y i above small few h) k ∴ simp ints (omega arith)

-- D goes k times into d; n·k and D·k are not farther from 0 than d by more than D, as n ≤ D
pub record Turned (n D d k : ℤ) : Type 0 where
  pub low : (k *ℤ D) ≤ℤ d
  pub high : d <ℤ (k *ℤ D +ℤ D)
  pub turns-bound : Within (2 ^ 54 + 2 ^ 44) k
  pub coarse-bound : Within (2 ^ 54 + 2 ^ 44) (k *ℤ n)
  pub fine-bound : Within (2 ^ 54 + 2 ^ 44) (k *ℤ D)

turned-of : (n D : ℕ) (d : ℤ) → 1 ≤ n → n ≤ D → D ≤ 2 ^ 43 → Within (2 ^ 54) d → Turned (pos n) (pos D) d (floor_div d D)
turned-of n D d low middle high h =
    let above : 1 ≤ D = omega arith in
    let e = floor-eq D above d in
    let m = floor-lt D above d in
    let o = rise-bound D 1 (2 ^ 54) above above d h.0 h.1 in
    let c = rise-bound D n (2 ^ 54) above middle d h.0 h.1 in
    let f = rise-bound D D (2 ^ 54) above (omega arith) d h.0 h.1 in
    record {
      low = e ∴ simp ints (omega arith);
      high = e ∴ m ∴ simp ints (omega arith);
      turns-bound = o ∴ high ∴ simp ints (omega arith);
      coarse-bound = c ∴ high ∴ simp ints (omega arith);
      fine-bound = f ∴ high ∴ simp ints (omega arith);
    }

pub turned : (n D d : ℤ) → pos 1 ≤ℤ n → n ≤ℤ D → D ≤ℤ pos (2 ^ 43) → Within (2 ^ 54) d → Turned n D d (floor_div d (up D))
turned (pos n) (pos D) d low middle high h = turned-of n D d (low ∴ simp ints (omega arith)) (middle ∴ simp ints (omega arith)) (high ∴ simp ints (omega arith)) h
turned (negsuc n) D d low middle high h = absurd low.le
turned (pos n) (negsuc D) d low middle high h = absurd middle.le
