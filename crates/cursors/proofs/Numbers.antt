-- What check 13 says of the numbers of a row that is handed in, and bounds of the numbers on the way.
-- Assumes nothing.
use mathlib.Core.Path.{◌≡◌, ◌∙◌, ap}
use mathlib.Core.List.{List}
use Prim.Native.Nat.{ℕ, suc, ◌+◌, ◌*◌, ◌≤◌, ◌<◌}
use native.Mathlib.Nat.{mul-le-mul_right}
use native.Mathlib.Omega.{arith}
use lib.IntN.{ℤ, pos, negsuc, neg_ℤ, ◌+ℤ◌, ◌*ℤ◌}
use lib.Signed.{◌≤ℤ◌}
use lib.ListN.{length}
use mir.Facts.{to_z-of_z}
use mir.Syntax.{Width}
use mir.Val.{SFits, of_z, to_z}
use Rattle.integers.specs.Parts.{up}
use Rattle.integers.specs.Floor.{floor_div, floor_mod}
use Rattle.integers.proofs.Linear.{ints, ◌∴◌}
use Rattle.integers.proofs.Order.{is_up_lem, mul_mono}
use Rattle.integers.proofs.Floor.{floor-eq, floor-lt}
use Rattle.calendar.specs.Limits.{pool_limit}
use Rattle.calendar.specs.Questions.{given}
use Rattle.granules.specs.Valid.{Valid}
use Rattle.granules.proofs.Sound.{sound-valid, sound-limits}
use Rattle.cursors.specs.Found.{Sound, Within}

-- the period and the distance of a sound row are naturals, 1 ≤ N ≤ P ≤ pool_limit, and P is the row's length
pub record Numbers (period distance : ℤ) (cells : List ℤ) : Type 0 where
  pub period-is : period ≡ pos (up period)
  pub distance_is : distance ≡ pos (up distance)
  pub whole : length cells ≡ up period
  pub low : 1 ≤ up distance
  pub middle : up distance ≤ up period
  pub high : up period ≤ pool_limit

module _ (period distance : ℤ) (cells : List ℤ) (s : Sound period distance cells) where
  pub valid : Valid (given period distance cells)
  valid = sound-valid (given period distance cells) s

  pub numbers : Numbers period distance cells
  numbers =
      let v = valid in
      let l = sound-limits (given period distance cells) s in
      record {
        period-is = is_up_lem period v.positive.0;
        distance_is = is_up_lem distance v.positive.1;
        whole = v.whole;
        low = v.positive.1;
        middle = l.0;
        high = l.1;
      }

-- N times the turn of an instant is not farther from 0 than the instant by more than P, as N ≤ P
rise-of : (P N B m : ℕ) (u q : ℤ) → m < P → N ≤ P → neg_ℤ (pos B) ≤ℤ u → u ≤ℤ pos B → u ≡ pos P *ℤ q +ℤ pos m
    → (neg_ℤ (pos (B + P)) ≤ℤ (pos N *ℤ q)) × ((pos N *ℤ q) ≤ℤ pos B)
rise-of P N B m u (pos n) below small lo hi e = e ∴ lo ∴ hi ∴ mul-le-mul_right n small ∴ simp ints (omega arith)
rise-of P N B m u (negsuc n) below small lo hi e = e ∴ lo ∴ hi ∴ mul-le-mul_right (suc n) small ∴ simp ints (omega arith)

pub rise-bound : (P N B : ℕ) → 0 < P → N ≤ P → (u : ℤ) → neg_ℤ (pos B) ≤ℤ u → u ≤ℤ pos B
    → (neg_ℤ (pos (B + P)) ≤ℤ (pos N *ℤ floor_div u P)) × ((pos N *ℤ floor_div u P) ≤ℤ pos B)
rise-bound P N B above small u lo hi = rise-of P N B (floor_mod u P) u (floor_div u P) (floor-lt P above u) small lo hi (floor-eq P above u)

-- a product is within the product of the bounds
pub product-within : (A B : ℕ) (h z : ℤ) → Within A h → Within B z → Within (A * B) (h *ℤ z)
product-within A B (pos n) z k l =
    let few : n ≤ A = k.1 ∴ simp ints (omega arith) in
    mul_mono n l.0 ∴ mul_mono n l.1 ∴ mul-le-mul_right B few ∴ simp ints (omega arith)
product-within A B (negsuc n) z k l =
    let few : suc n ≤ A = k.0 ∴ simp ints (omega arith) in
    mul_mono (suc n) l.0 ∴ mul_mono (suc n) l.1 ∴ mul-le-mul_right B few ∴ simp ints (omega arith)

-- a number that the machine computed as x and reads back from its bits
pub read_as : {w : Width} {x y : ℤ} → x ≡ y → SFits w y → to_z w (of_z w x) ≡ y
read_as {w} e f = ap (λ (z : ℤ). to_z w (of_z w z)) e ∙ to_z-of_z f
