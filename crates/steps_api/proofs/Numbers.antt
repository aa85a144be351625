-- Codes that fit a number of 64 bits, and the numbers of a state.
-- Assumes nothing.
use mathlib.Core.Path.{◌≡◌, refl, ◌∙◌}
use mathlib.Core.List.{List, [], ◌∷◌, ◌++◌}
use Prim.Native.Nat.{ℕ, ◌<◌, ◌^◌, ◌+◌, ◌*◌}
use native.Mathlib.Omega.{arith}
use lib.IntN.{ℤ, pos, ◌*ℤ◌, ◌+ℤ◌}
use lib.ListN.{length, take, drop, set}
use mir.Syntax.{w64}
use mir.Val.{SFits, of_z, to_z}
use mir.Facts.{to_z-of_z}
use Rattle.integers.proofs.Linear.{ints}
use Rattle.integers.proofs.Machine.{plain}

-- ---- 100 times a number of 32 bits, and another of 32 bits

abbrev Small : ℕ → Type 0
Small n = n < 2 ^ 32

pub product : (n : ℕ) → Small n → SFits w64 (pos 100 *ℤ to_z w64 n)
product n h =
    let n-fits : n < 2 ^ 63 = omega arith in
    simp (plain, ints) (omega arith)

pub sum : (n k : ℕ) → Small n → Small k → SFits w64 (to_z w64 (of_z w64 (pos 100 *ℤ to_z w64 n)) +ℤ to_z w64 k)
sum n k h i =
    let n-fits : n < 2 ^ 63 = omega arith in
    let k-fits : k < 2 ^ 63 = omega arith in
    rw (to_z-of_z (product n h)) (simp (plain, ints) (omega arith))

pub code : (n k : ℕ) → Small n → Small k → to_z w64 (of_z w64 (to_z w64 (of_z w64 (pos 100 *ℤ to_z w64 n)) +ℤ to_z w64 k)) ≡ pos (100 * n + k)
code n k h i =
    let n-fits : n < 2 ^ 63 = omega arith in
    let k-fits : k < 2 ^ 63 = omega arith in
    to_z-of_z (sum n k h i) ∙ rw (to_z-of_z (product n h)) (simp (plain, ints) (omega arith))

pub back : (n : ℕ) → n < 2 ^ 63 → to_z w64 n ≡ pos n
back n h = simp plain

-- ---- stores into a list of eight

pub two-set : (l : List ℤ) → length l ≡ 8 → (a b : ℤ) → set (set l 0 a) 1 b ≡ a ∷ b ∷ drop 2 l
two-set [] e a b = absurd (omega (arith, e))
two-set (x ∷ []) e a b = absurd (omega (arith, e))
two-set (x ∷ y ∷ l) e a b = refl

pub three-set : (l : List ℤ) → length l ≡ 8 → (a b c : ℤ) → set (set (set l 2 a) 3 b) 4 c ≡ take 2 l ++ (a ∷ b ∷ c ∷ drop 5 l)
three-set [] e a b c = absurd (omega (arith, e))
three-set (x ∷ []) e a b c = absurd (omega (arith, e))
three-set (x ∷ y ∷ []) e a b c = absurd (omega (arith, e))
three-set (x ∷ y ∷ z ∷ []) e a b c = absurd (omega (arith, e))
three-set (x ∷ y ∷ z ∷ u ∷ []) e a b c = absurd (omega (arith, e))
three-set (x ∷ y ∷ z ∷ u ∷ v ∷ l) e a b c = refl
