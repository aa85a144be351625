-- The order of the integers: it is total and decided; products and the order. What is linear is left to `simp ints (omega arith)` (`Linear`).
-- Assumes nothing.
use mathlib.Core.Path.{◌≡◌, refl}
use mathlib.Core.Logic.{◌⊎◌, inl, inr}
use Prim.Native.Nat.{ℕ, ◌+◌, ◌<◌, ◌≤◌}
use native.Mathlib.Nat.{mul-le-mul_left}
use native.Mathlib.Decide.{dec_le}
use native.Mathlib.Omega.{arith}
use lib.IntN.{ℤ, pos, negsuc, ◌*ℤ◌}
use lib.Signed.{◌≤ℤ◌, ◌<ℤ◌}
use Rattle.integers.proofs.Linear.{ints, ◌∴◌}
use Rattle.integers.specs.Parts.{up, dn}

pub ≤ℤ-trans : {a b c : ℤ} → a ≤ℤ b → b ≤ℤ c → a ≤ℤ c
≤ℤ-trans {a} {b} {c} = simp ints (omega arith)

pub ≤ℤ-antisym : {a b : ℤ} → a ≤ℤ b → b ≤ℤ a → a ≡ b
≤ℤ-antisym {a} {b} = simp ints (omega arith)

pub <ℤ→≤ℤ : {a b : ℤ} → a <ℤ b → a ≤ℤ b
<ℤ→≤ℤ {a} {b} = simp ints (omega arith)

-- ---- decided
pub dec_leℤ : (a b : ℤ) → Dec (a ≤ℤ b)
dec_leℤ a b = by (dec_le (up a + dn b) (up b + dn a))
  where
    by : Dec (up a + dn b ≤ up b + dn a) → Dec (a ≤ℤ b)
    by (yes h) = yes (simp ints (omega arith))
    by (no f) = no (simp ints (omega arith))

pub le-or-lt : (a b : ℤ) → (a ≤ℤ b) ⊎ (b <ℤ a)
le-or-lt a b = by (dec_leℤ a b)
  where
    by : Dec (a ≤ℤ b) → (a ≤ℤ b) ⊎ (b <ℤ a)
    by (yes h) = inl h
    by (no f) = inr (f ∴ simp ints (omega arith))

-- what is left of a number that falls, while it is above 0
pub up-less : (x y : ℤ) → x <ℤ y → pos 0 <ℤ y → up x < up y
up-less (pos a) (pos b) h k = omega (arith, simp ints at h)
up-less (negsuc a) (pos b) h k = omega (arith, simp ints at k)
up-less x (negsuc b) h k = absurd k.lt

-- the three cases of two integers
pub data Cases (a b : ℤ) : Type 0 where
  below : a <ℤ b → Cases a b
  equal : a ≡ b → Cases a b
  above : b <ℤ a → Cases a b

pub cases : (a b : ℤ) → Cases a b
cases a b = by (dec_leℤ a b) (dec_leℤ b a)
  where
    by : Dec (a ≤ℤ b) → Dec (b ≤ℤ a) → Cases a b
    by (yes h) (yes k) = equal (≤ℤ-antisym h k)
    by (yes h) (no k) = below (k ∴ simp ints (omega arith))
    by (no h) k = above (h ∴ simp ints (omega arith))

-- ---- products. `simp ints at (mul-nonneg ..)` hands `omega` a product of two facts
pub mul-nonneg : {a b : ℤ} → pos 0 ≤ℤ a → pos 0 ≤ℤ b → pos 0 ≤ℤ (a *ℤ b)
mul-nonneg {a = pos a} {b = pos b} h k = simp ints (omega arith)
mul-nonneg {a = pos a} {b = negsuc b} h k = absurd k.le
mul-nonneg {a = negsuc a} {b} h k = absurd h.le

pub mul_mono : (n : ℕ) {a b : ℤ} → a ≤ℤ b → (pos n *ℤ a) ≤ℤ (pos n *ℤ b)
mul_mono n {a} {b} h = simp ints (omega (arith, mul-le-mul_left n (simp ints at h)))

pub mul-le-cancel : (n : ℕ) {a b : ℤ} → 0 < n → (pos n *ℤ a) ≤ℤ (pos n *ℤ b) → a ≤ℤ b
mul-le-cancel n {a} {b} p h = by (le-or-lt a b)
  where
    by : (a ≤ℤ b) ⊎ (b <ℤ a) → a ≤ℤ b
    by (inl k) = k
    by (inr k) = absurd (omega (arith, simp ints at h, mul-le-mul_left n (simp ints at k)))

pub mul-cancel : (n : ℕ) {a b : ℤ} → 0 < n → pos n *ℤ a ≡ pos n *ℤ b → a ≡ b
mul-cancel n {a} {b} p e = ≤ℤ-antisym (mul-le-cancel n p (e ∴ simp ints (omega arith))) (mul-le-cancel n p (e ∴ simp ints (omega arith)))

-- an integer that is not negative is a natural
pub pos-up : {z : ℤ} → pos 0 ≤ℤ z → pos (up z) ≡ z
pos-up {z = pos n} h = refl
pos-up {z = negsuc n} h = absurd h.le

pub is_up_lem : (z : ℤ) → 1 ≤ up z → z ≡ pos (up z)
is_up_lem (pos n) h = refl
is_up_lem (negsuc n) h = absurd (omega arith)

pub up_le : {z : ℤ} {n : ℕ} → z ≤ℤ pos n → up z ≤ n
up_le {z = pos m} h = omega (arith, simp ints at h)
up_le {z = negsuc m} h = omega arith

pub up_pos : {z : ℤ} → pos 0 <ℤ z → 0 < up z
up_pos {z} h = omega (arith, simp ints at h)
