-- The greatest common divisor and the least common multiple of two naturals, and Bezout's equation.
-- `◌∣◌` and its laws are the native library's (`native.Mathlib.Nat`: dvd-add, dvd-mod_iff, dvd_antisymm, mul-div_cancel').
-- Assumes nothing.
use mathlib.Core.Path.{◌≡◌, refl, sym, ◌∙◌, ap, subst}
use Prim.Native.Nat.{ℕ, zero, suc, ◌*◌, ◌/◌, ◌%◌, ◌<◌, ◌≤◌, ◌∣◌}
use native.Mathlib.Nat.{div-add-mod, mod-lt, dvd-zero, dvd_refl, dvd-mod_iff, dvd-mul_right, dvd-mul_left, dvd_antisymm, mul-div_cancel', pos_of_dvd_of_pos, le_of_dvd, mul-pos, le-div_iff_mul-le, mul-dvd-mul_left, dvd_of_mul-dvd-mul_left, eq-one_of_dvd-one}
use native.Mathlib.Omega.{arith}
use lib.IntN.{ℤ, pos, negsuc, ◌+ℤ◌, ◌-ℤ◌, ◌*ℤ◌}
use Rattle.integers.proofs.Linear.{ints, ◌∴◌}
use Rattle.integers.proofs.Order.{mul-cancel}
use Rattle.integers.specs.Gcd.{euclid, gcd, lcm}

mod-le : (a b : ℕ) → a % suc b ≤ b
mod-le a b = omega (arith, mod-lt a {m = suc b} (omega arith))

enough : (f g a b : ℕ) → b ≤ f → b ≤ g → euclid f a b ≡ euclid g a b
unfolding euclid
enough zero zero a b h k = refl
enough zero (suc g) a zero h k = refl
enough zero (suc g) a (suc b) h k = absurd (omega arith)
enough (suc f) zero a zero h k = refl
enough (suc f) zero a (suc b) h k = absurd (omega arith)
enough (suc f) (suc g) a zero h k = refl
enough (suc f) (suc g) a (suc b) h k = enough f g (suc b) (a % suc b) (omega (arith, mod-le a b)) (omega (arith, mod-le a b))

pub gcd-zero : (a : ℕ) → gcd a 0 ≡ a
unfolding gcd euclid
gcd-zero a = refl

gcd-suc : (a b : ℕ) → gcd a (suc b) ≡ gcd (suc b) (a % suc b)
unfolding gcd euclid
gcd-suc a b = enough b (a % suc b) (suc b) (a % suc b) (mod-le a b) (omega arith)

pub gcd-step : (a b : ℕ) → 0 < b → gcd a b ≡ gcd b (a % b)
gcd-step a zero h = absurd (omega arith)
gcd-step a (suc b) h = gcd-suc a b

-- what holds of a and 0, and goes over from b and a % b to a and b, holds of any two numbers
pub gcd-ind : (Q : ℕ → ℕ → Type 0) → ((a : ℕ) → Q a 0) → ((a b : ℕ) → 0 < b → Q b (a % b) → Q a b) → (a b : ℕ) → Q a b
gcd-ind Q base step a b = go (suc b) a b (omega arith)
  where
    go : (fuel a b : ℕ) → b < fuel → Q a b
    go zero a b h = absurd (omega arith)
    go (suc fuel) a zero h = base a
    go (suc fuel) a (suc b) h = step a (suc b) (omega arith) (go fuel (suc b) (a % suc b) (omega (arith, mod-le a b)))

-- ---- a common divisor, and the greatest
pub gcd-dvd : (a b : ℕ) → (gcd a b ∣ a) × (gcd a b ∣ b)
gcd-dvd = gcd-ind (λ a b. (gcd a b ∣ a) × (gcd a b ∣ b)) (λ a. rw gcd-zero (dvd_refl a, dvd-zero a)) (λ a b h p. rw (gcd-step a b h) ((dvd-mod_iff (gcd b (a % b)) p.0).0 p.1, p.0))

pub gcd-greatest : (d a b : ℕ) → d ∣ a → d ∣ b → d ∣ gcd a b
gcd-greatest d = gcd-ind (λ a b. d ∣ a → d ∣ b → d ∣ gcd a b) (λ a p q. rw gcd-zero p) (λ a b h k p q. rw (gcd-step a b h) (k q ((dvd-mod_iff d q).1 p)))

pub gcd-pos : (a b : ℕ) → 0 < a → 0 < gcd a b
gcd-pos a b h = pos_of_dvd_of_pos (gcd-dvd a b).0 h

pub gcd-comm : (a b : ℕ) → gcd a b ≡ gcd b a
gcd-comm a b = dvd_antisymm (gcd-greatest (gcd a b) b a (gcd-dvd a b).1 (gcd-dvd a b).0) (gcd-greatest (gcd b a) a b (gcd-dvd b a).1 (gcd-dvd b a).0)

-- ---- Bezout's equation
pub record Bezout (a b : ℕ) : Type 0 where
  pub x : ℤ
  pub y : ℤ
  pub sum : pos (gcd a b) ≡ pos a *ℤ x +ℤ pos b *ℤ y

pub bezout : (a b : ℕ) → Bezout a b
bezout = gcd-ind Bezout (λ a. record { x = pos 1; y = pos 0; sum = rw gcd-zero (simp ints (omega arith)) }) step
  where
    step : (a b : ℕ) → 0 < b → Bezout b (a % b) → Bezout a b
    step a b h z = record {
      x = z.y;
      y = z.x -ℤ pos (a / b) *ℤ z.y;
      sum = rw (gcd-step a b h) (z.sum ∴ ap (λ (k : ℕ). pos k *ℤ z.y) (div-add-mod a b) ∴ simp ints (omega arith));
    }

-- ---- divisibility, by an equation of integers
pub dvd-of-int : (d m : ℕ) (z : ℤ) → pos m ≡ pos d *ℤ z → d ∣ m
dvd-of-int d m (pos k) e = subst (λ (n : ℕ). d ∣ n) (sym m-is) (dvd-mul_right d k)
  where
    m-is : m ≡ d * k
    m-is = omega (arith, simp ints at e)
dvd-of-int d m (negsuc k) e = subst (λ (n : ℕ). d ∣ n) (sym m-is) (dvd-zero d)
  where
    m-is : m ≡ 0
    m-is = omega (arith, simp ints at e)

-- a divisor of m * k that has no divisor in common with m divides k
pub gauss : (d m k : ℕ) → gcd d m ≡ 1 → d ∣ m * k → d ∣ k
gauss d m k coprime h =
    let w = bezout d m in
    let one : pos 1 ≡ pos d *ℤ w.x +ℤ pos m *ℤ w.y = ap pos (sym coprime) ∙ w.sum in
    dvd-of-int d k (w.x *ℤ pos k +ℤ pos (m * k / d) *ℤ w.y)
    (ap (λ (z : ℤ). z *ℤ pos k) one ∴ ap (λ (n : ℕ). pos n *ℤ w.y) (mul-div_cancel' d h) ∴ simp ints (omega arith))

-- two numbers divided by their greatest common divisor
pub div-gcd-coprime : (a b : ℕ) → 0 < a → gcd (a / gcd a b) (b / gcd a b) ≡ 1
div-gcd-coprime a b h =
    let g = gcd a b in
    let d = gcd (a / g) (b / g) in
    let p : g * d ∣ a = subst (λ (n : ℕ). g * d ∣ n) (mul-div_cancel' g (gcd-dvd a b).0) (mul-dvd-mul_left d g (gcd-dvd (a / g) (b / g)).0) in
    let q : g * d ∣ b = subst (λ (n : ℕ). g * d ∣ n) (mul-div_cancel' g (gcd-dvd a b).1) (mul-dvd-mul_left d g (gcd-dvd (a / g) (b / g)).1) in
    let r : g * d ∣ g * 1 = subst (λ (n : ℕ). g * d ∣ n) (omega arith) (gcd-greatest (g * d) a b p q) in
    eq-one_of_dvd-one (dvd_of_mul-dvd-mul_left d (gcd-pos a b h) r)

-- ---- the least common multiple
lcm-right : (a b : ℕ) → lcm a b ≡ a * (b / gcd a b)
unfolding lcm
lcm-right a b =
    let g = gcd a b in
    omega (arith, ap (λ (k : ℕ). a / g * k) (mul-div_cancel' g (gcd-dvd a b).1), ap (λ (k : ℕ). k * (b / g)) (mul-div_cancel' g (gcd-dvd a b).0))

pub lcm-dvd : (a b : ℕ) → (a ∣ lcm a b) × (b ∣ lcm a b)
unfolding lcm
lcm-dvd a b = (rw (lcm-right a b) (dvd-mul_right a (b / gcd a b)), dvd-mul_left b (a / gcd a b))

pub lcm-comm : (a b : ℕ) → lcm a b ≡ lcm b a
unfolding lcm
lcm-comm a b = lcm-right a b ∙ ap (λ (g : ℕ). a * (b / g)) (gcd-comm a b) ∙ omega arith

pub lcm-pos : (a b : ℕ) → 0 < a → 0 < b → 0 < lcm a b
unfolding lcm
lcm-pos a b h k = mul-pos ((le-div_iff_mul-le (gcd-pos a b h)).1 (omega (arith, le_of_dvd h (gcd-dvd a b).0))) k

-- the two steps of `lcm-least`, each within the 64 products that `omega` takes
bezout-times : (g a b k l m : ℕ) (x y : ℤ) → pos g ≡ pos a *ℤ x +ℤ pos b *ℤ y → b * l ≡ m → a * k ≡ m → pos g *ℤ pos m ≡ pos (a * b * l) *ℤ x +ℤ pos (a * b * k) *ℤ y
bezout-times g a b k l m x y e p q =
    ap (λ (z : ℤ). z *ℤ pos m) e
    ∴ ap (λ (n : ℕ). pos (a * n) *ℤ x) p
    ∴ ap (λ (n : ℕ). pos (b * n) *ℤ y) q
    ∴ simp ints (omega arith)

factor-out : (g a b a' k l : ℕ) (x y : ℤ) → g * a' ≡ a → pos g *ℤ (pos (a' * b) *ℤ (pos l *ℤ x +ℤ pos k *ℤ y)) ≡ pos (a * b * l) *ℤ x +ℤ pos (a * b * k) *ℤ y
factor-out g a b a' k l x y e = ap (λ (n : ℕ). pos (n * b) *ℤ (pos l *ℤ x +ℤ pos k *ℤ y)) e ∴ simp ints (omega arith)

pub lcm-least : (a b m : ℕ) → 0 < a → a ∣ m → b ∣ m → lcm a b ∣ m
unfolding lcm
lcm-least a b m h p q = dvd-of-int (a / g * b) m z (mul-cancel g (gcd-pos a b h) eq)
  where
    g : ℕ
    g = gcd a b

    w : Bezout a b
    w = bezout a b

    -- m is a * k and b * l, and g is a * x + b * y: so g * m is a * b * (l * x + k * y)
    z : ℤ
    z = pos (m / b) *ℤ w.x +ℤ pos (m / a) *ℤ w.y

    eq : pos g *ℤ pos m ≡ pos g *ℤ (pos (a / g * b) *ℤ z)
    eq =
        bezout-times g a b (m / a) (m / b) m w.x w.y w.sum (mul-div_cancel' b q) (mul-div_cancel' a p)
        ∙ sym (factor-out g a b (a / g) (m / a) (m / b) w.x w.y (mul-div_cancel' g (gcd-dvd a b).0))
