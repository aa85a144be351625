-- An integer as a difference of two naturals, `a ⊖ b`: equality, sums, products and orders of differences, in naturals.
-- Assumes nothing.
use mathlib.Core.Path.{◌≡◌, refl, ◌∙◌, ap}
use mathlib.Core.Logic.{◌↔◌}
use mathlib.Core.Bool.{Bool, true, false, not, cond}
use Prim.Native.Nat.{ℕ, zero, suc, ◌+◌, ◌*◌, ◌-◌, ◌<◌, ◌≤◌}
use native.Mathlib.Omega.{arith}
use lib.IntN.{ℤ, pos, negsuc, neg_ℤ, sub_ℕ, ◌+ℤ◌, ◌*ℤ◌}
use lib.Dec.{T, ltb, leb→le, le→leb, ltb→lt, lt→ltb, nltb→le}
use lib.Signed.{◌≤ℤ◌, ◌<ℤ◌}
use Rattle.integers.specs.Parts.{up, dn}

pub parts-eq : (x y : ℤ) → up x ≡ up y → dn x ≡ dn y → x ≡ y
parts-eq (pos m) (pos n) p q = ap pos p
parts-eq (pos m) (negsuc n) p q = absurd (omega arith)
parts-eq (negsuc m) (pos n) p q = absurd (omega arith)
parts-eq (negsuc m) (negsuc n) p q = ap negsuc (omega arith)

-- ---- a difference of two naturals
infixl 55 ◌⊖◌
unfoldable pub ◌⊖◌ : ℕ → ℕ → ℤ
a ⊖ b = sub_ℕ a b

cond_up : (t : Bool) (m n k : ℕ) → (T t → 0 ≡ k) → (T (not t) → n ≡ k) → up (cond t (negsuc m) (pos n)) ≡ k
cond_up true m n k f g = f tt
cond_up false m n k f g = g tt

cond-dn : (t : Bool) (m n k : ℕ) → (T t → suc m ≡ k) → (T (not t) → 0 ≡ k) → dn (cond t (negsuc m) (pos n)) ≡ k
cond-dn true m n k f g = f tt
cond-dn false m n k f g = g tt

pub up-⊖ : (a b : ℕ) → up (a ⊖ b) ≡ a - b
unfolding ◌⊖◌
up-⊖ a b = cond_up (ltb a b) (b - suc a) (a - b) (a - b) (λ t. let h = ltb→lt a b t in omega arith) (λ t. refl)

pub dn-⊖ : (a b : ℕ) → dn (a ⊖ b) ≡ b - a
unfolding ◌⊖◌
dn-⊖ a b = cond-dn (ltb a b) (b - suc a) (a - b) (b - a) (λ t. let h = ltb→lt a b t in omega arith) (λ t. let h = nltb→le a b t in omega arith)

-- two differences are equal
pub ⊖-eq : (a b c d : ℕ) → a + d ≡ c + b → a ⊖ b ≡ c ⊖ d
⊖-eq a b c d e = parts-eq (a ⊖ b) (c ⊖ d) (omega (arith, up-⊖ a b, up-⊖ c d)) (omega (arith, dn-⊖ a b, dn-⊖ c d))

pub eq-⊖ : (a b c d : ℕ) → a ⊖ b ≡ c ⊖ d → a + d ≡ c + b
eq-⊖ a b c d e = omega (arith, up-⊖ a b, up-⊖ c d, dn-⊖ a b, dn-⊖ c d, ap up e, ap dn e)

pub parts : (z : ℤ) → z ≡ up z ⊖ dn z
parts z = parts-eq z (up z ⊖ dn z) (p z) (q z)
  where
    p : (z : ℤ) → up z ≡ up (up z ⊖ dn z)
    p (pos n) = omega (arith, up-⊖ n 0)
    p (negsuc n) = omega (arith, up-⊖ 0 (suc n))

    q : (z : ℤ) → dn z ≡ dn (up z ⊖ dn z)
    q (pos n) = omega (arith, dn-⊖ n 0)
    q (negsuc n) = omega (arith, dn-⊖ 0 (suc n))

-- ---- sum, negation and product of differences
up-sum : (x y : ℤ) → up (x +ℤ y) ≡ (up x + up y) - (dn x + dn y)
unfolding ◌⊖◌
up-sum (pos a) (pos b) = omega arith
up-sum (pos a) (negsuc b) = omega (arith, up-⊖ a (suc b))
up-sum (negsuc a) (pos b) = omega (arith, up-⊖ b (suc a))
up-sum (negsuc a) (negsuc b) = omega arith

dn-sum : (x y : ℤ) → dn (x +ℤ y) ≡ (dn x + dn y) - (up x + up y)
unfolding ◌⊖◌
dn-sum (pos a) (pos b) = omega arith
dn-sum (pos a) (negsuc b) = omega (arith, dn-⊖ a (suc b))
dn-sum (negsuc a) (pos b) = omega (arith, dn-⊖ b (suc a))
dn-sum (negsuc a) (negsuc b) = omega arith

pub sum-⊖ : (a b c d : ℕ) → (a ⊖ b) +ℤ (c ⊖ d) ≡ (a + c) ⊖ (b + d)
sum-⊖ a b c d =
    parts-eq ((a ⊖ b) +ℤ (c ⊖ d)) ((a + c) ⊖ (b + d))
    (omega (arith, up-sum (a ⊖ b) (c ⊖ d), up-⊖ a b, dn-⊖ a b, up-⊖ c d, dn-⊖ c d, up-⊖ (a + c) (b + d)))
    (omega (arith, dn-sum (a ⊖ b) (c ⊖ d), up-⊖ a b, dn-⊖ a b, up-⊖ c d, dn-⊖ c d, dn-⊖ (a + c) (b + d)))

up_neg : (x : ℤ) → up (neg_ℤ x) ≡ dn x
up_neg (pos zero) = refl
up_neg (pos (suc n)) = refl
up_neg (negsuc n) = refl

dn-neg : (x : ℤ) → dn (neg_ℤ x) ≡ up x
dn-neg (pos zero) = refl
dn-neg (pos (suc n)) = refl
dn-neg (negsuc n) = refl

pub neg-⊖ : (a b : ℕ) → neg_ℤ (a ⊖ b) ≡ b ⊖ a
neg-⊖ a b = parts-eq (neg_ℤ (a ⊖ b)) (b ⊖ a) (omega (arith, up_neg (a ⊖ b), dn-⊖ a b, up-⊖ b a)) (omega (arith, dn-neg (a ⊖ b), up-⊖ a b, dn-⊖ b a))

-- the product, at the parts
mul-parts : (x y : ℤ) → x *ℤ y ≡ (up x * up y + dn x * dn y) ⊖ (up x * dn y + dn x * up y)
mul-parts (pos a) (pos b) = parts (pos (a * b)) ∙ ⊖-eq (a * b) 0 _ _ (omega arith)
mul-parts (pos a) (negsuc b) = ap neg_ℤ (parts (pos (a * suc b))) ∙ neg-⊖ (a * suc b) 0 ∙ ⊖-eq 0 (a * suc b) _ _ (omega arith)
mul-parts (negsuc a) (pos b) = ap neg_ℤ (parts (pos (suc a * b))) ∙ neg-⊖ (suc a * b) 0 ∙ ⊖-eq 0 (suc a * b) _ _ (omega arith)
mul-parts (negsuc a) (negsuc b) = parts (pos (suc a * suc b)) ∙ ⊖-eq (suc a * suc b) 0 _ _ (omega arith)

-- p ⊖ n and u ⊖ v are one integer, so may be put for one another in a product: the equation multiplied by the other factor
pub mul-⊖ : (a b c d : ℕ) → (a ⊖ b) *ℤ (c ⊖ d) ≡ (a * c + b * d) ⊖ (a * d + b * c)
mul-⊖ a b c d =
    let p = up (a ⊖ b) in
    let n = dn (a ⊖ b) in
    let u = up (c ⊖ d) in
    let v = dn (c ⊖ d) in
    let e : a + n ≡ p + b = eq-⊖ a b p n (parts (a ⊖ b)) in
    let f : c + v ≡ u + d = eq-⊖ c d u v (parts (c ⊖ d)) in
    mul-parts (a ⊖ b) (c ⊖ d)
    ∙ ⊖-eq (p * u + n * v) (p * v + n * u) (a * c + b * d) (a * d + b * c)
    (omega (arith, ap (λ (k : ℕ). k * u) e, ap (λ (k : ℕ). k * v) e, ap (λ (k : ℕ). a * k) f, ap (λ (k : ℕ). b * k) f))

-- ---- the orders
pub le_parts : (x y : ℤ) → (x ≤ℤ y) ↔ (up x + dn y ≤ up y + dn x)
le_parts (pos a) (pos b) = (λ h. let k = leb→le a b h.le in omega arith, λ h. record { le = le→leb a b (omega arith) })
le_parts (pos a) (negsuc b) = (λ h. absurd h.le, λ h. absurd (omega arith))
le_parts (negsuc a) (pos b) = (λ h. omega arith, λ h. record { le = tt })
le_parts (negsuc a) (negsuc b) = (λ h. let k = leb→le b a h.le in omega arith, λ h. record { le = le→leb b a (omega arith) })

pub lt-parts : (x y : ℤ) → (x <ℤ y) ↔ (up x + dn y < up y + dn x)
lt-parts (pos a) (pos b) = (λ h. let k = ltb→lt a b h.lt in omega arith, λ h. record { lt = lt→ltb a b (omega arith) })
lt-parts (pos a) (negsuc b) = (λ h. absurd h.lt, λ h. absurd (omega arith))
lt-parts (negsuc a) (pos b) = (λ h. omega arith, λ h. record { lt = tt })
lt-parts (negsuc a) (negsuc b) = (λ h. let k = ltb→lt b a h.lt in omega arith, λ h. record { lt = lt→ltb b a (omega arith) })
