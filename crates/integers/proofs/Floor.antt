-- Division by a natural P above zero, rounded down, with the remainder, a natural below P; and division rounded up.
--     floor_div t P, floor_mod t P        t is P * floor_div t P + floor_mod t P
--     ceil_div t P                       the least k with t ≤ P * k
-- Assumes nothing.
use mathlib.Core.Path.{◌≡◌, refl, sym, ◌∙◌, ap}
use mathlib.Core.Logic.{◌⊎◌, inl, inr, ◌↔◌}
use Prim.Native.Nat.{ℕ, ◌+◌, ◌*◌, ◌/◌, ◌%◌, ◌<◌}
use native.Mathlib.Nat.{div-add-mod, mod-lt, div-div-eq-div-mul, div-eq_of_lt, mod-eq_of_lt, mul-le-mul_left, mul-pos}
use native.Mathlib.Omega.{arith}
use lib.IntN.{ℤ, pos, negsuc, neg_ℤ, neg_ℤ-neg_ℤ, ◌+ℤ◌, ◌-ℤ◌, ◌*ℤ◌}
use lib.Signed.{◌≤ℤ◌, ◌<ℤ◌}
use Rattle.integers.proofs.Linear.{ints, ◌∴◌}
use Rattle.integers.proofs.Order.{le-or-lt, mul_mono, ≤ℤ-antisym}
use Rattle.integers.specs.Parts.{up}
use Rattle.integers.specs.Floor.{floor_div, floor_mod, ceil_div}

module _ (P : ℕ) (above : 0 < P) where
  pub floor-eq : (t : ℤ) → t ≡ pos P *ℤ floor_div t P +ℤ pos (floor_mod t P)
  unfolding floor_div floor_mod
  floor-eq (pos a) = simp ints (omega (arith, div-add-mod a P))
  floor-eq (negsuc a) = simp ints (omega (arith, div-add-mod a P, mod-lt a above))

  pub floor-lt : (t : ℤ) → floor_mod t P < P
  unfolding floor_mod
  floor-lt (pos a) = mod-lt a above
  floor-lt (negsuc a) = omega arith

  -- quotients are ordered as what is divided: a smaller quotient is smaller by one at least
  quot_le : (q q' : ℤ) (r r' : ℕ) → r' < P → (pos P *ℤ q +ℤ pos r) ≤ℤ (pos P *ℤ q' +ℤ pos r') → q ≤ℤ q'
  quot_le q q' r r' l h = by (le-or-lt q q')
    where
      by : (q ≤ℤ q') ⊎ (q' <ℤ q) → q ≤ℤ q'
      by (inl k) = k
      by (inr k) = absurd (omega (arith, simp ints at h, mul-le-mul_left P (simp ints at k)))

  pub floor-unique : (t q : ℤ) (r : ℕ) → t ≡ pos P *ℤ q +ℤ pos r → r < P → (floor_div t P ≡ q) × (floor_mod t P ≡ r)
  floor-unique t q r e l = (same-q, omega (arith, simp ints at back))
    where
      eq : pos P *ℤ floor_div t P +ℤ pos (floor_mod t P) ≡ pos P *ℤ q +ℤ pos r
      eq = sym (floor-eq t) ∙ e

      same-q : floor_div t P ≡ q
      same-q =
          ≤ℤ-antisym
          (quot_le (floor_div t P) q (floor_mod t P) r l (eq ∴ simp ints (omega arith)))
          (quot_le q (floor_div t P) r (floor_mod t P) (floor-lt t) (eq ∴ simp ints (omega arith)))

      back : pos P *ℤ q +ℤ pos (floor_mod t P) ≡ pos P *ℤ q +ℤ pos r
      back = ap (λ (k : ℤ). pos P *ℤ k +ℤ pos (floor_mod t P)) (sym same-q) ∙ eq

  -- moving t by whole periods
  shifted : (t k : ℤ) → (floor_div (t +ℤ pos P *ℤ k) P ≡ floor_div t P +ℤ k) × (floor_mod (t +ℤ pos P *ℤ k) P ≡ floor_mod t P)
  shifted t k = floor-unique (t +ℤ pos P *ℤ k) (floor_div t P +ℤ k) (floor_mod t P) (floor-eq t ∴ simp ints (omega arith)) (floor-lt t)

  pub floor_div-shift : (t k : ℤ) → floor_div (t +ℤ pos P *ℤ k) P ≡ floor_div t P +ℤ k
  floor_div-shift t k = (shifted t k).0

  pub floor_mod-shift : (t k : ℤ) → floor_mod (t +ℤ pos P *ℤ k) P ≡ floor_mod t P
  floor_mod-shift t k = (shifted t k).1

  -- two integers with one remainder differ by whole periods
  pub floor_mod-same : (s t : ℤ) → floor_mod s P ≡ floor_mod t P → s ≡ t +ℤ pos P *ℤ (floor_div s P -ℤ floor_div t P)
  floor_mod-same s t e = floor-eq s ∴ floor-eq t ∴ simp ints (omega arith)

  pub floor_mod-cong : (s s' t : ℤ) → floor_mod s P ≡ floor_mod s' P → floor_mod (s +ℤ t) P ≡ floor_mod (s' +ℤ t) P
  floor_mod-cong s s' t e =
      let moved : s +ℤ t ≡ s' +ℤ t +ℤ pos P *ℤ (floor_div s P -ℤ floor_div s' P) = floor_mod-same s s' e ∴ simp ints (omega arith) in
      ap (λ (z : ℤ). floor_mod z P) moved ∙ floor_mod-shift (s' +ℤ t) (floor_div s P -ℤ floor_div s' P)

  pub floor-mono : {s t : ℤ} → s ≤ℤ t → floor_div s P ≤ℤ floor_div t P
  floor-mono {s} {t} h =
      quot_le (floor_div s P) (floor_div t P) (floor_mod s P) (floor_mod t P) (floor-lt t)
      (h ∴ floor-eq s ∴ floor-eq t ∴ simp ints (omega arith))

  -- the quotient is the greatest k with P * k at most t
  pub le-floor : (k t : ℤ) → (k ≤ℤ floor_div t P) ↔ ((pos P *ℤ k) ≤ℤ t)
  le-floor k t = (
    λ h. mul_mono P h ∴ floor-eq t ∴ simp ints (omega arith),
    λ h. quot_le k (floor_div t P) 0 (floor_mod t P) (floor-lt t) (h ∴ floor-eq t ∴ simp ints (omega arith)),
  )

  pub ceil-le : (t k : ℤ) → (ceil_div t P ≤ℤ k) ↔ (t ≤ℤ (pos P *ℤ k))
  unfolding ceil_div
  ceil-le t k =
      let g = le-floor (neg_ℤ k) (neg_ℤ t) in (
        λ h. g.0 (h ∴ simp ints (omega arith)) ∴ simp ints (omega arith),
        λ h. g.1 (h ∴ simp ints (omega arith)) ∴ simp ints (omega arith),
      )

  -- the quotient rounded up is the q of t = P * q - r, for an r below P
  pub ceil-unique : (t q : ℤ) (r : ℕ) → t ≡ pos P *ℤ q -ℤ pos r → r < P → ceil_div t P ≡ q
  unfolding ceil_div
  ceil-unique t q r e l = ap neg_ℤ (floor-unique (neg_ℤ t) (neg_ℤ q) r (e ∴ simp ints (omega arith)) l).0 ∙ neg_ℤ-neg_ℤ q

  pub ceil-eq : (t : ℤ) → t ≡ pos P *ℤ ceil_div t P -ℤ pos (floor_mod (neg_ℤ t) P)
  unfolding ceil_div
  ceil-eq t = floor-eq (neg_ℤ t) ∴ simp ints (omega arith)

  pub ceil_div-shift : (t k : ℤ) → ceil_div (t +ℤ pos P *ℤ k) P ≡ ceil_div t P +ℤ k
  ceil_div-shift t k =
      ceil-unique (t +ℤ pos P *ℤ k) (ceil_div t P +ℤ k) (floor_mod (neg_ℤ t) P) (ceil-eq t ∴ simp ints (omega arith)) (floor-lt (neg_ℤ t))

  pub ceil_div-mul : (k : ℤ) → ceil_div (pos P *ℤ k) P ≡ k
  ceil_div-mul k = ceil-unique (pos P *ℤ k) k 0 (simp ints (omega arith)) above

  pub ceil-mono : {s t : ℤ} → s ≤ℤ t → ceil_div s P ≤ℤ ceil_div t P
  ceil-mono {s} {t} h = (ceil-le s (ceil_div t P)).1 (h ∴ ceil-eq t ∴ simp ints (omega arith))

pub ceil_div-one : (t : ℤ) → ceil_div t 1 ≡ t
ceil_div-one t = ceil-unique 1 (omega arith) t t 0 (simp ints (omega arith)) (omega arith)

-- ---- of naturals, and below the divisor
pub floor_div-pos : (a P : ℕ) → floor_div (pos a) P ≡ pos (a / P)
unfolding floor_div
floor_div-pos a P = refl

pub floor_mod-pos : (a P : ℕ) → floor_mod (pos a) P ≡ a % P
unfolding floor_mod
floor_mod-pos a P = refl

pub floor_div-pos-lt : (P : ℕ) {t : ℤ} → pos 0 ≤ℤ t → t <ℤ pos P → (floor_div t P ≡ pos 0) × (floor_mod t P ≡ up t)
unfolding floor_div floor_mod
floor_div-pos-lt P {t = pos a} h k =
    let l : a < P = omega (arith, simp ints at k) in
    (ap pos (div-eq_of_lt l), mod-eq_of_lt l)
floor_div-pos-lt P {t = negsuc a} h k = absurd h.le

-- ---- divisions in a row
pub floor_div-floor_div : (t : ℤ) (m n : ℕ) → floor_div (floor_div t m) n ≡ floor_div t (m * n)
unfolding floor_div
floor_div-floor_div (pos a) m n = ap pos (div-div-eq-div-mul a m n)
floor_div-floor_div (negsuc a) m n = ap negsuc (div-div-eq-div-mul a m n)

pub ceil_div-ceil_div : (t : ℤ) (m n : ℕ) → ceil_div (ceil_div t m) n ≡ ceil_div t (m * n)
unfolding ceil_div
ceil_div-ceil_div t m n = simp (neg_ℤ-neg_ℤ, floor_div-floor_div)

-- the remainder by a product, by its digits
pub floor_mod-mul : (t : ℤ) (m n : ℕ) → 0 < m → 0 < n → floor_mod t (m * n) ≡ m * floor_mod (floor_div t m) n + floor_mod t m
floor_mod-mul t m n p q =
    (floor-unique (m * n) (mul-pos p q) t (floor_div (floor_div t m) n) (m * floor_mod (floor_div t m) n + floor_mod t m)
    (floor-eq m p t ∴ ap (λ (z : ℤ). pos m *ℤ z) (floor-eq n q (floor_div t m)) ∴ simp ints (omega arith))
    (omega (arith, floor-lt m p t, mul-le-mul_left m (floor-lt n q (floor_div t m))))).1

-- a remainder by a multiple of m has the remainder by m
pub floor_mod-floor_mod : (t : ℤ) (m n : ℕ) → 0 < m → 0 < n → floor_mod t (m * n) % m ≡ floor_mod t m
unfolding floor_mod
floor_mod-floor_mod t m n p q =
    let r = pos (floor_mod t (m * n)) in
    let k = pos n *ℤ floor_div t (m * n) in
    let e : r +ℤ pos m *ℤ k ≡ t = floor-eq (m * n) (mul-pos p q) t ∴ simp ints (omega arith) in
    sym (floor_mod-shift m p r k) ∙ ap (λ (z : ℤ). floor_mod z m) e
