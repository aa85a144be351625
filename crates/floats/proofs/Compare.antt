-- The order of two floats is that of the fractions that they equal.
use mathlib.Core.Path.{◌≡◌, refl, sym, ap, ◌∙◌}
use mathlib.Core.Logic.{⊎_elim}
use mathlib.Core.Bool.{Bool, true, false, not, ◌||◌, beq}
use Prim.Native.Nat.{ℕ, zero, suc, ◌+◌, ◌*◌, ◌≤◌, ◌<◌}
use native.Mathlib.Nat.{le_of_eq, le_of_lt, not-le_of_lt, eq-or-lt_of_le, suc-ne-zero, mul-one, zero-mul, eq_of_mul-eq-mul_right, eq-zero-or-pos}
use native.Mathlib.Omega.{arith}
use lib.IntN.{pos}
use lib.Dec.{T, leb, eqb, leb→le, le→leb, nleb→lt, eqb-suc-zero, leb-suc-zero, leb-zero}
use borrow.Author.Tests.{lt-ltb, le-ltb, le-leb, lt-leb, eq-eqb, ne_eqb}
use lib.Ieee.{Float, fin, up, down, below, level, le, eq}
use lib.Ieee.Fits.{down_pos}
use Rattle.floats.proofs.Whole.{shape}
use lib.Ieee.Exact.{HasValue}
use lib.Ieee.Order.{transfer}

-- ---- tests of numbers
pub trichotomy : (x y : ℕ) {P : Type 0} → (x ≡ y → P) → (x < y → P) → (y < x → P) → P
trichotomy x y {P} e l g = go (leb x y) (leb→le x y) (nleb→lt x y)
  where
    go : (b : Bool) → (T b → x ≤ y) → (T (not b) → y < x) → P
    go true h k = ⊎_elim e l (eq-or-lt_of_le (h tt))
    go false h k = g (k tt)

bool-ext : (p q : Bool) → (T p → T q) → (T q → T p) → p ≡ q
bool-ext true true f g = refl
bool-ext true false f g = absurd (f tt)
bool-ext false true f g = absurd (g tt)
bool-ext false false f g = refl

leb-congr : (a b c d : ℕ) → (a ≤ b → c ≤ d) → (c ≤ d → a ≤ b) → leb a b ≡ leb c d
leb-congr a b c d f g =
    bool-ext (leb a b) (leb c d)
    (λ (t : T (leb a b)). le→leb c d (f (leb→le a b t)))
    (λ (t : T (leb c d)). le→leb a b (g (leb→le c d t)))

-- ---- the order of two numbers with signs, where only a zero has the sign true
pub signed_le : (s t : Bool) (x y : ℕ) → (T s → x ≡ 0) → (T t → y ≡ 0) → (below s x t y || level s x t y) ≡ leb x y
signed_le false false x y h k =
    trichotomy x y (λ (e : x ≡ y). rw (le-ltb x y (le_of_eq (sym e)), eq-eqb x y e, le-leb x y (le_of_eq e)))
    (λ (l : x < y). rw (lt-ltb x y l, le-leb x y (le_of_lt l)))
    (λ (l : y < x). rw (le-ltb x y (le_of_lt l), ne_eqb x y (omega arith), lt-leb x y l))
signed_le false true zero zero h k = refl
signed_le false true (suc x) zero h k = rw (eqb-suc-zero x, leb-suc-zero x)
signed_le false true x (suc y) h k = absurd (suc-ne-zero y (k tt))
signed_le true false zero zero h k = refl
signed_le true false zero (suc y) h k = rw (lt-ltb 0 (0 + suc y) (omega arith), leb-zero (suc y))
signed_le true false (suc x) y h k = absurd (suc-ne-zero x (h tt))
signed_le true true zero zero h k = refl
signed_le true true zero (suc y) h k = absurd (suc-ne-zero y (k tt))
signed_le true true (suc x) y h k = absurd (suc-ne-zero x (h tt))

-- ---- the order of two floats is that of the fractions that they equal
cross-zero : (v a c d : ℕ) → 0 < c → v * c ≡ a * d → a ≡ 0 → v ≡ 0
cross-zero v a c d C h z = eq_of_mul-eq-mul_right c C v 0 (h ∙ ap (λ (x : ℕ). x * d) z ∙ zero-mul d ∙ sym (zero-mul c))

pub mul-eq-zero : (v g : ℕ) → v ≡ 0 → v * g ≡ 0
mul-eq-zero v g z = ap (λ (x : ℕ). x * g) z ∙ zero-mul g

pub le-fractions : (x y : Float) (s t : Bool) (a c b d : ℕ) → 0 < c → 0 < d → HasValue x s a c → HasValue y t b d
    → (T s → a ≡ 0) → (T t → b ≡ 0) → le x y ≡ leb (a * d) (b * c)
unfolding le
le-fractions x y s t a c b d C D v w h k =
    let (m, e, p, i) = shape x s a c v in
    let (n, g, q, j) = shape y t b d w in
    rw (p, q)
    (signed_le s t (m * up e * down g) (n * up g * down e)
    (λ (z : T s). mul-eq-zero (m * up e) (down g) (cross-zero (m * up e) a c (down e) C i (h z)))
    (λ (z : T t). mul-eq-zero (n * up g) (down e) (cross-zero (n * up g) b d (down g) D j (k z)))
    ∙ leb-congr (m * up e * down g) (n * up g * down e) (a * d) (b * c)
    (transfer a b c d (m * up e) (n * up g) (down e) (down g) (down_pos e) (down_pos g) (sym i) (sym j))
    (transfer (m * up e) (n * up g) (down e) (down g) a b c d C D i j))

-- ---- a float compared with zero
level-zero : (u : Bool) (x z a : ℕ) → z ≡ 0 → (x ≡ 0 → a ≡ 0) → (a ≡ 0 → x ≡ 0) → level u x false z ≡ eqb a 0
level-zero u x z a Z f g =
    ⊎_elim (λ (e : a ≡ 0). rw (eq-eqb x z (g e ∙ sym Z), eq-eqb x 0 (g e), eq-eqb a 0 e) (either u))
    (λ (l : 0 < a). rw (ne_eqb x z (λ (e : x ≡ z). not-le_of_lt l (le_of_eq (f (e ∙ Z)))), ne_eqb a 0 (omega arith)))
    (eq-zero-or-pos a)
  where
    either : (b : Bool) → (beq b false || true) ≡ true
    either true = refl
    either false = refl

pub eq-zero : (x : Float) (s : Bool) (a c : ℕ) → 0 < c → HasValue x s a c → eq x (fin false 0 (pos 0)) ≡ eqb a 0
unfolding eq
eq-zero x s a c C v =
    let (m, e, p, i) = shape x s a c v in
    rw p
    (level-zero s (m * up e * 1) (0 * down e) a (zero-mul (down e))
    (λ (z : m * up e * 1 ≡ 0). cross-zero a (m * up e) (down e) c (down_pos e) (sym i) (sym (mul-one (m * up e)) ∙ z))
    (λ (z : a ≡ 0). mul-eq-zero (m * up e) 1 (cross-zero (m * up e) a c (down e) C i z)))
