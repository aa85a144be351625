-- The quotient of two whole numbers up to 2 ^ 53 as binary64 numbers: it is off by one part in 2 ^ 53 at most, and exact where it is whole.
use mathlib.Core.Path.{◌≡◌, sym, ap, ap₂, ◌∙◌}
use mathlib.Core.Bool.{false, not}
use Prim.Native.Nat.{ℕ, zero, suc, ◌+◌, ◌-◌, ◌*◌, ◌/◌, ◌%◌, ◌^◌, ◌≤◌, ◌<◌, compare, Ordering}
use native.Mathlib.Nat.{le_refl, le_trans, zero-lt-suc, zero-mul, le_of_eq, le_of_lt, mul-one, mul_comm, mul_assoc, mul_left_comm, mul-sub, mul-add, mul-le-mul_left, mul-le-mul_right, le_of_mul-le-mul_right, mul-pos, mod-lt, div-add-mod', le-div_iff_mul-le}
use native.Mathlib.Omega.{arith}
use lib.Dec.{T, is_le, compare_is_eq, leb→le, le→leb, nleb→lt, eqb→eq, lit≤}
use lib.Pow.{pow-add, pow_pos, pow_mono}
use lib.Ieee.{Float, Format, binary32, binary64, prec, emax, low, up, down, size, nearest, round, div}
use lib.Ieee.Digits.{size_reaches}
use lib.Ieee.Fits.{two, two-le_pos, up_pos, down_pos, eq→eqb}
use lib.Ieee.Exact.{HasValue}
use lib.Ieee.Nearest.{closest}
use lib.Ieee.Order.{drop}
use lib.Ieee.Scale.{grid, overflow, round_same, round_val, normal_of_fraction}
use lib.Ieee.Positive.{first_pos}
use lib.Ieee.Back.{round_whole}
use borrow.Author.Tests.{ne_eqb}
use Rattle.floats.specs.Near.{abs_diff, within, equals, float}
use Rattle.floats.proofs.Whole.{shape, float_value}

-- ---- a fraction to the nearest whole number: off by half at most

round-down : (q r a b : ℕ) → q * b + r ≡ a → r * 2 ≤ b → abs_diff (q * b) a * 2 ≤ b
round-down q r a b e h = omega arith

round_up : (q r a b : ℕ) → q * b + r ≡ a → r < b → b ≤ r * 2 → abs_diff (suc q * b) a * 2 ≤ b
round_up q r a b e l h = omega arith

round-tie : (t q r a b : ℕ) → t < 2 → q * b + r ≡ a → r < b → r * 2 ≡ b → abs_diff ((q + t) * b) a * 2 ≤ b
round-tie zero q r a b k e l h = omega arith
round-tie (suc zero) q r a b k e l h = omega arith
round-tie (suc (suc t)) q r a b k e l h = omega arith

closest-near : (a b : ℕ) → 0 < b → abs_diff (closest a b * b) a * 2 ≤ b
closest-near a b B = go (compare (a % b * 2) b) (leb→le (a % b * 2) b) (nleb→lt (a % b * 2) b) (eqb→eq (a % b * 2) b)
  where
    go : (o : Ordering) → (T (is_le o) → a % b * 2 ≤ b) → (T (not (is_le o)) → b < a % b * 2) → (T (compare_is_eq o) → a % b * 2 ≡ b)
        → abs_diff (nearest (a / b) o * b) a * 2 ≤ b
    go Ordering.lt h k e = round-down (a / b) (a % b) a b (div-add-mod' a b) (h tt)
    go Ordering.eq h k e = round-tie (a / b % 2) (a / b) (a % b) a b (omega arith) (div-add-mod' a b) (mod-lt a B) (e tt)
    go Ordering.gt h k e = round_up (a / b) (a % b) a b (div-add-mod' a b) (mod-lt a B) (le_of_lt (k tt))

-- ---- a fraction a / c in the normal range: off by one part in 2 ^ prec at most, in units of the format's smallest value

leading-place : (z p : ℕ) → 0 < p → p ≤ z → p - 1 + (z - p) < z
leading-place z p P h = omega arith

pow-double : (p : ℕ) → 0 < p → 2 ^ p ≡ 2 * 2 ^ (p - 1)
pow-double p P = let e : p ≡ 1 + (p - 1) = omega arith in ap (λ (x : ℕ). 2 ^ x) e ∙ pow-add 2 1 (p - 1)

-- off by half a unit u at most, where n is at least h units: off by one part in 2 * h at most
relative : (x u h n t : ℕ) → x * 2 ≤ u → u * h ≤ n → t ≡ 2 * h → x * t ≤ n
relative x u h n t a b e = rw e (omega (arith, mul-le-mul_right h a))

grid-near : (f : Format) (a c : ℕ) → 0 < c → prec f ≤ size (a * 2 ^ low f / c) → abs_diff (grid f a c * c) (a * 2 ^ low f) * 2 ^ prec f ≤ a * 2 ^ low f
grid-near f a c C N =
    let p = prec f in
    let P : 0 < p = two-le_pos p (two f) in
    let n = a * 2 ^ low f in
    let k = drop p n c in
    let half : abs_diff (grid f a c * c) n * 2 ≤ c * 2 ^ k = rw (mul_assoc, mul_comm (2 ^ k) c) (closest-near n (c * 2 ^ k) (mul-pos C (pow_pos k))) in
    let lead : 2 ^ (p - 1 + k) * c ≤ n = (le-div_iff_mul-le C).0 (size_reaches (n / c) (p - 1 + k) (leading-place (size (n / c)) p P N)) in
    relative (abs_diff (grid f a c * c) n) (c * 2 ^ k) (2 ^ (p - 1)) n (2 ^ p) half
    (simp (mul_assoc, mul_comm) (simp (pow-add, mul_assoc, mul_comm, mul_left_comm) at lead)) (pow-double p P)

-- ---- the quotient of two whole numbers up to 2 ^ prec is in the normal range, and below an infinity

prec-low : (f : Format) → prec f - 1 + prec f ≤ low f
prec-low binary32 = lit≤ tt
prec-low binary64 = lit≤ tt

prec-emax : (f : Format) → prec f + 2 ≤ suc (emax f)
prec-emax binary32 = lit≤ tt
prec-emax binary64 = lit≤ tt

quotient-normal : (f : Format) (n d : ℕ) → 0 < n → 0 < d → d ≤ 2 ^ prec f → prec f ≤ size (n * 2 ^ low f / d)
quotient-normal f n d N D h =
    normal_of_fraction f n d D
    (le_trans (mul-le-mul_left (2 ^ (prec f - 1)) h)
    (le_trans (le_of_eq (sym (pow-add 2 (prec f - 1) (prec f))))
    (le_trans (pow_mono (prec-low f)) (omega (arith, mul-le-mul_right (2 ^ low f) N)))))

-- g * d is off n by one part in t at most, so g is 2 * n at most
at-most-double : (g d n t : ℕ) → 0 < d → 0 < t → abs_diff (g * d) n * t ≤ n → g ≤ 2 * n
at-most-double g d n t D H h = omega (arith, mul-le-mul_left g D, mul-le-mul_left (abs_diff (g * d) n) H)

below-overflow : (g n l t o : ℕ) → g ≤ 2 * (n * l) → n ≤ t → 0 < l → 0 < t → l * (t * 4) ≤ o → g < o
below-overflow g n l t o h k L H u = omega (arith, mul-le-mul_right l k, mul-pos H L)

quotient-finite : (f : Format) (n d : ℕ) → 0 < n → n ≤ 2 ^ prec f → 0 < d → d ≤ 2 ^ prec f → grid f n d < overflow f
quotient-finite f n d N k D h =
    let t = 2 ^ prec f in
    let l = 2 ^ low f in
    below-overflow (grid f n d) n l t (overflow f)
    (at-most-double (grid f n d) d (n * l) t D (pow_pos (prec f)) (grid-near f n d D (quotient-normal f n d N D h))) k (pow_pos (low f)) (pow_pos (prec f))
    (rw (← pow-add 2 (prec f) 2, ← pow-add 2 (low f) (prec f + 2)) (pow_mono (omega (arith, prec-emax f))))

-- ---- what is known of a fraction g / c, said of the float that equals it

abs_diff-mul : (k a b : ℕ) → k * abs_diff a b ≡ abs_diff (k * a) (k * b)
abs_diff-mul k a b = simp (mul-add, mul-sub)

abs_diff-cross : (v c g e d n : ℕ) → v * c ≡ g * e → c * abs_diff (v * d) (n * e) ≡ e * abs_diff (g * d) (n * c)
abs_diff-cross v c g e d n h =
    abs_diff-mul c (v * d) (n * e)
    ∙ ap₂ abs_diff (omega (arith, ap (λ (z : ℕ). z * d) h)) (omega arith)
    ∙ sym (abs_diff-mul e (g * d) (n * c))

le-cross : (x y c e n t : ℕ) → 0 < c → c * x ≡ e * y → y * t ≤ n * c → x * t ≤ n * e
le-cross x y c e n t C q h = le_of_mul-le-mul_right (omega (arith, ap (λ (z : ℕ). z * t) q, mul-le-mul_left e h)) C

within_of : (n d g c : ℕ) (x : Float) → 0 < c → HasValue x false g c → abs_diff (g * d) (n * c) * 2 ^ 53 ≤ n * c → T (within n d x)
within_of n d g c x C v h =
    let (m, e, p, q) = shape x false g c v in
    rw p
    (le→leb (abs_diff (m * up e * d) (n * down e) * 2 ^ 53) (n * down e)
    (le-cross (abs_diff (m * up e * d) (n * down e)) (abs_diff (g * d) (n * c)) c (down e) n (2 ^ 53) C
    (abs_diff-cross (m * up e) c g (down e) d n q) h))

equals-of : (q : ℕ) (x : Float) → HasValue x false q 1 → T (equals q x)
equals-of q x v = let (m, e, p, h) = shape x false q 1 v in rw p (eq→eqb (sym (mul-one (m * up e)) ∙ h))

-- ---- the quotient

div_is : (f : Format) (x y : Float) (a b : ℕ) → 0 < b → HasValue x false a 1 → HasValue y false b 1 → div f x y ≡ round f false a b
unfolding div
div_is f x y a b B v w =
    let (m, e, p, i) = shape x false a 1 v in
    let (n, d, q, j) = shape y false b 1 w in
    let N : 0 < n = first_pos n (up d) (omega (arith, mul-pos B (down_pos d))) in
    rw (p, q, ne_eqb n 0 (omega arith))
    (round_same f false (m * up e * down d) (n * up d * down e) a b (mul-pos (mul-pos N (up_pos d)) (down_pos e)) B
    (omega (arith, ap (λ (z : ℕ). z * (down d * b)) i, ap (λ (z : ℕ). a * z * down e) j)))

zero-near : (d t : ℕ) → abs_diff (0 * d) (0 * 1) * t ≤ 0 * 1
zero-near d t = simp zero-mul (le_refl 0)

round-near : (n d : ℕ) → n ≤ 2 ^ 53 → 0 < d → d ≤ 2 ^ 53 → T (within n d (round binary64 false n d))
round-near zero d k D h =
    rw (round_same binary64 false 0 d 0 1 D (pow_pos 0) (simp zero-mul))
    (within_of 0 d 0 1 (round binary64 false 0 1) (pow_pos 0) (round_whole binary64 false 0 k) (zero-near d (2 ^ 53)))
round-near (suc n) d k D h =
    let N = zero-lt-suc n in
    within_of (suc n) d (grid binary64 (suc n) d) (2 ^ low binary64) (round binary64 false (suc n) d) (pow_pos (low binary64))
    (round_val binary64 (suc n) d (quotient-finite binary64 (suc n) d N k D h))
    (grid-near binary64 (suc n) d D (quotient-normal binary64 (suc n) d N D h))

module _ (n d : ℕ) (k : n ≤ 2 ^ 53) (D : 0 < d) (h : d ≤ 2 ^ 53) where
  is-round : div binary64 (float n) (float d) ≡ round binary64 false n d
  is-round = div_is binary64 (float n) (float d) n d D (float_value n k) (float_value d h)

  pub near : T (within n d (div binary64 (float n) (float d)))
  near = rw is-round (round-near n d k D h)

  pub exact : (q : ℕ) → n ≡ q * d → T (equals q (div binary64 (float n) (float d)))
  exact q e =
      rw (is-round, round_same binary64 false n d q 1 D (pow_pos 0) (mul-one n ∙ e))
      (equals-of q (round binary64 false q 1) (round_whole binary64 false q (omega (arith, mul-le-mul_left q D))))
