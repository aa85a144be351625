-- The words of the contracts, said of floats: what each test of the code comes to.
use mathlib.Core.Path.{◌≡◌, refl, sym, ◌∙◌, ap}
use mathlib.Core.Bool.{Bool, true, false, not, ◌&&◌, true≢false, false≢true}
use Prim.Native.Nat.{ℕ, zero, suc, ◌*◌, ◌/◌, ◌%◌, ◌^◌, ◌≤◌}
use native.Mathlib.Nat.{lt_of_le_of_lt, le_of_mul-le-mul_right, mul-one, one-mul, mul-pos, mul-le-mul, div-mul_cancel, dvd_of_mod-eq-zero}
use native.Mathlib.Omega.{arith}
use lib.IntN.{pos, negsuc}
use lib.Dec.{T, leb, eqb, leb→le, lit≤, eqb→eq, eqb-suc-zero}
use lib.Pow.{pow_pos}
use borrow.Author.Tests.{le-leb, eq-eqb, ne_eqb}
use lib.Ieee.{Float, nan, inf, fin, binary64, up, down, mul, rem, lt, le, eq, ne, fits}
use lib.Ieee.Fits.{up_pos, down_pos, and_l, and_r}
use lib.Ieee.Exact.{HasValue}
use lib.Ieee.Positive.{num, den, den_pos}
use Rattle.floats.specs.Near.{float}
use Rattle.floats.specs.Allowance.{amount, share, positive_share}
use Rattle.floats.proofs.Whole.{float_value}
use Rattle.floats.proofs.Compare.{signed_le, le-fractions, eq-zero, mul-eq-zero}
use Rattle.floats.proofs.Product.{mul-exact}
use Rattle.floats.proofs.Remainder.{rem-exact}

-- 0, 1 and 1 / 256
abbrev pub positive-zero : Float
positive-zero = fin false 0 (pos 0)

abbrev pub one : Float
one = fin false 1 (pos 0)

abbrev pub unit : Float
unit = fin false 1 (negsuc 7)

-- ---- `p && q` in code, which is r: q where p holds, and p where it does not
pub and_then : (p q : Bool) {r : Bool} → r ≡ (p && q) → p ≡ true → q ≡ r
and_then true q e h = sym e
and_then false q e h = absurd (false≢true h)

pub and-else : (p q : Bool) {r : Bool} → r ≡ (p && q) → p ≡ false → p ≡ r
and-else true q e h = absurd (true≢false h)
and-else false q e h = sym e

-- ---- an amount equals its own fraction, and only a zero has the sign true
abbrev pub sign : Float → Bool
sign nan = false
sign (inf s) = s
sign (fin s m e) = s

pub amount-value : (v : Float) → T (amount v) → HasValue v (sign v) (num v) (den v)
unfolding amount
amount-value nan a = absurd a
amount-value (inf s) a = absurd a
amount-value (fin s m e) a = (refl, refl)

pub negative-zero : (v : Float) → T (amount v) → T (sign v) → num v ≡ 0
unfolding amount
negative-zero nan a t = absurd a
negative-zero (inf s) a t = absurd a
negative-zero (fin true m e) a t = mul-eq-zero m (up e) (eqb→eq m 0 a)
negative-zero (fin false m e) a t = absurd t

-- ---- the tests of `is_amount` and `is_share`
pub amount-tests : (v : Float) → amount v ≡ le positive-zero v && lt v (inf false)
unfolding amount le lt
amount-tests nan = refl
amount-tests (inf true) = refl
amount-tests (inf false) = refl
amount-tests (fin false m e) = rw (signed_le false false (0 * down e) (m * up e * 1) absurd absurd, le-leb (0 * down e) (m * up e * 1) (omega arith))
amount-tests (fin true zero e) = rw (eq-eqb (0 * down e) (0 * up e * 1) (omega arith), eq-eqb (0 * down e) 0 (omega arith))
amount-tests (fin true (suc m) e) = rw (eqb-suc-zero m, ne_eqb (0 * down e) (suc m * up e * 1) (omega (arith, up_pos e)))

pub le-one : (v : Float) → T (amount v) → le v one ≡ leb (num v) (den v)
le-one v a =
    le-fractions v one (sign v) false (num v) (den v) 1 1 (den_pos v) (pow_pos 0) (amount-value v a) (refl, refl) (negative-zero v a) absurd
    ∙ simp (mul-one, one-mul)

multiple-of-unit : (v : Float) → T (amount v) → T (fits binary64 v) → eq (rem binary64 v unit) positive-zero ≡ eqb (num v * 256 % den v) 0
unfolding amount
multiple-of-unit nan a t = absurd a
multiple-of-unit (inf s) a t = absurd a
multiple-of-unit (fin s m e) a t =
    eq-zero (rem binary64 (fin s m e) unit) s (m * up e * 256 % down e) (down e * 256) (mul-pos (down_pos e) (pow_pos 8))
    (rem-exact binary64 s m e 7 t)

pub share-tests : (v : Float) → T (fits binary64 v) → share v ≡ (amount v && le v one && eq (rem binary64 v unit) positive-zero)
unfolding share
share-tests v t = go (amount v) (λ (a : T (amount v)). a)
  where
    go : (b : Bool) → (T b → T (amount v)) → (b && leb (num v) (den v) && eqb (num v * 256 % den v) 0) ≡ (b && le v one && eq (rem binary64 v unit) positive-zero)
    go true h = rw (le-one v (h tt), multiple-of-unit v (h tt) t)
    go false h = refl

-- a share that is not 0
nonzero : (v : Float) → T (share v) → not (eqb (num v) 0) ≡ ne v positive-zero
unfolding share ne
nonzero v t =
    let a = and_l (amount v) (leb (num v) (den v)) (and_l (amount v && leb (num v) (den v)) (eqb (num v * 256 % den v) 0) t) in
    ap not (sym (eq-zero v (sign v) (num v) (den v) (den_pos v) (amount-value v a)))

pub positive-share-tests : (v : Float) → positive_share v ≡ (share v && ne v positive-zero)
unfolding positive_share
positive-share-tests v = go (share v) (λ (a : T (share v)). a)
  where
    go : (b : Bool) → (T b → T (share v)) → (b && not (eqb (num v) 0)) ≡ (b && ne v positive-zero)
    go true h = nonzero v (h tt)
    go false h = refl

pub positive-share : (v : Float) → T (positive_share v) → T (share v)
unfolding positive_share
positive-share v t = and_l (share v) (not (eqb (num v) 0)) t

-- ---- lateness
pub late-fixed : (d : ℕ) (v : Float) → d ≤ 2 ^ 53 → T (amount v) → le (float d) v ≡ leb (d * den v) (num v)
late-fixed d v h a =
    le-fractions (float d) v false (sign v) d 1 (num v) (den v) (pow_pos 0) (den_pos v) (float_value d h) (amount-value v a) absurd (negative-zero v a)
    ∙ simp mul-one

module _ (v : Float) (t : T (share v)) where
  -- v is parts / 256
  abbrev parts : ℕ
  parts = num v * 256 / den v

  share-facts : T (amount v) × (num v ≤ den v) × (parts * den v ≡ num v * 256)
  unfolding share
  share-facts =
      let top = leb (num v) (den v) in
      let whole = eqb (num v * 256 % den v) 0 in
      let both : T (amount v && top) = and_l (amount v && top) whole t in
      let divides = dvd_of_mod-eq-zero (den v) (eqb→eq (num v * 256 % den v) 0 (and_r (amount v && top) whole t)) in
      (and_l (amount v) top both, leb→le (num v) (den v) (and_r (amount v) top both), div-mul_cancel (den v) divides)

  parts-le : parts ≤ 256
  parts-le = le_of_mul-le-mul_right (omega (arith, share-facts.1, share-facts.2)) (den_pos v)

  -- "so that its product with the length is exact"
  pub share-product : (n : ℕ) → n ≤ 2 ^ 44 → HasValue (mul binary64 v (float n)) (sign v) (num v * n) (den v)
  share-product n h =
      mul-exact binary64 v (float n) (sign v) (num v) (den v) n 8 parts (den_pos v)
      (amount-value v share-facts.0) (float_value n (omega arith)) (sym share-facts.2) (lit≤ tt)
      (lt_of_le_of_lt (mul-le-mul parts-le h) (lit≤ tt))

  pub late-share : (d n : ℕ) → d ≤ 2 ^ 53 → n ≤ 2 ^ 44 → le (float d) (mul binary64 v (float n)) ≡ leb (d * den v) (num v * n)
  late-share d n h k =
      le-fractions (float d) (mul binary64 v (float n)) false (sign v) d 1 (num v * n) (den v) (pow_pos 0) (den_pos v)
      (float_value d h) (share-product n k) absurd (λ (s : T (sign v)). mul-eq-zero (num v) n (negative-zero v share-facts.0 s))
      ∙ simp mul-one
