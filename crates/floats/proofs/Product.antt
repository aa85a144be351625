-- The product of a float that has few digits and a whole number is exact, in either format.
use mathlib.Core.Path.{◌≡◌, refl, sym, ap, ◌∙◌}
use mathlib.Core.Bool.{Bool, true, false}
use Prim.Native.Nat.{ℕ, ◌-◌, ◌*◌, ◌^◌, ◌≤◌, ◌<◌}
use native.Mathlib.Nat.{lt_of_lt_of_le, mul-pos}
use native.Mathlib.Omega.{arith}
use lib.Pow.{pow-add, pow_mono, shl_lt}
use lib.Ieee.{Float, Format, prec, low, unlike, up, down, mul}
use lib.Ieee.Digits.{back}
use lib.Ieee.Fits.{reach, down_pos}
use Rattle.floats.proofs.Whole.{shape}
use lib.Ieee.Exact.{HasValue, round_exact}
use lib.Ieee.Scale.{round_same}

unlike-false : (s : Bool) → unlike s false ≡ s
unlike-false true = refl
unlike-false false = refl

-- x is a / c, which is k / 2 ^ i, and k * n has few enough digits: x * n is exact
pub mul-exact : (f : Format) (x y : Float) (s : Bool) (a c n i k : ℕ) → 0 < c → HasValue x s a c → HasValue y false n 1
    → a * 2 ^ i ≡ k * c → i ≤ low f → k * n < 2 ^ prec f → HasValue (mul f x y) s (a * n) c
unfolding mul
mul-exact f x y s a c n i k C v w h l r =
    let (m, e, p, u) = shape x s a c v in
    let (b, g, q, t) = shape y false n 1 w in
    let j = low f - i in
    let same : m * up e * (b * up g) * c ≡ a * n * (down e * down g) = omega (arith, ap (λ (z : ℕ). z * (b * up g)) u, ap (λ (z : ℕ). a * down e * z) t) in
    rw (p, q, unlike-false s, round_same f s (m * up e * (b * up g)) (down e * down g) (a * n) c (mul-pos (down_pos e) (down_pos g)) C same)
    (round_exact f s (a * n) c (k * n) j C r
    (lt_of_lt_of_le (shl_lt (prec f) j r) (pow_mono (omega (arith, reach f))))
    (ap (λ (z : ℕ). a * n * 2 ^ z) (sym (back (low f) i l)) ∙ ap (λ (z : ℕ). a * n * z) (pow-add 2 j i) ∙ omega (arith, ap (λ (z : ℕ). z * (n * 2 ^ j)) h)))
