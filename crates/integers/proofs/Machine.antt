-- What a need says of signed integers, in plain terms. A need speaks of `to_z w (of_z w x)`, the number read back from the bits of x, and of a test's outcome, `lt_z x y ≡ true`.
--     simp plain t, simp plain at h      x for `to_z w (of_z w x)`, `pos n` for `to_z w n` of an unsigned n, and an order for an outcome
--     h ∴ simp (plain, ints) (omega arith)      the same, and then as `Linear` says. An equation e of one's own goes before `ints`: `simp (plain, e, ints)`
-- It asks that x fits, and that n is below the half, as `n < 2 ^ 63`. `simp` finds that among the variables in scope, so a proof says `let x = c.fits.x in` first; of a quotient, a remainder and a widened number it follows by the set's own lemmas.
-- Those lemmas are `abbrev`: a set's member that is no equation and that a call does not use is taken for a definition to open.
-- Assumes nothing.
use mathlib.Core.Path.{◌≡◌, refl, sym, ◌∙◌, ap, subst}
use mathlib.Core.Logic.{◌↔◌}
use mathlib.Core.Bool.{Bool, true, false, not}
use Prim.Native.Nat.{ℕ, suc}
use native.Mathlib.Nat.{div-le_self}
use native.Mathlib.Omega.{arith}
use lib.IntN.{ℤ, pos, negsuc}
use lib.Dec.{T}
use lib.Signed.{◌≤ℤ◌, ◌<ℤ◌, le_z, lt_z, le_z_yes, lt_z_yes, lt_z_no, clash_ℤ, quot_z, rem_z, mag_rem}
use mir.Syntax.{Width, w32, w64}
use mir.Val.{SFits, of_z, to_z}
use mir.Facts.{sfits_widen}
use mir.ValLaws.{to_z-of_z, to_z_pos, sfits_le}
use Rattle.integers.proofs.Linear.{ints}

-- ---- the tests of the order
is_true : (b : Bool) → T b → b ≡ true
is_true true t = refl
is_true false t = absurd t

is_false : (b : Bool) → (T b → ⊥) → b ≡ false
is_false true f = absurd (f tt)
is_false false f = refl

pub test-lt : (x y : ℤ) → (lt_z x y ≡ true) ↔ (x <ℤ y)
test-lt x y = (λ e. lt_z_yes (subst T (sym e) tt), λ h. is_true (lt_z x y) h.lt)

pub test-le : (x y : ℤ) → (le_z x y ≡ true) ↔ (x ≤ℤ y)
test-le x y = (λ e. le_z_yes (subst T (sym e) tt), λ h. is_true (le_z x y) h.le)

pub test-not-lt : (x y : ℤ) → (lt_z x y ≡ false) ↔ (y ≤ℤ x)
test-not-lt x y = (λ e. lt_z_no (subst (λ (b : Bool). T (not b)) (sym e) tt), λ h. is_false (lt_z x y) (λ t. clash_ℤ (lt_z_yes t) h))

pub test-not-le : (x y : ℤ) → (le_z x y ≡ false) ↔ (y <ℤ x)
test-not-le x y = (λ e. by (lt_z y x) refl e, λ h. is_false (le_z x y) (λ t. clash_ℤ h (le_z_yes t)))
  where
    by : (b : Bool) → lt_z y x ≡ b → le_z x y ≡ false → y <ℤ x
    by true p e = lt_z_yes (subst T (sym p) tt)
    by false p e = absurd (subst T e ((test-not-lt y x).0 p).le)

-- `==` compares the bits
pub test-eq : (w : Width) (x y : ℤ) → SFits w x → SFits w y → (of_z w x ≡ of_z w y) ↔ (x ≡ y)
test-eq w x y f g = (λ e. sym (to_z-of_z w x f) ∙ ap (to_z w) e ∙ to_z-of_z w y g, λ e. ap (of_z w) e)

-- ---- what fits
abbrev pub widened : {z : ℤ} → SFits w32 z → SFits w64 z
widened f = sfits_widen tt f

abbrev pub quot_fits : {w : Width} {t p : ℤ} → SFits w t → pos 0 <ℤ p → SFits w (quot_z t p)
quot_fits {t = pos a} {p = pos n} f h = simp ints (omega (arith, simp ints at f, div-le_self a n))
quot_fits {t = negsuc a} {p = pos n} f h = simp ints (omega (arith, simp ints at f, div-le_self (suc a) n))
quot_fits {p = negsuc n} f h = absurd h.lt

abbrev pub rem-fits : {w : Width} {t : ℤ} (p : ℤ) → SFits w t → SFits w (rem_z t p)
rem-fits {t} p f = sfits_le (mag_rem t p) f

-- an invariant meets a signed local as its bits: b are the bits of z, which fits
pub record Bits (w : Width) (b : ℕ) (z : ℤ) : Type 0 where
  pub fits : SFits w z
  pub is : b ≡ of_z w z

pub bits-read : {w : Width} {b : ℕ} {z : ℤ} → Bits w b z → to_z w b ≡ z
bits-read {w} {b} {z} h = ap (to_z w) h.is ∙ to_z-of_z w z h.fits

pub ruleset plain = (to_z-of_z, to_z_pos, test-lt, test-le, test-not-lt, test-not-le, test-eq, widened, quot_fits, rem-fits)
