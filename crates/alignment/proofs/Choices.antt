-- The tests of two instants by the outcomes of their parts.
-- Assumes nothing.
use mathlib.Core.Path.{◌≡◌, refl, sym, ◌∙◌, ap, ap₂}
use mathlib.Core.Option.{Option, none, some}
use mathlib.Core.Bool.{Bool, true, false, not, ◌&&◌, ◌||◌, cond}
use lib.IntN.{ℤ}
use lib.Signed.{lt_z}
use Rattle.calendar.specs.Lists.{equal, is, is_some, same_label}
use Rattle.granules.proofs.Tests.{true≢false}
use Rattle.alignment.specs.Fits.{fits_partition, fits_subcalendar, crosses, agree, fits_compatible}

-- an outcome that is r is b
pub outcome : {r x b : Bool} → r ≡ x → r ≡ b → x ≡ b
outcome e h = sym e ∙ h

-- two labels are compared, and agree where one is missing
pub agree-both : (x y : Option ℤ) → is_some x ≡ true → is_some y ≡ true → agree x y ≡ same_label x y
agree-both none y p q = absurd (true≢false p refl)
agree-both (some i) none p q = absurd (true≢false q refl)
agree-both (some i) (some j) p q = refl

pub agree-first : (x y : Option ℤ) → is_some x ≡ false → agree x y ≡ true
agree-first none y p = refl
agree-first (some i) y p = absurd (true≢false refl p)

pub agree-second : (x y : Option ℤ) → is_some y ≡ false → agree x y ≡ true
agree-second none y p = refl
agree-second (some i) none p = refl
agree-second (some i) (some j) p = absurd (true≢false refl p)

module _ (o p x y : Option ℤ) where
  pub partition-at : (a b s q : Bool) → is_some x ≡ a → is_some y ≡ b → same_label o x ≡ s → same_label p y ≡ q → fits_partition o p x y ≡ cond a (b && (not s || q)) (not b)
  partition-at a b s q ea eb es eq =
      ap₂ (λ (a b : Bool). cond a (b && (not (same_label o x) || same_label p y)) (not b)) ea eb
      ∙ ap₂ (λ (s q : Bool). cond a (b && (not s || q)) (not b)) es eq

  pub subcalendar-at : (b e s q a : Bool) → is_some y ≡ b → same_label x y ≡ e → same_label o x ≡ s → is_some p ≡ q → is_some x ≡ a
      → fits_subcalendar o p x y ≡ cond b (e && (not s || q)) (not a || (not s || not q))
  subcalendar-at b e s q a eb ee es eq ea =
      ap₂ (λ (b e : Bool). cond b (e && (not (same_label o x) || is_some p)) (not (is_some x) || (not (same_label o x) || not (is_some p)))) eb ee
      ∙ ap₂ (λ (s q : Bool). cond b (e && (not s || q)) (not (is_some x) || (not s || not q))) es eq
      ∙ ap (λ (a : Bool). cond b (e && (not s || q)) (not a || (not s || not q))) ea

  pub compatible-at : (a b e : Bool) → agree x y ≡ a → crosses o p x y ≡ b → crosses p o y x ≡ e → fits_compatible o p x y ≡ a && (b && e)
  compatible-at a b e ea eb ee = ap₂ (λ (a b : Bool). a && (b && crosses p o y x)) ea eb ∙ ap (λ (e : Bool). a && (b && e)) ee

  pub crosses-at : (i j : ℤ) (l e s q : Bool) → o ≡ some i → y ≡ some j → lt_z i j ≡ l → equal i j ≡ e → is i p ≡ s → is i x ≡ q
      → crosses o p x y ≡ l || (e && (s && q))
  crosses-at i j l e s q oi yj el ee es eq =
      ap₂ (λ (m n : Option ℤ). crosses m p x n) oi yj
      ∙ ap₂ (λ (l e : Bool). l || (e && (is i p && is i x))) el ee
      ∙ ap₂ (λ (s q : Bool). l || (e && (s && q))) es eq
