-- Tests that compute, and what they decide.
use mathlib.Core.Path.{◌≡◌, refl, sym, ◌∙◌, ap, subst}
use mathlib.Core.Logic.Iff
use mathlib.Core.Logic.{◌↔◌, ◌⊎◌, inl, inr, ⊎_elim, ⊎_map}
use mathlib.Core.Option.{Option, none, some, some-injective, none-ne-some}
use mathlib.Core.Bool.{Bool, true, false, not, ◌&&◌, ◌||◌}
use lib.IntN.{ℤ, pos, negsuc, pos-ne-negsuc}
use lib.Signed.{◌≤ℤ◌, ◌<ℤ◌, le_z, lt_z}
use mir.Syntax.{Width}
use mir.Val.{SFits, of_z}
use Prim.Native.Nat.{ℕ, suc, ◌≤◌, ◌<◌}
use lib.Dec.{T, eqb, leb, ltb, eqb→eq, eqb_refl, leb→le, le→leb}
use Rattle.integers.proofs.Machine.{test-le, test-lt, test-eq}
use Rattle.calendar.specs.Limits.{between}
use Rattle.calendar.specs.Lists.{equal, is, is_some, same_label, if_label, only}

-- ---- booleans

pub true-or-false : (b : Bool) → (b ≡ true) ⊎ (b ≡ false)
true-or-false true = inl refl
true-or-false false = inr refl

pub true≢false : {b : Bool} → b ≡ true → b ≡ false → ⊥
true≢false p q = subst T (sym p ∙ q) tt

-- a test, as a path and as a type
pub true-iff : (b : Bool) → (b ≡ true) ↔ T b
true-iff true = (λ e. tt, λ t. refl)
true-iff false = (λ e. absurd (true≢false e refl), λ t. absurd t)

pub and-iff : (a b : Bool) → (a && b ≡ true) ↔ ((a ≡ true) × (b ≡ true))
and-iff true b = (λ e. (refl, e), λ p. p.1)
and-iff false b = (λ e. absurd (true≢false e refl), λ p. p.0)

pub or-iff : (a b : Bool) → (a || b ≡ true) ↔ ((a ≡ true) ⊎ (b ≡ true))
or-iff true b = (λ e. inl refl, λ p. refl)
or-iff false b = (λ e. inr e, ⊎_elim (λ e. absurd (true≢false e refl)) (λ e. e))

pub not_iff : (a : Bool) → (not a ≡ true) ↔ (a ≡ false)
not_iff true = (sym, sym)
not_iff false = (λ e. refl, λ e. refl)

-- a test that decides A fails exactly where A does not hold
pub false-iff : {A : Type 0} {b : Bool} → (b ≡ true) ↔ A → (b ≡ false) ↔ (¬ A)
false-iff {A} {b} h = (λ e a. true≢false (h.1 a) e, λ f. by (true-or-false b) f)
  where
    by : (b ≡ true) ⊎ (b ≡ false) → ¬ A → b ≡ false
    by (inl e) f = absurd (f (h.0 e))
    by (inr e) f = e

-- tests in one, of what each decides
pub both_iff : {a b : Bool} {A B : Type 0} → (a ≡ true) ↔ A → (b ≡ true) ↔ B → (a && b ≡ true) ↔ (A × B)
both_iff {a} {b} f g = Iff.trans (and-iff a b) (Iff.and f g)

pub implies-iff : {a b : Bool} {A B : Type 0} → (a ≡ true) ↔ A → (b ≡ true) ↔ B → (not a || b ≡ true) ↔ (A → B)
implies-iff {a = true} f g = (λ e x. g.0 e, λ h. g.1 (h (f.0 refl)))
implies-iff {a = false} f g = (λ e x. absurd (true≢false (f.1 x) refl), λ h. refl)

-- two tests that decide the same are equal
pub test-ext : {a b : Bool} → (a ≡ true → b ≡ true) → (b ≡ true → a ≡ true) → a ≡ b
test-ext {a = true} {b} f g = sym (f refl)
test-ext {a = false} {b = true} f g = g refl
test-ext {a = false} {b = false} f g = refl

pub decided : {A : Type 0} {b : Bool} → (b ≡ true) ↔ A → A ⊎ (¬ A)
decided {b} h = ⊎_map h.0 (false-iff h).0 (true-or-false b)

-- ---- naturals

pub eqb-iff : (m n : ℕ) → (eqb m n ≡ true) ↔ (m ≡ n)
eqb-iff m n = (λ e. eqb→eq m n ((true-iff (eqb m n)).0 e), λ e. subst (λ (k : ℕ). eqb m k ≡ true) e ((true-iff (eqb m m)).1 (eqb_refl m)))

pub leb-iff : (m n : ℕ) → (leb m n ≡ true) ↔ (m ≤ n)
leb-iff m n = (λ e. leb→le m n ((true-iff (leb m n)).0 e), λ h. (true-iff (leb m n)).1 (le→leb m n h))

pub ltb_iff : (m n : ℕ) → (ltb m n ≡ true) ↔ (m < n)
ltb_iff m n = leb-iff (suc m) n

-- ---- integers and labels

pub equal-iff : (j k : ℤ) → (equal j k ≡ true) ↔ (j ≡ k)
equal-iff (pos a) (pos b) = (λ e. ap pos ((eqb-iff a b).0 e), λ e. (eqb-iff a b).1 (cc))
equal-iff (pos a) (negsuc b) = (λ e. absurd (true≢false e refl), λ e. absurd (pos-ne-negsuc a b e))
equal-iff (negsuc a) (pos b) = (λ e. absurd (true≢false e refl), λ e. absurd (pos-ne-negsuc b a (sym e)))
equal-iff (negsuc a) (negsuc b) = (λ e. ap negsuc ((eqb-iff a b).0 e), λ e. (eqb-iff a b).1 (cc))

pub le_z-iff : (j k : ℤ) → (le_z j k ≡ true) ↔ (j ≤ℤ k)
le_z-iff = test-le

pub between-iff : (lo hi z : ℤ) → (between lo hi z ≡ true) ↔ ((lo ≤ℤ z) × (z ≤ℤ hi))
between-iff lo hi z = both_iff (le_z-iff lo z) (le_z-iff z hi)

pub lt_z-iff : (j k : ℤ) → (lt_z j k ≡ true) ↔ (j <ℤ k)
lt_z-iff = test-lt

-- the machine's test of two numbers that fit compares their bits
pub bits-equal : (w : Width) (i j : ℤ) → SFits w i → SFits w j → eqb (of_z w i) (of_z w j) ≡ equal i j
bits-equal w i j f g =
    let b = eqb-iff (of_z w i) (of_z w j) in
    let e = test-eq w i j f g in
    test-ext (λ h. (equal-iff i j).1 (e.0 (b.0 h))) (λ h. b.1 (e.1 ((equal-iff i j).0 h)))

pub some_inj : {j k : ℤ} → some j ≡ some k → j ≡ k
some_inj {j} {k} e = some-injective j k e

pub none≢some : {j : ℤ} → none ≡ some j → ⊥
none≢some {j} e = none-ne-some j e

-- an instant is labelled or not
pub none_or_some : (o : Option ℤ) → (o ≡ none) ⊎ ((j : ℤ) × (o ≡ some j))
none_or_some none = inl refl
none_or_some (some j) = inr (j, refl)

pub is_some-iff : (o : Option ℤ) → (is_some o ≡ true) ↔ ((j : ℤ) × (o ≡ some j))
is_some-iff none = (λ e. absurd (true≢false e refl), λ h. absurd (none≢some h.1))
is_some-iff (some j) = (λ e. (j, refl), λ h. refl)

pub is-iff : (j : ℤ) (o : Option ℤ) → (is j o ≡ true) ↔ (o ≡ some j)
is-iff j none = (λ e. absurd (true≢false e refl), λ e. absurd (none≢some e))
is-iff j (some k) = (λ e. sym (ap {B = Option ℤ} some ((equal-iff j k).0 e)), λ e. (equal-iff j k).1 (sym (some_inj e)))

pub same_label-iff : (o p : Option ℤ) → (same_label o p ≡ true) ↔ (o ≡ p)
same_label-iff none none = (λ e. refl, λ e. refl)
same_label-iff none (some k) = (λ e. absurd (true≢false e refl), λ e. absurd (none≢some e))
same_label-iff (some j) p = (λ e. sym ((is-iff j p).0 e), λ e. (is-iff j p).1 (sym e))

pub if_label-iff : (o : Option ℤ) (f : ℤ → Bool) → (if_label o f ≡ true) ↔ ((j : ℤ) → o ≡ some j → f j ≡ true)
if_label-iff none f = (λ e j h. absurd (none≢some h), λ h. refl)
if_label-iff (some j) f = (λ e k h. subst (λ (i : ℤ). f i ≡ true) (some_inj h) e, λ h. h j refl)

pub labelled-iff : {P : ℤ → Type 0} (o : Option ℤ) (f : ℤ → Bool) → ((j : ℤ) → (f j ≡ true) ↔ P j)
    → (if_label o f ≡ true) ↔ ((j : ℤ) → o ≡ some j → P j)
labelled-iff o f h = (λ e j p. (h j).0 ((if_label-iff o f).0 e j p), λ g. (if_label-iff o f).1 (λ j p. (h j).1 (g j p)))

pub only-iff : (j k : ℤ) (b : Bool) → (only j b ≡ some k) ↔ ((j ≡ k) × (b ≡ true))
only-iff j k true = (λ e. (some_inj e, refl), λ h. ap {B = Option ℤ} some h.0)
only-iff j k false = (λ e. absurd (none≢some e), λ h. absurd (true≢false h.1 refl))

-- two labels are the same where each is found in the other
pub label-ext : {o p : Option ℤ} → ((j : ℤ) → (o ≡ some j) ↔ (p ≡ some j)) → o ≡ p
label-ext {o = none} {p = none} h = refl
label-ext {o = none} {p = some k} h = (h k).1 refl
label-ext {o = some j} {p} h = sym ((h j).0 refl)
