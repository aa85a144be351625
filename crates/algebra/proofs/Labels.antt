-- Results read off the labels of instants.
use mathlib.Core.Path.{◌≡◌, refl, sym, ◌∙◌, ap}
use mathlib.Core.Logic.{◌↔◌}
use mathlib.Core.Option.{Option, none, some, map, map-eq-some_iff}
use Prim.Native.Nat.{ℕ, ◌*◌}
use native.Mathlib.Omega.{arith}
use lib.IntN.{ℤ, pos, ◌+ℤ◌}
use lib.Signed.{◌≤ℤ◌}
use Rattle.integers.proofs.Linear.{ints, ◌∴◌}
use Rattle.calendar.specs.Meaning.{Calendar, Has, Ordered, Repeats, raise}
use Rattle.calendar.specs.Lists.{on_label}
use Rattle.granules.proofs.Tests.{some_inj, none≢some}
use Rattle.granules.proofs.Calendars.{repeats_many}

-- a calendar repeats after k periods
pub repeats-times : (c : Calendar) (P N : ℕ) → Repeats P N c → (k : ℕ) → Repeats (P * k) (N * k) c
repeats-times c P N r k t = repeats_many c P N r (pos k) t

pub on_label-iff : (o : Option ℤ) (f : ℤ → Option ℤ) (i : ℤ) → (on_label o f ≡ some i) ↔ ((j : ℤ) × (o ≡ some j) × (f j ≡ some i))
on_label-iff none f i = (λ e. absurd (none≢some e), λ h. absurd (none≢some h.1))
on_label-iff (some j) f i = (λ e. (j, refl, e), λ h. ap f (some_inj h.1) ∙ h.2)

-- ---- f of each label

pub mapped-iff : (f : ℤ → ℤ) (o : Option ℤ) (i : ℤ) → (map f o ≡ some i) ↔ ((j : ℤ) × (o ≡ some j) × (i ≡ f j))
mapped-iff f o i =
    let m = map-eq-some_iff f o {b = i} in
    (λ e. let h = m.0 e in (h.0, h.1, sym h.2), λ h. m.1 (h.0, h.1, sym h.2))

-- what is asked of f is asked at labels alone
module _ (f : ℤ → ℤ) (c : Calendar) where
  pub mapped-ordered : ((i j : ℤ) → Has c i → Has c j → i ≤ℤ j → f i ≤ℤ f j) → Ordered c → Ordered (λ t. map f (c t))
  mapped-ordered mono o s t i j h e g =
      let x = (mapped-iff f (c s) i).0 e in
      let y = (mapped-iff f (c t) j).0 g in
      mono x.0 y.0 (s, x.1) (t, y.1) (o s t x.0 y.0 h x.1 y.1) ∴ x.2 ∴ y.2 ∴ simp ints (omega arith)

  -- where f rises by m as a label rises by n
  pub mapped-repeats : (P n m : ℕ) → ((j : ℤ) → Has c j → f (j +ℤ pos n) ≡ f j +ℤ pos m) → Repeats P n c → Repeats P m (λ t. map f (c t))
  mapped-repeats P n m step repeats t = ap (map f) (repeats t) ∙ by (c t) refl
    where
      by : (o : Option ℤ) → c t ≡ o → map f (raise (pos n) o) ≡ raise (pos m) (map f o)
      by none e = refl
      by (some j) e = ap some (step j (t, e))
