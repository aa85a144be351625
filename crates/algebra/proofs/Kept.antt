-- Results that keep some of a calendar's labels: the granules whose labels pass a test.
use mathlib.Core.Path.{◌≡◌, refl, sym, ◌∙◌, ap}
use mathlib.Core.Logic.{◌↔◌}
use mathlib.Core.Option.{Option, none, some}
use mathlib.Core.Bool.{Bool, true, false}
use Prim.Native.Nat.{ℕ}
use lib.IntN.{ℤ, pos, ◌+ℤ◌}
use Rattle.calendar.specs.Meaning.{Calendar, raise, Ordered, Repeats}
use Rattle.calendar.specs.Lists.{on_label, only}
use Rattle.granules.proofs.Tests.{some_inj, none≢some, only-iff}

-- the label where it passes the test
abbrev pub kept_label : (ℤ → Bool) → Option ℤ → Option ℤ
kept_label k o = on_label o λ j. only j (k j)

pub kept_label-iff : (k : ℤ → Bool) (o : Option ℤ) (j : ℤ) → (kept_label k o ≡ some j) ↔ ((o ≡ some j) × (k j ≡ true))
kept_label-iff k none j = (λ e. absurd (none≢some e), λ h. absurd (none≢some h.0))
kept_label-iff k (some i) j = (
  λ e. let h = (only-iff i j (k i)).0 e in (ap {B = Option ℤ} some h.0, ap k (sym h.0) ∙ h.1),
  λ h. (only-iff i j (k i)).1 (some_inj h.0, ap k (some_inj h.0) ∙ h.1),
)

raise-only : (n j : ℤ) (b : Bool) → only (j +ℤ n) b ≡ raise n (only j b)
raise-only n j true = refl
raise-only n j false = refl

kept_label-raised : (k : ℤ → Bool) (n : ℤ) → ((j : ℤ) → k (j +ℤ n) ≡ k j) → (o : Option ℤ) → kept_label k (raise n o) ≡ raise n (kept_label k o)
kept_label-raised k n h none = refl
kept_label-raised k n h (some j) = ap (only (j +ℤ n)) (h j) ∙ raise-only n j (k j)

-- the calendar of the granules kept
abbrev pub kept : Calendar → (ℤ → Bool) → Calendar
kept c k t = kept_label k (c t)

module _ (c : Calendar) (k : ℤ → Bool) where
  pub kept-iff : (t j : ℤ) → (kept c k t ≡ some j) ↔ ((c t ≡ some j) × (k j ≡ true))
  kept-iff t j = kept_label-iff k (c t) j

  pub kept-ordered : Ordered c → Ordered (kept c k)
  kept-ordered o s t i j h e f = o s t i j h ((kept-iff s i).0 e).0 ((kept-iff t j).0 f).0

  -- a test that repeats with the rise of the labels
  pub kept-repeats : (S n : ℕ) → Repeats S n c → ((j : ℤ) → k (j +ℤ pos n) ≡ k j) → Repeats S n (kept c k)
  kept-repeats S n r h t = ap (kept_label k) (r t) ∙ kept_label-raised k (pos n) h (c t)
