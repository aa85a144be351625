-- Whether b's granule lies in a's is the same at each of its instants, and so is the label of combine there.
-- Assumes nothing.
use mathlib.Core.Path.{◌≡◌, refl, sym, ◌∙◌, ap, ap₂}
use mathlib.Core.Option.{Option, none, some}
use mathlib.Core.Bool.{Bool, true, false}
use lib.IntN.{ℤ}
use Rattle.calendar.specs.Meaning.{Row, meant}
use Rattle.calendar.specs.Operation.Binary.{combine}
use Rattle.calendar.specs.Operation.Operation.{binary}
use Rattle.calendar.specs.Lists.{on_label, only}
use Rattle.calendar.specs.Granules.{inside}
use Rattle.calendar.specs.Compute.{result}
use Rattle.granules.specs.Valid.{Valid}
use Rattle.granules.proofs.Tests.{true≢false, test-ext}
use Rattle.granules.proofs.Inside.{inside-iff}
use Rattle.fill_by_granule.specs.Lying.{lies_in, lies_at}

pub combine-of : (a b : Row) (t : ℤ) (o p : Option ℤ) → meant b t ≡ o → meant a t ≡ p
    → result (binary combine a b) t ≡ on_label o (λ k. on_label p (λ i. only i (inside b k a i)))
unfolding result
combine-of a b t o p e f = ap₂ (λ (x : Option ℤ) (y : Option ℤ). on_label x (λ k. on_label y (λ i. only i (inside b k a i)))) e f

-- a's label, where b's granule lies in a's
kept : (a b : Row) (k : ℤ) (o : Option ℤ) → lies_in a b k o ≡ true → on_label o (λ i. only i (inside b k a i)) ≡ o
kept a b k none e = refl
kept a b k (some i) e = ap (only i) e

dropped : (a b : Row) (k : ℤ) (o : Option ℤ) → lies_in a b k o ≡ false → on_label o (λ i. only i (inside b k a i)) ≡ none
dropped a b k none e = refl
dropped a b k (some i) e = ap (only i) e

-- at an instant of b's granule k
module _ (a b : Row) (k t : ℤ) (e : meant b t ≡ some k) where
  pub combined-in : lies_at a b k t ≡ true → meant a t ≡ result (binary combine a b) t
  combined-in h = sym (combine-of a b t (some k) (meant a t) e refl ∙ kept a b k (meant a t) h)

  pub combined-out : lies_at a b k t ≡ false → none ≡ result (binary combine a b) t
  combined-out h = sym (combine-of a b t (some k) (meant a t) e refl ∙ dropped a b k (meant a t) h)

module _ (a b : Row) (v : Valid b) (k : ℤ) where
  -- where the granule lies in a's, all its instants have that label in a
  outer : (u : ℤ) → meant b u ≡ some k → (o : Option ℤ) → lies_in a b k o ≡ true → meant a u ≡ o
  outer u f none e = absurd (true≢false e refl)
  outer u f (some i) e = (inside-iff b a v k i).0 e u f

  -- the label is the same at each of its instants
  pub combined-same : (t u : ℤ) → meant b t ≡ some k → meant b u ≡ some k → result (binary combine a b) t ≡ result (binary combine a b) u
  combined-same t u e f = by (lies_at a b k t) refl
    where
      same : lies_at a b k t ≡ lies_at a b k u
      same = test-ext (λ h. ap (lies_in a b k) (outer u f (meant a t) h) ∙ h) (λ h. ap (lies_in a b k) (outer t e (meant a u) h) ∙ h)

      by : (h : Bool) → lies_at a b k t ≡ h → result (binary combine a b) t ≡ result (binary combine a b) u
      by true h = sym (combined-in a b k t e h) ∙ sym (outer u f (meant a t) h) ∙ combined-in a b k u f (sym same ∙ h)
      by false h = sym (combined-out a b k t e h) ∙ combined-out a b k u f (sym same ∙ h)
