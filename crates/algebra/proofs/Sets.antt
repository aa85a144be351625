-- Union, intersection and difference by labels.
use mathlib.Core.Path.{◌≡◌, refl, ◌∙◌, ap}
use mathlib.Core.Logic.Iff
use mathlib.Core.Logic.{◌↔◌, ◌⊎◌, inl, inr, ⊎_elim}
use mathlib.Core.Option.{Option, none, some}
use mathlib.Core.Bool.{Bool, true, not}
use Prim.Native.Nat.{ℕ, ◌/◌}
use lib.IntN.{ℤ, pos, ◌+ℤ◌}
use lib.Signed.{◌≤ℤ◌}
use Rattle.calendar.specs.Meaning.{Row, Calendar, meant, Has, raise, Ordered, Repeats}
use Rattle.calendar.specs.Operation.{SetOperation}
use Rattle.calendar.specs.Operation.SetOperation.{union, intersection, difference}
use Rattle.calendar.specs.Operation.Binary.{by-labels}
use Rattle.calendar.specs.Operation.Operation.{binary}
use Rattle.calendar.specs.Algebra.{Compatible}
use Rattle.calendar.specs.Granules.{has}
use Rattle.calendar.specs.Size.{turn, span_of, rise}
use Rattle.calendar.specs.Distance.{size}
use Rattle.calendar.specs.Compute.{result}
use Rattle.granules.specs.Valid.{Valid}
use Rattle.granules.proofs.Tests.{none≢some, not_iff, false-iff}
use Rattle.granules.proofs.Instants.{has-iff}
use Rattle.granules.proofs.Moved.{has-periods}
use Rattle.algebra.specs.Ready.{Ready, Right}
use Rattle.algebra.proofs.Span.{span-positive, rise-positive, repeats-left, repeats-right}
use Rattle.algebra.proofs.Rises.{rises-compatible}
use Rattle.algebra.proofs.Kept.{kept-iff, kept-ordered, kept-repeats}

-- ---- the labels of two calendars

-- the first label, or the second where there is none
abbrev either : Option ℤ → Option ℤ → Option ℤ
either o p = elim o [ none ↦ p | some j ↦ some j ]

either-cases : (o p : Option ℤ) (j : ℤ) → either o p ≡ some j → (o ≡ some j) ⊎ (p ≡ some j)
either-cases none p j e = inr e
either-cases (some i) p j e = inl e

-- it has all labels of both, where the two are equal if both are there
either-iff : (o p : Option ℤ) (j : ℤ) → ((i k : ℤ) → o ≡ some i → p ≡ some k → i ≡ k) → (either o p ≡ some j) ↔ ((o ≡ some j) ⊎ (p ≡ some j))
either-iff none p j h = (either-cases none p j, ⊎_elim (λ e. absurd (none≢some e)) (λ e. e))
either-iff (some i) p j h = (either-cases (some i) p j, ⊎_elim (λ e. e) (λ e. ap {B = Option ℤ} some (h i j refl e)))

either-raised : (n : ℤ) (o p : Option ℤ) → either (raise n o) (raise n p) ≡ raise n (either o p)
either-raised n none p = refl
either-raised n (some j) p = refl

module _ (a b : Calendar) where
  -- the labels of both
  abbrev both : Calendar
  both t = either (a t) (b t)

  both_ordered : Ordered a → Ordered b → Compatible a b → Ordered both
  both_ordered oa ob c s t i j h e f = by (either-cases (a s) (b s) i e) (either-cases (a t) (b t) j f)
    where
      by : (a s ≡ some i) ⊎ (b s ≡ some i) → (a t ≡ some j) ⊎ (b t ≡ some j) → i ≤ℤ j
      by (inl p) (inl q) = oa s t i j h p q
      by (inl p) (inr q) = (c.ordered s t i j h).0 p q
      by (inr p) (inl q) = (c.ordered s t i j h).1 p q
      by (inr p) (inr q) = ob s t i j h p q

  both-repeats : (S n : ℕ) → Repeats S n a → Repeats S n b → Repeats S n both
  both-repeats S n f g t = ap (λ (o : Option ℤ). either o (b (t +ℤ pos S))) (f t) ∙ ap (either (raise (pos n) (a t))) (g t) ∙ either-raised (pos n) (a t) (b t)

-- ---- over the span, where the labels rise alike

module _ (a b : Row) (va : Valid a) (vb : Valid b) (c : Compatible (meant a) (meant b)) where
  repeats-alike : Repeats (span_of (turn a) (turn b)) (rise (turn a) (span_of (turn a) (turn b))) (meant b)
  repeats-alike = rw (rises-compatible a b va vb c) (repeats-right a b va vb)

  has-alike : (j : ℤ) → has b (j +ℤ pos (rise (turn a) (span_of (turn a) (turn b)))) ≡ has b j
  has-alike = rw (rises-compatible a b va vb c) (has-periods b vb (span_of (turn a) (turn b) / b.period))

-- j is not a label
lacks-iff : (b : Row) → Valid b → (j : ℤ) → (not (has b j) ≡ true) ↔ (¬ (Has (meant b) j))
lacks-iff b v j = Iff.trans (not_iff (has b j)) (false-iff (has-iff b v j))

pub by-labels-right : (s : SetOperation) (a b : Row) → Ready (binary (by-labels s) a b) → Right (binary (by-labels s) a b)
unfolding result size
by-labels-right union a b h =
    let va = h.valid.0 in
    let vb = h.valid.1 in
    let S = span_of (turn a) (turn b) in
    let c = h.aligned in
    record {
      labels = λ t j. either-iff (meant a t) (meant b t) j (c.single t);
      ordered = both_ordered (meant a) (meant b) va.ordered vb.ordered c;
      repeats = both-repeats (meant a) (meant b) S (rise (turn a) S) (repeats-left a b va vb) (repeats-alike a b va vb c);
      positive = (span-positive a b va vb, rise-positive a b va vb);
    }
by-labels-right intersection a b h =
    let va = h.valid.0 in
    let vb = h.valid.1 in
    let S = span_of (turn a) (turn b) in
    record {
      labels = λ t j. Iff.trans (kept-iff (meant a) (has b) t j) (Iff.and Iff.rfl (has-iff b vb j));
      ordered = kept-ordered (meant a) (has b) va.ordered;
      repeats = kept-repeats (meant a) (has b) S (rise (turn a) S) (repeats-left a b va vb) (has-alike a b va vb h.aligned);
      positive = (span-positive a b va vb, rise-positive a b va vb);
    }
by-labels-right difference a b h =
    let va = h.valid.0 in
    let vb = h.valid.1 in
    let S = span_of (turn a) (turn b) in
    let k : ℤ → Bool = λ j. not (has b j) in
    record {
      labels = λ t j. Iff.trans (kept-iff (meant a) k t j) (Iff.and Iff.rfl (lacks-iff b vb j));
      ordered = kept-ordered (meant a) k va.ordered;
      repeats = kept-repeats (meant a) k S (rise (turn a) S) (repeats-left a b va vb) (λ j. ap not (has-alike a b va vb h.aligned j));
      positive = (span-positive a b va vb, rise-positive a b va vb);
    }
