-- Combine: an instant of b has the label of the granule of a in which its granule lies.
use mathlib.Core.Path.{◌≡◌, refl, sym, ◌∙◌, ap, ap₂}
use mathlib.Core.Logic.{◌↔◌}
use mathlib.Core.Option.{Option, none, some}
use mathlib.Core.Bool.{Bool, true, false}
use Prim.Native.Nat.{◌/◌}
use lib.IntN.{ℤ, pos, ◌+ℤ◌}
use Rattle.calendar.specs.Meaning.{Row, meant, Inside, raise}
use Rattle.calendar.specs.Operation.Binary.{combine}
use Rattle.calendar.specs.Operation.Operation.{binary}
use Rattle.calendar.specs.Lists.{on_label, only}
use Rattle.calendar.specs.Granules.{inside}
use Rattle.calendar.specs.Size.{turn, span_of, rise}
use Rattle.calendar.specs.Distance.{size}
use Rattle.calendar.specs.Compute.{result}
use Rattle.granules.specs.Valid.{Valid}
use Rattle.granules.proofs.Tests.{only-iff}
use Rattle.granules.proofs.Inside.{inside-iff}
use Rattle.granules.proofs.Moved.{inside-periods}
use Rattle.algebra.specs.Ready.{Ready, Right}
use Rattle.algebra.proofs.Labels.{on_label-iff}
use Rattle.algebra.proofs.Span.{span-positive, span_left, span_right, rise-positive, repeats-left, repeats-right}

-- the label in a, where the granule k of b lies in its granule
abbrev within : Row → Row → Option ℤ → ℤ → Option ℤ
within a b o k = on_label o λ i. only i (inside b k a i)

-- combine's label, from those in a and in b
abbrev combined : Row → Row → Option ℤ → Option ℤ → Option ℤ
combined a b o p = on_label p (within a b o)

module _ (a b : Row) (va : Valid a) (vb : Valid b) where
  within-iff : (t k i : ℤ) → meant b t ≡ some k → (within a b (meant a t) k ≡ some i) ↔ Inside (meant b) k (meant a) i
  within-iff t k i p =
      let w = on_label-iff (meant a t) (λ i. only i (inside b k a i)) i in (
        λ e.
            let q = w.0 e in
            let r = (only-iff q.0 i (inside b k a q.0)).0 q.2 in
            (inside-iff b a vb k i).0 (ap (inside b k a) (sym r.0) ∙ r.1),
        λ h. w.1 (i, h t p, (only-iff i i (inside b k a i)).1 (refl, (inside-iff b a vb k i).1 h)),
      )

  combined-iff : (t i : ℤ) → (combined a b (meant a t) (meant b t) ≡ some i) ↔ ((k : ℤ) × (meant b t ≡ some k) × Inside (meant b) k (meant a) i)
  combined-iff t i =
      let w = on_label-iff (meant b t) (within a b (meant a t)) i in (
        λ e. let p = w.0 e in (p.0, p.1, (within-iff t p.0 i p.1).0 p.2),
        λ h. w.1 (h.0, h.1, (within-iff t h.0 i h.1).1 h.2),
      )

  -- a span on, the label rises as a's do
  combined-moved : (o p : Option ℤ) → let s = span_of (turn a) (turn b) in
      combined a b (raise (pos (rise (turn a) s)) o) (raise (pos (rise (turn b) s)) p) ≡ raise (pos (rise (turn a) s)) (combined a b o p)
  combined-moved none none = refl
  combined-moved none (some k) = refl
  combined-moved (some i) none = refl
  combined-moved (some i) (some k) =
      let s = span_of (turn a) (turn b) in
      ap (only (i +ℤ pos (rise (turn a) s))) (inside-periods b a vb va (s / b.period) (s / a.period) (span_right a b va vb ∙ sym (span_left a b va vb)) k i)
      ∙ by (pos (rise (turn a) s)) (inside b k a i)
    where
      by : (n : ℤ) (x : Bool) → only (i +ℤ n) x ≡ raise n (only i x)
      by n true = refl
      by n false = refl

pub combine-right : (a b : Row) → Ready (binary combine a b) → Right (binary combine a b)
unfolding result size
combine-right a b h =
    let va = h.valid.0 in
    let vb = h.valid.1 in
    let iff = combined-iff a b va vb in
    record {
      labels = iff;
      ordered = λ s t i j l e f.
          let p = (iff s i).0 e in
          let q = (iff t j).0 f in
          va.ordered s t i j l (p.2 s p.1) (q.2 t q.1);
      repeats = λ t. ap₂ (combined a b) (repeats-left a b va vb t) (repeats-right a b va vb t) ∙ combined-moved a b va vb (meant a t) (meant b t);
      positive = (span-positive a b va vb, rise-positive a b va vb);
    }
