-- The tests of full and of aligned operands pass exactly when the relations say so, over all instants.
use mathlib.Core.Path.{◌≡◌, refl, sym, ◌∙◌, subst}
use mathlib.Core.Logic.Iff
use mathlib.Core.Logic.{◌↔◌}
use mathlib.Core.Option.{Option, none, some}
use mathlib.Core.Bool.{Bool, true, not, ◌&&◌, ◌||◌}
use Prim.Native.Nat.{ℕ, zero, suc}
use lib.IntN.{ℤ}
use lib.Signed.{le_z}
use Rattle.calendar.specs.Meaning.{Row, meant, Repeats}
use Rattle.calendar.specs.Operation.{Operation, Alignment, alignment, full_unary, full_binary}
use Rattle.calendar.specs.Operation.Operation.{bottom, unary, binary}
use Rattle.calendar.specs.Operation.Alignment.{free, partition, subcalendar, compatible}
use Rattle.calendar.specs.Algebra.{FullFirst, FullOperands, AlignedAs, Aligned}
use Rattle.calendar.specs.Lists.{equal, is, is_some, same_label, if_label}
use Rattle.calendar.specs.Size.{turn, span_of, rise}
use Rattle.calendar.specs.Checks.{full_first, full_operands, partitions, is_subcalendar, agrees, everywhere, rise_alike, aligned_as, aligned}
use Rattle.granules.specs.Valid.{Valid}
use Rattle.granules.proofs.Tests.{true≢false, and-iff, both_iff, implies-iff, not_iff, false-iff, eqb-iff, equal-iff, le_z-iff, none≢some, is_some-iff, is-iff, same_label-iff, labelled-iff}
use Rattle.granules.proofs.Count.{full-iff}
use Rattle.algebra.specs.Ready.{Operands, meaning}
use Rattle.algebra.proofs.Span.{span-positive, rise-positive, repeats-left, repeats-right}
use Rattle.algebra.proofs.Rises.{rises-subcalendar, rises-compatible}
use Rattle.algebra.proofs.Everywhere.{everywhere-iff}
use Rattle.algebra.proofs.Alignments.{PartitionAt, SubcalendarAt, SubcalendarPair, CompatibleAt, CompatiblePair, partition-moves, subcalendar-moves, compatible-moves, partition-iff, subcalendar-iff, compatible-iff}

-- ---- full operands (check 7)

full-first : (n : ℕ) (a b : Row) → Valid a → Valid b → (full_first n a b ≡ true) ↔ FullFirst n (meant a) (meant b)
full-first zero a b va vb = (λ e. tt, λ h. refl)
full-first (suc zero) a b va vb = full-iff a va
full-first (suc (suc n)) a b va vb = both_iff (full-iff a va) (full-iff b vb)

pub full_operands-iff : (o : Operation Row) → Operands Valid o → (full_operands o ≡ true) ↔ FullOperands (meaning o)
unfolding full_operands
full_operands-iff bottom v = (λ e. tt, λ h. refl)
full_operands-iff (unary u a) v = full-first (full_unary u) a a v v
full_operands-iff (binary o a b) v = full-first (full_binary o) a b v.0 v.1

-- ---- the tests over two instants

partitions-iff : (a b : Row) (t u : ℤ) → (partitions a b t u ≡ true) ↔ PartitionAt (meant a) (meant b) t u
partitions-iff a b t u = by (meant a t) refl
  where
    by : (o : Option ℤ) → meant a t ≡ o
        → (elim o as (λ x. Bool) [ none ↦ not (is_some (meant b t)) | some j ↦ is_some (meant b t) && (not (is j (meant a u)) || same_label (meant b t) (meant b u)) ] ≡ true)
        ↔ PartitionAt (meant a) (meant b) t u
    by none e = (
      λ p. record {
        labelled = (λ q. absurd (none≢some (sym e ∙ q.1)), λ q. absurd (true≢false ((is_some-iff (meant b t)).1 q) ((not_iff (is_some (meant b t))).0 p)));
        together = λ j f. absurd (none≢some (sym e ∙ f));
      },
      λ h. (not_iff (is_some (meant b t))).1 ((false-iff (is_some-iff (meant b t))).1 (λ q. none≢some (sym e ∙ (h.labelled.1 q).1))),
    )
    by (some j) e = Iff.trans (both_iff (is_some-iff (meant b t)) (implies-iff (is-iff j (meant a u)) (same_label-iff (meant b t) (meant b u)))) (
      λ p. record {
        labelled = (λ q. p.0, λ q. (j, e));
        together = λ k f g. p.1 (g ∙ sym f ∙ e);
      },
      λ h. (h.labelled.0 (j, e), h.together j e),
    )

is_subcalendar-iff : (a b : Row) (t u : ℤ) → (is_subcalendar a b t u ≡ true) ↔ SubcalendarPair (meant a) (meant b) t u
is_subcalendar-iff a b t u = labelled-iff (meant b t) test decides
  where
    test : ℤ → Bool
    test j = is j (meant a t) && (not (is j (meant a u)) || is j (meant b u))

    decides : (j : ℤ) → (test j ≡ true) ↔ SubcalendarAt (meant a) (meant b) t u j
    decides j = Iff.trans (both_iff (is-iff j (meant a t)) (implies-iff (is-iff j (meant a u)) (is-iff j (meant b u))))
        (λ p. record { here = p.0; there = p.1 }, λ h. (h.here, h.there))

agrees-iff : (a b : Row) (t u : ℤ) → (agrees a b t u ≡ true) ↔ CompatiblePair (meant a) (meant b) t u
agrees-iff a b t u = labelled-iff (meant a t) (λ i. if_label (meant b u) (test i)) (λ i. labelled-iff (meant b u) (test i) (decides i))
  where
    test : ℤ → ℤ → Bool
    test i j = (not (le_z t u) || le_z i j) && ((not (le_z u t) || le_z j i) && (not (equal i j) || (is i (meant b t) && is i (meant a u))))

    decides : (i j : ℤ) → (test i j ≡ true) ↔ CompatibleAt (meant a) (meant b) t u i j
    decides i j = Iff.trans
        (both_iff (implies-iff (le_z-iff t u) (le_z-iff i j))
        (both_iff (implies-iff (le_z-iff u t) (le_z-iff j i))
        (implies-iff (equal-iff i j) (both_iff (is-iff i (meant b t)) (is-iff i (meant a u))))))
        (λ p. record { before = p.0; behind = p.1.0; shared = p.1.1 }, λ h. (h.before, (h.behind, h.shared)))

-- ---- aligned operands (check 9)

-- the labels of a and b rise alike over their span
abbrev Alike : Row → Row → Type 0
Alike a b = rise (turn a) (span_of (turn a) (turn b)) ≡ rise (turn b) (span_of (turn a) (turn b))

-- a relation that makes them rise alike, and that f decides where they do
alike-iff : {R : Type 0} (a b : Row) (f : ℤ → ℤ → Bool) → (R → Alike a b) → (Alike a b → (everywhere a b f ≡ true) ↔ R)
    → (rise_alike a b && everywhere a b f ≡ true) ↔ R
alike-iff a b f rises decides =
    let s = span_of (turn a) (turn b) in
    let q = eqb-iff (rise (turn a) s) (rise (turn b) s) in
    let h = and-iff (rise_alike a b) (everywhere a b f) in
    (λ e. (decides (q.0 (h.0 e).0)).0 (h.0 e).1, λ r. h.1 (q.1 (rises r), (decides (rises r)).1 r))

module _ (a b : Row) (va : Valid a) (vb : Valid b) where
  right-alike : Alike a b → Repeats (span_of (turn a) (turn b)) (rise (turn a) (span_of (turn a) (turn b))) (meant b)
  right-alike e = subst (λ (n : ℕ). Repeats (span_of (turn a) (turn b)) n (meant b)) (sym e) (repeats-right a b va vb)

  aligned-as : (k : Alignment) → (aligned_as k a b ≡ true) ↔ AlignedAs k (meant a) (meant b)
  aligned-as free = (λ e. tt, λ h. refl)
  aligned-as partition =
      let s = span_of (turn a) (turn b) in
      Iff.trans
      (everywhere-iff a b (span-positive a b va vb) (partitions a b) (PartitionAt (meant a) (meant b)) (partitions-iff a b)
      (partition-moves (meant a) (meant b) s (rise (turn a) s) (rise (turn b) s) (repeats-left a b va vb) (repeats-right a b va vb)))
      (partition-iff (meant a) (meant b) s (rise (turn a) s) (rise-positive a b va vb) (repeats-left a b va vb) va.ordered)
  aligned-as subcalendar =
      let s = span_of (turn a) (turn b) in
      alike-iff a b (is_subcalendar a b) (rises-subcalendar a b va vb) λ e.
      Iff.trans
      (everywhere-iff a b (span-positive a b va vb) (is_subcalendar a b) (SubcalendarPair (meant a) (meant b)) (is_subcalendar-iff a b)
      (subcalendar-moves (meant a) (meant b) s (rise (turn a) s) (repeats-left a b va vb) (right-alike e)))
      (subcalendar-iff (meant a) (meant b) s (rise (turn a) s) (rise-positive a b va vb) (repeats-left a b va vb) va.ordered)
  aligned-as compatible =
      let s = span_of (turn a) (turn b) in
      alike-iff a b (agrees a b) (rises-compatible a b va vb) λ e.
      Iff.trans
      (everywhere-iff a b (span-positive a b va vb) (agrees a b) (CompatiblePair (meant a) (meant b)) (agrees-iff a b)
      (compatible-moves (meant a) (meant b) s (rise (turn a) s) (repeats-left a b va vb) (right-alike e)))
      (compatible-iff (meant a) (meant b) s (rise (turn a) s) (span-positive a b va vb) (rise-positive a b va vb) (repeats-left a b va vb) (right-alike e))

pub aligned-iff : (o : Operation Row) → Operands Valid o → (aligned o ≡ true) ↔ Aligned (meaning o)
unfolding aligned
aligned-iff bottom v = (λ e. tt, λ h. refl)
aligned-iff (unary u a) v = (λ e. tt, λ h. refl)
aligned-iff (binary o a b) v = aligned-as a b v.0 v.1 (alignment o)
