-- Where operands are aligned as anchor or the set operations ask, their labels rise alike.
use mathlib.Core.Path.{◌≡◌, sym, ◌∙◌}
use mathlib.Core.Option.{some}
use Prim.Native.Nat.{ℕ, suc, ◌+◌, ◌≤◌, ◌<◌}
use native.Mathlib.Nat.{mul-le-mul_right, suc-mul, le_antisymm}
use native.Mathlib.Omega.{arith}
use lib.IntN.{ℤ, pos, ◌+ℤ◌, ◌*ℤ◌}
use lib.Signed.{◌≤ℤ◌, ◌<ℤ◌}
use Rattle.integers.specs.Parts.{up, dn}
use Rattle.integers.proofs.Linear.{ints, ◌∴◌}
use Rattle.calendar.specs.Meaning.{Row, Calendar, meant, Has, Repeats}
use Rattle.calendar.specs.Algebra.{Subcalendar, Compatible}
use Rattle.calendar.specs.Size.{turn, span_of, rise}
use Rattle.granules.specs.Valid.{Valid}
use Rattle.granules.proofs.Tests.{some_inj}
use Rattle.granules.proofs.Calendars.{label-moved, labelled-near}
use Rattle.algebra.proofs.Span.{span-positive, repeats-left, repeats-right}

-- of two lines, one that is still the lower after more steps than it was lower by rises no more
slope-le : (A B n : ℕ) (i j : ℤ) → (i +ℤ pos A *ℤ pos n) ≤ℤ (j +ℤ pos B *ℤ pos n) → j <ℤ (i +ℤ pos n) → A ≤ B
slope-le A B n i j h k =
    let steep : ¬ (B < A) = λ l. h ∴ k ∴ mul-le-mul_right n l ∴ suc-mul B n ∴ simp ints (omega arith) in
    omega arith

-- c and d repeat with one period
module _ (c d : Calendar) (S A B : ℕ) (above : 1 ≤ S) (rc : Repeats S A c) (rd : Repeats S B d) where
  rises-at : (t i : ℤ) → d t ≡ some i → Subcalendar c d → A ≡ B
  rises-at t i e h =
      let one = label-moved c S A rc (pos 1) t i ((h i (t, e) t).0 e) in
      let f = label-moved d S B rd (pos 1) t i e in
      let other = (h (i +ℤ pos B *ℤ pos 1) (t +ℤ pos S *ℤ pos 1, f) (t +ℤ pos S *ℤ pos 1)).0 f in
      some_inj (sym one ∙ other) ∴ simp ints (omega arith)

  -- where c's labels are at most the later ones of d, they rise at most as d's
  rises-at-most : (i j : ℤ) → Has c i → Has d j → ((s t i j : ℤ) → s ≤ℤ t → c s ≡ some i → d t ≡ some j → i ≤ℤ j) → A ≤ B
  rises-at-most i j p q h =
      let n = labelled-near d S B rd above j q p.0 in
      let k : ℕ = suc (up n.1 + dn i) in
      slope-le A B k i n.1
      (h (p.0 +ℤ pos S *ℤ pos k) (n.0 +ℤ pos S *ℤ pos k) (i +ℤ pos A *ℤ pos k) (n.1 +ℤ pos B *ℤ pos k)
      (n.2 ∴ simp ints (omega arith))
      (label-moved c S A rc (pos k) p.0 i p.1)
      (label-moved d S B rd (pos k) n.0 n.1 n.4))
      (simp ints (omega arith))

pub rises-subcalendar : (a b : Row) → Valid a → Valid b → Subcalendar (meant a) (meant b)
    → rise (turn a) (span_of (turn a) (turn b)) ≡ rise (turn b) (span_of (turn a) (turn b))
rises-subcalendar a b va vb h =
    let S = span_of (turn a) (turn b) in
    rises-at (meant a) (meant b) S (rise (turn a) S) (rise (turn b) S) (span-positive a b va vb) (repeats-left a b va vb) (repeats-right a b va vb)
    vb.labelled.0 vb.label vb.labelled.1 h

pub rises-compatible : (a b : Row) → Valid a → Valid b → Compatible (meant a) (meant b)
    → rise (turn a) (span_of (turn a) (turn b)) ≡ rise (turn b) (span_of (turn a) (turn b))
rises-compatible a b va vb h =
    let S = span_of (turn a) (turn b) in
    let ra = repeats-left a b va vb in
    let rb = repeats-right a b va vb in
    le_antisymm
    (rises-at-most (meant a) (meant b) S (rise (turn a) S) (rise (turn b) S) (span-positive a b va vb) ra rb
    va.label vb.label va.labelled vb.labelled (λ s t i j l. (h.ordered s t i j l).0))
    (rises-at-most (meant b) (meant a) S (rise (turn b) S) (rise (turn a) S) (span-positive a b va vb) rb ra
    vb.label va.label vb.labelled va.labelled (λ s t i j l. (h.ordered s t i j l).1))
