-- Anchor: each instant of a gets the label of b's last granule up to it.
use mathlib.Core.Path.{◌≡◌, refl, sym, ◌∙◌, ap, subst}
use mathlib.Core.Logic.{◌↔◌, ◌⊎◌, inl, inr}
use mathlib.Core.Option.{Option, none, some}
use mathlib.Core.List.{map}
use Prim.Native.Nat.{ℕ, suc, ◌*◌, ◌/◌}
use native.Mathlib.Omega.{arith}
use lib.IntN.{ℤ, pos, ◌+ℤ◌, ◌-ℤ◌}
use lib.Signed.{◌≤ℤ◌, ◌<ℤ◌, ≤ℤ_refl}
use Rattle.integers.proofs.Linear.{ints, ◌∴◌}
use Rattle.integers.proofs.Order.{le-or-lt, ≤ℤ-trans, ≤ℤ-antisym, <ℤ→≤ℤ}
use Rattle.calendar.specs.Meaning.{Row, Calendar, meant, Has, raise, Ordered, Repeats}
use Rattle.calendar.specs.Operation.Binary.{anchor}
use Rattle.calendar.specs.Operation.Operation.{binary}
use Rattle.calendar.specs.Algebra.{Subcalendar}
use Rattle.calendar.specs.Lists.{from, last, on_label, distinct}
use Rattle.calendar.specs.Size.{turn, span_of, rise}
use Rattle.calendar.specs.Distance.{size}
use Rattle.calendar.specs.Compute.{result, anchored}
use Rattle.granules.specs.Valid.{Valid}
use Rattle.granules.proofs.Tests.{some_inj, none≢some, none_or_some}
use Rattle.granules.proofs.Lists.{mem-from, rising-from, last-greatest, distinct-lists}
use Rattle.granules.proofs.Calendars.{labelled-near}
use Rattle.granules.proofs.Rows.{meant-repeats}
use Rattle.granules.proofs.Moved.{moves, has-moves}
use Rattle.algebra.specs.Ready.{Ready, Right}
use Rattle.algebra.proofs.Span.{span-positive, rise-positive, repeats-left}
use Rattle.algebra.proofs.Rises.{rises-subcalendar}

-- ---- the greatest label not above a number

-- of c's labels not above j the greatest is i
abbrev Greatest : Calendar → ℤ → ℤ → Type 0
Greatest c j i = Has c i × (i ≤ℤ j) × ((k : ℤ) → Has c k → k ≤ℤ j → k ≤ℤ i)

greatest-unique : (c : Calendar) (j i k : ℤ) → Greatest c j i → Greatest c j k → i ≡ k
greatest-unique c j i k g h = ≤ℤ-antisym (h.2 i g.0 g.1) (g.2 k h.0 h.1)

-- it never falls
greatest-mono : (c : Calendar) (j l i k : ℤ) → j ≤ℤ l → Greatest c j i → Greatest c l k → i ≤ℤ k
greatest-mono c j l i k h g f = f.2 i g.0 (≤ℤ-trans g.1 h)

-- and rises with the labels
greatest-moves : (c : Calendar) (n : ℤ) → ((j : ℤ) → Has c (j +ℤ n) ↔ Has c j) → (j i : ℤ) → Greatest c j i → Greatest c (j +ℤ n) (i +ℤ n)
greatest-moves c n f j i g = (
  (f i).1 g.0,
  g.1 ∴ simp ints (omega arith),
  λ k h l.
      let e : k -ℤ n +ℤ n ≡ k = simp ints (omega arith) in
      g.2 (k -ℤ n) ((f (k -ℤ n)).0 (subst (Has c) (sym e) h)) (l ∴ simp ints (omega arith)) ∴ simp ints (omega arith),
)

-- ---- what `anchored` finds

-- i is the label of an instant up to t, and no label from there up to t is above it
record Latest (c : Calendar) (t i : ℤ) : Type 0 where
  instant : ℤ
  before : instant ≤ℤ t
  labelled : c instant ≡ some i
  greatest : (v k : ℤ) → instant ≤ℤ v → v ≤ℤ t → c v ≡ some k → k ≤ℤ i

-- ends of the window of P + 1 instants that ends with t
pub window-end : (t u : ℤ) (P : ℕ) → u <ℤ (t -ℤ pos P +ℤ pos (suc P)) → u ≤ℤ t
window-end = simp ints (omega arith)

pub in_window : (t u v : ℤ) (P : ℕ) → (t -ℤ pos P) ≤ℤ u → u ≤ℤ v → v ≤ℤ t → ((t -ℤ pos P) ≤ℤ v) × (v <ℤ (t -ℤ pos P +ℤ pos (suc P)))
in_window = simp ints (omega arith)

before-end : (t u : ℤ) (P : ℕ) → u <ℤ (t -ℤ pos P +ℤ pos P) → u ≤ℤ t
before-end = simp ints (omega arith)

anchored-latest : (b : Row) → Valid b → (t : ℤ) → Latest (meant b) t (anchored b t)
unfolding anchored
anchored-latest b v t =
    let P = b.period in
    let s = t -ℤ pos P in
    let near = labelled-near (meant b) P b.distance (meant-repeats b v.positive.0) v.positive.0 v.label v.labelled s in
    let d = distinct-lists (meant b) v.ordered (from s (suc P)) (rising-from s (suc P)) in
    let l = distinct (map (meant b) (from s (suc P))) in
    let m = (d.member near.1).0 (near.0, (mem-from near.0 s (suc P)).1 (in_window t near.0 near.0 P near.2 (≤ℤ_refl near.0) (before-end t near.0 P near.3)), near.4) in
    let g = last-greatest near.1 l d.rising m in
    let w = (d.member (last l)).1 g.0 in
    let r = (mem-from w.0 s (suc P)).0 w.1 in
    record {
      instant = w.0;
      before = window-end t w.0 P r.1;
      labelled = w.2;
      greatest = λ u k h e p. (last-greatest k l d.rising ((d.member k).0 (u, (mem-from u s (suc P)).1 (in_window t w.0 u P r.0 h e), p))).1;
    }

-- b's latest label up to an instant of a's granule j is the greatest not above j, where b is a part of a
latest-greatest : (a b : Calendar) → Ordered a → Ordered b → Subcalendar a b → (t j i : ℤ) → a t ≡ some j → Latest b t i → Greatest b j i
latest-greatest a b oa ob sub t j i e l = (
  (l.instant, l.labelled),
  oa l.instant t i j l.before ((sub i (l.instant, l.labelled) l.instant).0 l.labelled) e,
  λ k h le. by k h le (le-or-lt h.0 t) (le-or-lt l.instant h.0),
)
  where
    by : (k : ℤ) (h : Has b k) → k ≤ℤ j → (h.0 ≤ℤ t) ⊎ (t <ℤ h.0) → (l.instant ≤ℤ h.0) ⊎ (h.0 <ℤ l.instant) → k ≤ℤ i
    by k h le (inl p) (inl q) = l.greatest h.0 k q p h.1
    by k h le (inl p) (inr q) = ob h.0 l.instant k i (<ℤ→≤ℤ q) h.1 l.labelled
    by k h le (inr p) q =
        let n : j ≤ℤ k = oa t h.0 j k (<ℤ→≤ℤ p) e ((sub k h h.0).0 h.1) in
        l.greatest t k l.before (≤ℤ_refl t) ((sub k h t).1 (e ∙ ap {B = Option ℤ} some (≤ℤ-antisym n le)))

-- ---- the result

-- a label of the result comes from one of a
on_label-cases : (o : Option ℤ) (f : ℤ → Option ℤ) (i : ℤ) → on_label o f ≡ some i → (j : ℤ) × (o ≡ some j) × (f j ≡ some i)
on_label-cases none f i e = absurd (none≢some e)
on_label-cases (some j) f i e = (j, refl, e)

module _ (a b : Row) (va : Valid a) (vb : Valid b) (sub : Subcalendar (meant a) (meant b)) where
  -- the computed result
  abbrev found : Calendar
  found t = on_label (meant a t) λ j. some (anchored b t)

  anchored-greatest : (t j : ℤ) → meant a t ≡ some j → Greatest (meant b) j (anchored b t)
  anchored-greatest t j e = latest-greatest (meant a) (meant b) va.ordered vb.ordered sub t j (anchored b t) e (anchored-latest b vb t)

  found-labels : (t i : ℤ) → (found t ≡ some i) ↔ ((j : ℤ) × (meant a t ≡ some j) × Has (meant b) i × (i ≤ℤ j) × ((k : ℤ) → Has (meant b) k → k ≤ℤ j → k ≤ℤ i))
  found-labels t i = (
    λ e.
        let h = on_label-cases (meant a t) (λ j. some (anchored b t)) i e in
        let g = subst (Greatest (meant b) h.0) (some_inj h.2) (anchored-greatest t h.0 h.1) in
        (h.0, h.1, g.0, g.1, g.2),
    λ h.
        ap (λ (o : Option ℤ). on_label o (λ j. some (anchored b t))) h.1
        ∙ ap {B = Option ℤ} some (greatest-unique (meant b) h.0 (anchored b t) i (anchored-greatest t h.0 h.1) (h.2, h.3, h.4)),
  )

  found-ordered : Ordered found
  found-ordered s t i j h e f =
      let p = (found-labels s i).0 e in
      let q = (found-labels t j).0 f in
      greatest-mono (meant b) p.0 q.0 i j (va.ordered s t p.0 q.0 h p.1 q.1) (p.2, p.3, p.4) (q.2, q.3, q.4)

  -- b's labels rise like a's over the span
  has-alike : (j : ℤ) → Has (meant b) (j +ℤ pos (rise (turn a) (span_of (turn a) (turn b)))) ↔ Has (meant b) j
  has-alike =
      let m = span_of (turn a) (turn b) / b.period in
      rw (rises-subcalendar a b va vb sub) (has-moves (meant b) (pos (b.period * m)) (pos (b.distance * m)) (moves b vb m))

  found-repeats : Repeats (span_of (turn a) (turn b)) (rise (turn a) (span_of (turn a) (turn b))) found
  found-repeats t = by (none_or_some (meant a t))
    where
      S : ℕ
      S = span_of (turn a) (turn b)

      n : ℕ
      n = rise (turn a) S

      by : (meant a t ≡ none) ⊎ ((j : ℤ) × (meant a t ≡ some j)) → found (t +ℤ pos S) ≡ raise (pos n) (found t)
      by (inl e) =
          ap (λ (o : Option ℤ). on_label o (λ j. some (anchored b (t +ℤ pos S)))) (repeats-left a b va vb t ∙ ap (raise (pos n)) e)
          ∙ ap (λ (o : Option ℤ). raise (pos n) (on_label o (λ j. some (anchored b t)))) (sym e)
      by (inr (j, e)) =
          let f : meant a (t +ℤ pos S) ≡ some (j +ℤ pos n) = repeats-left a b va vb t ∙ ap (raise (pos n)) e in
          let g = greatest-moves (meant b) (pos n) has-alike j (anchored b t) (anchored-greatest t j e) in
          ap (λ (o : Option ℤ). on_label o (λ j. some (anchored b (t +ℤ pos S)))) f
          ∙ ap {B = Option ℤ} some (greatest-unique (meant b) (j +ℤ pos n) (anchored b (t +ℤ pos S)) (anchored b t +ℤ pos n) (anchored-greatest (t +ℤ pos S) (j +ℤ pos n) f) g)
          ∙ ap (λ (o : Option ℤ). raise (pos n) (on_label o (λ j. some (anchored b t)))) (sym e)

pub anchor-right : (a b : Row) → Ready (binary anchor a b) → Right (binary anchor a b)
unfolding result size
anchor-right a b h =
    let va = h.valid.0 in
    let vb = h.valid.1 in
    let sub = h.aligned in
    record {
      labels = found-labels a b va vb sub;
      ordered = found-ordered a b va vb sub;
      repeats = found-repeats a b va vb sub;
      positive = (span-positive a b va vb, rise-positive a b va vb);
    }
