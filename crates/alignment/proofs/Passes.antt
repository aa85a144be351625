-- A pass over two rows from an instant that has a label, over one span: where it stands, its steps and its end.
-- Assumes nothing.
use mathlib.Core.Path.{◌≡◌, refl, sym, ◌∙◌, ap₂, subst}
use mathlib.Core.Logic.{◌↔◌, ◌⊎◌, inl, inr, ⊎_elim, ⊎_map}
use mathlib.Core.Option.{Option, none, some}
use mathlib.Core.Bool.{true, false, ◌||◌}
use Prim.Native.Nat.{ℕ}
use native.Mathlib.Omega.{arith}
use lib.IntN.{ℤ, pos, ◌+ℤ◌}
use lib.Signed.{◌≤ℤ◌, ◌<ℤ◌}
use Rattle.integers.proofs.Linear.{ints, ◌∴◌}
use Rattle.integers.proofs.Order.{le-or-lt}
use Rattle.calendar.specs.Meaning.{Row, meant}
use Rattle.calendar.specs.Operation.{Alignment}
use Rattle.calendar.specs.Operation.Alignment.{free, partition, subcalendar, compatible}
use Rattle.calendar.specs.Operation.Binary.{alter, combine, anchor, by-labels}
use Rattle.calendar.specs.Operation.SetOperation.{union}
use Rattle.calendar.specs.Operation.Operation.{binary}
use Rattle.calendar.specs.Algebra.{AlignedAs}
use Rattle.calendar.specs.Lists.{is_some}
use Rattle.calendar.specs.Checks.{aligned_as, aligned}
use Rattle.calendar.specs.Size.{turn, span_of, rise}
use Rattle.granules.specs.Valid.{Valid}
use Rattle.granules.proofs.Tests.{true≢false, false-iff, or-iff, is_some-iff}
use Rattle.algebra.proofs.Span.{span-positive, rise-positive, repeats-left, repeats-right}
use Rattle.algebra.proofs.Everywhere.{Near}
use Rattle.algebra.proofs.OperandChecks.{aligned-iff}
use Rattle.cursors.specs.declared.Cursor.{Cursor}
use Rattle.cursors.specs.Cursor.{cursor_at}
use Rattle.alignment.specs.Fits.{fits}
use Rattle.alignment.specs.Pass.{RiseAlike}
use Rattle.alignment.proofs.Pairs.{Pair, Pairs, Alike, Labelled, Unlabelled, pairs-unlabelled, pairs-turned, pairs-through, aligned-iff-near, near-pairs}
use Rattle.alignment.proofs.Fitting.{fits-own, fits-pairs, pairs-fit}

-- the pass from f stands at t, and o and p are the labels of the last labelled instant up to t
pub record Passed (k : Alignment) (a b : Row) (f t : ℤ) (c d : Cursor) (o p : Option ℤ) : Type 0 where
  pub a-cursor : c ≡ cursor_at a t
  pub b-cursor : d ≡ cursor_at b t
  pub low : f ≤ℤ t
  pub high : t ≤ℤ (f +ℤ pos (span_of (turn a) (turn b)))
  pub first : Labelled (meant a) (meant b) f
  pub last : ℤ
  pub after : f ≤ℤ last
  pub before : last ≤ℤ t
  pub labelled : Labelled (meant a) (meant b) last
  pub between : (w : ℤ) → last <ℤ w → w ≤ℤ t → Unlabelled (meant a) (meant b) w
  pub o_is : o ≡ meant a last
  pub p-is : p ≡ meant b last
  pub pairs : (s u : ℤ) → f ≤ℤ s → s ≤ℤ u → u ≤ℤ t → Pairs k (meant a) (meant b) s u

-- up to t or beyond
split : (u t : ℤ) → u ≤ℤ (t +ℤ pos 1) → (u ≤ℤ t) ⊎ (u ≡ t +ℤ pos 1)
split u t h = ⊎_elim inl (λ l. inr (l ∴ h ∴ simp ints (omega arith))) (le-or-lt u t)

itself : (k : Alignment) (a b : Row) (t : ℤ) → Pair k (meant a) (meant b) t t → Pairs k (meant a) (meant b) t t
itself k a b t h = record { there = h; back = h; one = h; other = h }

module _ (k : Alignment) (a b : Row) (va : Valid a) (vb : Valid b) (f : ℤ) where
  pub pass-start : (c d : Cursor) (o p : Option ℤ) → c ≡ cursor_at a f → d ≡ cursor_at b f → Labelled (meant a) (meant b) f
      → o ≡ meant a f → p ≡ meant b f → fits k o p o p ≡ true → Passed k a b f f c d o p
  pass-start c d o p ac bc l ol pl e =
      let g : fits k (meant a f) (meant b f) (meant a f) (meant b f) ≡ true = ap₂ (λ (x y : Option ℤ). fits k x y x y) (sym ol) (sym pl) ∙ e in
      let own = fits-own (meant a) (meant b) f f k g in
      record {
        a-cursor = ac;
        b-cursor = bc;
        low = simp ints (omega arith);
        high = simp ints (omega arith);
        first = l;
        last = f;
        after = simp ints (omega arith);
        before = simp ints (omega arith);
        labelled = l;
        between = λ w x y. absurd (x ∴ y ∴ simp ints (omega arith));
        o_is = ol;
        p-is = pl;
        pairs = λ s u x y z.
            let e : f ≡ s = x ∴ y ∴ z ∴ simp ints (omega arith) in
            let g : f ≡ u = x ∴ y ∴ z ∴ simp ints (omega arith) in
            subst (λ (u : ℤ). Pairs k (meant a) (meant b) s u) g (subst (λ (s : ℤ). Pairs k (meant a) (meant b) s f) e (itself k a b f own));
      }

  -- a step to the next instant, t'
  module _ (t t' : ℤ) (c d c' d' : Cursor) (o p : Option ℤ) (w : Passed k a b f t c d o p) (step : t' ≡ t +ℤ pos 1) (inner : t <ℤ (f +ℤ pos (span_of (turn a) (turn b))))
      (ac : c' ≡ cursor_at a t') (bc : d' ≡ cursor_at b t') where
    beyond : (s u : ℤ) → f ≤ℤ s → s ≤ℤ u → u ≤ℤ t' → Pair k (meant a) (meant b) t' t' → ((s : ℤ) → f ≤ℤ s → s ≤ℤ t → Pairs k (meant a) (meant b) s t') → Pairs k (meant a) (meant b) s u
    beyond s u x y z own h = by (split u t (step ∴ z ∴ simp ints (omega arith))) (split s t (step ∴ y ∴ z ∴ simp ints (omega arith)))
      where
        by : (u ≤ℤ t) ⊎ (u ≡ t +ℤ pos 1) → (s ≤ℤ t) ⊎ (s ≡ t +ℤ pos 1) → Pairs k (meant a) (meant b) s u
        by (inl m) n = w.pairs s u x y m
        by (inr m) (inl n) = subst (λ (u : ℤ). Pairs k (meant a) (meant b) s u) (step ∙ sym m) (h s x n)
        by (inr m) (inr n) =
            subst (λ (u : ℤ). Pairs k (meant a) (meant b) s u) (step ∙ sym m)
            (subst (λ (s : ℤ). Pairs k (meant a) (meant b) s t') (step ∙ sym n) (itself k a b t' own))

    low' : f ≤ℤ t'
    low' = w.low ∴ step ∴ simp ints (omega arith)

    high' : t' ≤ℤ (f +ℤ pos (span_of (turn a) (turn b)))
    high' = inner ∴ step ∴ simp ints (omega arith)

    -- past one with no label
    pub pass-over : Unlabelled (meant a) (meant b) t' → Passed k a b f t' c' d' o p
    pass-over e =
        let one : (s : ℤ) → f ≤ℤ s → s ≤ℤ t → Pairs k (meant a) (meant b) s t' = λ s x y. pairs-unlabelled k (meant a) (meant b) s t' e (w.pairs s s x (simp ints (omega arith)) y).one in
        record {
          a-cursor = ac;
          b-cursor = bc;
          low = low';
          high = high';
          first = w.first;
          last = w.last;
          after = w.after;
          before = w.before ∴ step ∴ simp ints (omega arith);
          labelled = w.labelled;
          between = λ u x y. ⊎_elim (λ m. w.between u x m) (λ m. subst (Unlabelled (meant a) (meant b)) (step ∙ sym m) e) (split u t (step ∴ y ∴ simp ints (omega arith)));
          o_is = w.o_is;
          p-is = w.p-is;
          pairs = λ s u x y z. beyond s u x y z (one f (simp ints (omega arith)) w.low).other one;
        }

    -- to one with a label, which fits
    module _ (x y : Option ℤ) (xl : x ≡ meant a t') (yl : y ≡ meant b t') where
      fits-is : fits k (meant a w.last) (meant b w.last) (meant a t') (meant b t') ≡ fits k o p x y
      fits-is =
          ap₂ (λ (m n : Option ℤ). fits k m n (meant a t') (meant b t')) (sym w.o_is) (sym w.p-is)
          ∙ ap₂ (λ (m n : Option ℤ). fits k o p m n) (sym xl) (sym yl)

      pub pass-to : Labelled (meant a) (meant b) t' → fits k o p x y ≡ true → Passed k a b f t' c' d' x y
      pass-to l e =
          let v = w.last in
          let new = fits-pairs (meant a) (meant b) v t' (w.before ∴ step ∴ simp ints (omega arith)) k (w.pairs v v w.after (simp ints (omega arith)) w.before).one (fits-is ∙ e) in
          record {
            a-cursor = ac;
            b-cursor = bc;
            low = low';
            high = high';
            first = w.first;
            last = t';
            after = low';
            before = simp ints (omega arith);
            labelled = l;
            between = λ u m n. absurd (m ∴ n ∴ simp ints (omega arith));
            o_is = xl;
            p-is = yl;
            pairs = λ s u m n z. beyond s u m n z new.other (λ s g h.
                ⊎_elim
                (λ q. pairs-through (meant a) (meant b) va.ordered vb.ordered s v t' q (w.before ∴ step ∴ simp ints (omega arith)) (h ∴ step ∴ simp ints (omega arith)) w.labelled k
                (w.pairs s v g q w.before) new)
                (λ q. pairs-turned k (meant a) (meant b) t' s (pairs-unlabelled k (meant a) (meant b) t' s (w.between s q h) new.other))
                (le-or-lt s v));
          }

-- whether an instant has a label, told by its two labels
module _ (a b : Row) (t : ℤ) (x y : Option ℤ) (xl : x ≡ meant a t) (yl : y ≡ meant b t) where
  pub labelled-of : is_some x || is_some y ≡ true → Labelled (meant a) (meant b) t
  labelled-of e =
      ⊎_map
      (λ h. let j = (is_some-iff x).0 h in (j.0, sym xl ∙ j.1))
      (λ h. let j = (is_some-iff y).0 h in (j.0, sym yl ∙ j.1))
      ((or-iff (is_some x) (is_some y)).0 e)

  pub unlabelled-of : is_some x || is_some y ≡ false → Unlabelled (meant a) (meant b) t
  unlabelled-of e = (
    sym xl ∙ is_none x (λ h. absurd (true≢false ((or-iff (is_some x) (is_some y)).1 (inl h)) e)),
    sym yl ∙ is_none y (λ h. absurd (true≢false ((or-iff (is_some x) (is_some y)).1 (inr h)) e)),
  )
    where
      is_none : (o : Option ℤ) → ¬ (is_some o ≡ true) → o ≡ none
      is_none none h = refl
      is_none (some j) h = absurd (h refl)

-- ---- what the pass decides

pub aligned-test : (k : Alignment) (a b : Row) → Valid a → Valid b → (aligned_as k a b ≡ true) ↔ AlignedAs k (meant a) (meant b)
unfolding aligned
aligned-test free a b va vb = aligned-iff (binary combine a b) (va, vb)
aligned-test partition a b va vb = aligned-iff (binary (alter 1 0 (pos 0)) a b) (va, vb)
aligned-test subcalendar a b va vb = aligned-iff (binary anchor a b) (va, vb)
aligned-test compatible a b va vb = aligned-iff (binary (by-labels union) a b) (va, vb)

alike : (k : Alignment) (a b : Row) → RiseAlike k a b → Alike k (rise (turn a) (span_of (turn a) (turn b))) (rise (turn b) (span_of (turn a) (turn b)))
alike free a b h = tt
alike partition a b h = tt
alike subcalendar a b h = h
alike compatible a b h = h

module _ (k : Alignment) (a b : Row) (va : Valid a) (vb : Valid b) (r : RiseAlike k a b) where
  abbrev S : ℕ
  S = span_of (turn a) (turn b)

  -- all pairs of near instants, exactly if the rows are aligned
  near-iff : ((t u : ℤ) → Near S t u → Pair k (meant a) (meant b) t u) ↔ AlignedAs k (meant a) (meant b)
  near-iff =
      aligned-iff-near (meant a) (meant b) S (rise (turn a) S) (rise (turn b) S) (repeats-left a b va vb) (repeats-right a b va vb)
      (span-positive a b va vb) (rise-positive a b va vb) va.ordered k (alike k a b r)

  -- the pass has come to its end
  pub pass-end : (f t : ℤ) (c d : Cursor) (o p : Option ℤ) → Passed k a b f t c d o p → (f +ℤ pos S) ≤ℤ t → aligned_as k a b ≡ true
  pass-end f t c d o p w e =
      (aligned-test k a b va vb).1 (near-iff.0 (near-pairs (meant a) (meant b) S (rise (turn a) S) (rise (turn b) S) (repeats-left a b va vb) (repeats-right a b va vb)
      (span-positive a b va vb) va.ordered vb.ordered k (alike k a b r) f w.first
      (λ t₀ u x y z. w.pairs t₀ u x y (z ∴ e ∴ simp ints (omega arith)))))

  -- an instant does not fit one before
  pub pass-fails : (v t : ℤ) (o p x y : Option ℤ) → v ≤ℤ t → t ≤ℤ (v +ℤ pos S) → o ≡ meant a v → p ≡ meant b v → x ≡ meant a t → y ≡ meant b t
      → fits k o p x y ≡ false → aligned_as k a b ≡ false
  pass-fails v t o p x y l m ol pl xl yl e =
      (false-iff (aligned-test k a b va vb)).1 λ h.
      let near = near-iff.1 h in
      let w : Pairs k (meant a) (meant b) v t = record {
        there = near v t (l ∴ m ∴ simp ints (omega arith));
        back = near t v (l ∴ m ∴ simp ints (omega arith));
        one = near v v (simp ints (omega arith));
        other = near t t (simp ints (omega arith));
      } in
      true≢false (pairs-fit (meant a) (meant b) v t l k w)
      (ap₂ (λ (m n : Option ℤ). fits k m n (meant a t) (meant b t)) (sym ol) (sym pl) ∙ ap₂ (λ (m n : Option ℤ). fits k o p m n) (sym xl) (sym yl) ∙ e)
