-- A pass over two rows that is about to look at an instant: at the first one, or behind those that it has passed.
-- Assumes nothing.
use mathlib.Core.Path.{◌≡◌, sym, ◌∙◌, ap, ap₂, subst}
use mathlib.Core.Logic.{◌⊎◌, inl, inr, ⊎_elim}
use mathlib.Core.Option.{Option}
use mathlib.Core.Bool.{true, false}
use native.Mathlib.Omega.{arith}
use lib.IntN.{ℤ, pos, ◌+ℤ◌}
use lib.Signed.{◌≤ℤ◌, ◌<ℤ◌}
use Rattle.integers.proofs.Linear.{ints, ◌∴◌}
use Rattle.calendar.specs.Meaning.{Row, meant}
use Rattle.calendar.specs.Operation.{Alignment}
use Rattle.calendar.specs.Checks.{aligned_as}
use Rattle.calendar.specs.Size.{turn, span_of}
use Rattle.granules.specs.Valid.{Valid}
use Rattle.granules.proofs.Tests.{none≢some}
use Rattle.cursors.specs.declared.Cursor.{Cursor}
use Rattle.cursors.specs.Cursor.{cursor_at}
use Rattle.alignment.specs.Fits.{fits}
use Rattle.alignment.specs.Pass.{RiseAlike}
use Rattle.alignment.proofs.Pairs.{Labelled, Unlabelled}
use Rattle.alignment.proofs.Passes.{Passed, pass-start, pass-over, pass-to, pass-fails}

-- o and p are the labels of the first instant itself, or of the last labelled one before t
abbrev First : Row → Row → ℤ → ℤ → Option ℤ → Option ℤ → Type 0
First a b f t o p = (t ≡ f) × Labelled (meant a) (meant b) f × (o ≡ meant a f) × (p ≡ meant b f)

abbrev Behind : Alignment → Row → Row → ℤ → ℤ → Option ℤ → Option ℤ → Type 0
Behind k a b f t o p = (u : ℤ) × (c : Cursor) × (d : Cursor) × Passed k a b f u c d o p × (t ≡ u +ℤ pos 1)

-- the pass from f looks at t next
pub record Looks (k : Alignment) (a b : Row) (f t : ℤ) (c d : Cursor) (o p : Option ℤ) : Type 0 where
  pub a-cursor : c ≡ cursor_at a t
  pub b-cursor : d ≡ cursor_at b t
  pub low : f ≤ℤ t
  pub high : t ≤ℤ (f +ℤ pos (span_of (turn a) (turn b)))
  pub after : First a b f t o p ⊎ Behind k a b f t o p

module _ (k : Alignment) (a b : Row) (f : ℤ) where
  pub look-first : (c d : Cursor) (o p : Option ℤ) → c ≡ cursor_at a f → d ≡ cursor_at b f → Labelled (meant a) (meant b) f → o ≡ meant a f → p ≡ meant b f
      → Looks k a b f f c d o p
  look-first c d o p ac bc l ol pl = record {
    a-cursor = ac;
    b-cursor = bc;
    low = simp ints (omega arith);
    high = simp ints (omega arith);
    after = inl (λ i. f, l, ol, pl);
  }

  -- on from an instant that is passed
  pub look-next : (t t' : ℤ) (c d c' d' : Cursor) (o p : Option ℤ) → Passed k a b f t c d o p → t' ≡ t +ℤ pos 1 → t <ℤ (f +ℤ pos (span_of (turn a) (turn b)))
      → c' ≡ cursor_at a t' → d' ≡ cursor_at b t' → Looks k a b f t' c' d' o p
  look-next t t' c d c' d' o p w step inner ac bc = record {
    a-cursor = ac;
    b-cursor = bc;
    low = w.low ∴ step ∴ simp ints (omega arith);
    high = inner ∴ step ∴ simp ints (omega arith);
    after = inr (t, c, d, w, step);
  }

  -- the look at t, which has the labels x and y
  module _ (va : Valid a) (vb : Valid b) (t : ℤ) (c d : Cursor) (o p : Option ℤ) (w : Looks k a b f t c d o p) where
    inner : (u : ℤ) → t ≡ u +ℤ pos 1 → u <ℤ (f +ℤ pos (span_of (turn a) (turn b)))
    inner u e = w.high ∴ e ∴ simp ints (omega arith)

    pub look-over : Unlabelled (meant a) (meant b) t → Passed k a b f t c d o p
    look-over n = by w.after
      where
        none_first : Labelled (meant a) (meant b) f → t ≡ f → ⊥
        none_first l e =
            let m = subst (Unlabelled (meant a) (meant b)) e n in
            ⊎_elim (λ h. none≢some (sym m.0 ∙ h.1)) (λ h. none≢some (sym m.1 ∙ h.1)) l

        by : First a b f t o p ⊎ Behind k a b f t o p → Passed k a b f t c d o p
        by (inl h) = absurd (none_first h.1 h.0)
        by (inr (u, g, i, v, e)) = pass-over k a b va vb f u t g i c d o p v e (inner u e) w.a-cursor w.b-cursor n

    module _ (x y : Option ℤ) (xl : x ≡ meant a t) (yl : y ≡ meant b t) where
      pub look-to : Labelled (meant a) (meant b) t → fits k o p x y ≡ true → Passed k a b f t c d x y
      look-to l e = by w.after
        where
          by : First a b f t o p ⊎ Behind k a b f t o p → Passed k a b f t c d x y
          by (inl (g, m, ol, pl)) =
              let ox : o ≡ x = ol ∙ ap (meant a) (sym g) ∙ sym xl in
              let py : p ≡ y = pl ∙ ap (meant b) (sym g) ∙ sym yl in
              subst (λ (f : ℤ). Passed k a b f t c d x y) g
              (pass-start k a b va vb t c d x y w.a-cursor w.b-cursor l xl yl (ap₂ (λ (o p : Option ℤ). fits k o p x y) (sym ox) (sym py) ∙ e))
          by (inr (u, g, i, v, s)) = pass-to k a b va vb f u t g i c d o p v s (inner u s) w.a-cursor w.b-cursor x y xl yl l e

      pub look-fails : RiseAlike k a b → fits k o p x y ≡ false → aligned_as k a b ≡ false
      look-fails r e = by w.after
        where
          by : First a b f t o p ⊎ Behind k a b f t o p → aligned_as k a b ≡ false
          by (inl (g, m, ol, pl)) =
              pass-fails k a b va vb r f t o p x y (g ∴ simp ints (omega arith)) (g ∴ simp ints (omega arith)) ol pl xl yl e
          by (inr (u, g, i, v, s)) =
              pass-fails k a b va vb r v.last t o p x y (v.before ∴ s ∴ simp ints (omega arith)) (v.after ∴ w.high ∴ simp ints (omega arith)) v.o_is v.p-is xl yl e
