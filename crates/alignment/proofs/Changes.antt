-- A pass over two rows that have a label at every instant, as alter asks: a's label must change wherever b's does, and between two changes of b
-- every instant fits.
-- Assumes nothing.
use mathlib.Core.Path.{◌≡◌, refl, sym, ◌∙◌, ap, subst}
use mathlib.Core.Logic.{inl}
use mathlib.Core.Option.{Option, some}
use mathlib.Core.Bool.{Bool, true, false, not, ◌||◌}
use Prim.Native.Nat.{ℕ, zero, suc}
use native.Mathlib.Omega.{arith}
use lib.IntN.{ℤ, pos, ◌+ℤ◌, ◌-ℤ◌, ◌*ℤ◌}
use lib.Signed.{◌≤ℤ◌, ◌<ℤ◌}
use lib.ListN.{length}
use Rattle.integers.specs.Parts.{up}
use Rattle.integers.specs.Floor.{floor_div, floor_mod}
use Rattle.integers.proofs.Linear.{ints, ◌∴◌}
use Rattle.integers.proofs.Order.{pos-up}
use Rattle.integers.proofs.Floor.{floor-lt}
use Rattle.calendar.specs.Meaning.{Row, meant, raise}
use Rattle.calendar.specs.Operation.Alignment.{partition}
use Rattle.calendar.specs.Lists.{same_label}
use Rattle.calendar.specs.Checks.{aligned_as}
use Rattle.calendar.specs.Sound.{labels_of}
use Rattle.calendar.specs.Size.{turn, span_of}
use Rattle.granules.specs.Valid.{Valid}
use Rattle.granules.proofs.Tests.{is_some-iff, same_label-iff, false-iff}
use Rattle.cursors.specs.Cursor.{cursor_at}
use Rattle.counts.proofs.Whole.{all-labelled}
use Rattle.strides.specs.declared.Change.{Change}
use Rattle.strides.specs.Changes.{Changes}
use Rattle.alignment.specs.Fits.{fits}
use Rattle.alignment.specs.Pass.{Whole}
use Rattle.alignment.proofs.Choices.{partition-at}
use Rattle.alignment.proofs.Passes.{Passed, pass-start, pass-to, pass-end, pass-fails}

-- ---- a row with as many labels as cells

-- every instant has a label then
pub all_whole : (r : Row) → Valid r → length (labels_of r.cells) ≡ r.period → Whole r
unfolding meant
all_whole r v e t =
    let m = floor_mod t r.period in
    let c = all-labelled r.cells (e ∙ sym v.whole) m (omega (arith, v.whole, floor-lt r.period v.positive.0 t)) in
    (_, ap (raise (pos r.distance *ℤ floor_div t r.period)) c.1)

-- ---- the test of two instants that have labels

module _ (o p x y : Option ℤ) (a : (j : ℤ) × (x ≡ some j)) (b : (j : ℤ) × (y ≡ some j)) where
  fits-at : (s q : Bool) → same_label o x ≡ s → same_label p y ≡ q → fits partition o p x y ≡ (not s || q)
  unfolding fits
  fits-at s q e g = partition-at o p x y true true s q ((is_some-iff x).1 a) ((is_some-iff y).1 b) e g

  -- b's label stays
  fits_kept : p ≡ y → fits partition o p x y ≡ true
  fits_kept e = by (same_label o x) refl
    where
      by : (s : Bool) → same_label o x ≡ s → fits partition o p x y ≡ true
      by true h = fits-at true true h ((same_label-iff p y).1 e)
      by false h = fits-at false true h ((same_label-iff p y).1 e)

  -- b's label changes
  fits-changed : (p ≡ y → ⊥) → (s : Bool) → same_label o x ≡ s → fits partition o p x y ≡ not s
  fits-changed f true h = fits-at true false h ((false-iff (same_label-iff p y)).1 f)
  fits-changed f false h = fits-at false false h ((false-iff (same_label-iff p y)).1 f)

-- ---- the pass

module _ (a b : Row) where
  -- the pass from 0 has come to t
  abbrev pub Reached : ℤ → Type 0
  Reached t = Passed partition a b (pos 0) t (cursor_at a t) (cursor_at b t) (meant a t) (meant b t)

  abbrev S : ℤ
  S = pos (span_of (turn a) (turn b))

  module _ (va : Valid a) (vb : Valid b) (wa : Whole a) (wb : Whole b) where
    pub reached-start : Reached (pos 0)
    reached-start =
        pass-start partition a b va vb (pos 0) _ _ _ _ refl refl (inl (wa (pos 0))) refl refl
        (fits_kept (meant a (pos 0)) (meant b (pos 0)) (meant a (pos 0)) (meant b (pos 0)) (wa (pos 0)) (wb (pos 0)) refl)

    -- from t to the next change of b
    module _ (t : ℤ) (w : Reached t) (x : Change) (c : Changes b t x) where
      stays : (n : ℕ) → pos n <ℤ x.steps → meant b (t +ℤ pos n) ≡ meant b t
      stays n h =
          let l = wb (t +ℤ pos n) in
          l.1 ∙ sym (c.between (t +ℤ pos n) l.0 (simp ints (omega arith)) (h ∴ simp ints (omega arith)) l.1)

      run : (n : ℕ) → pos n <ℤ x.steps → (t +ℤ pos n) ≤ℤ S → Reached (t +ℤ pos n)
      run zero h m = let e : t ≡ t +ℤ pos 0 = simp ints (omega arith) in subst Reached e w
      run (suc n) h m =
          let h' : pos n <ℤ x.steps = h ∴ simp ints (omega arith) in
          let u = t +ℤ pos n in
          let u' = t +ℤ pos (suc n) in
          pass-to partition a b va vb (pos 0) u u' _ _ _ _ _ _ (run n h' (m ∴ simp ints (omega arith))) (simp ints (omega arith)) (m ∴ simp ints (omega arith)) refl refl
          (meant a u') (meant b u') refl refl (inl (wa u')) (fits_kept (meant a u) (meant b u) (meant a u') (meant b u') (wa u') (wb u') (stays n h' ∙ sym (stays (suc n) h)))

      -- it is beyond the span
      pub change-beyond : S <ℤ (t +ℤ x.steps) → aligned_as partition a b ≡ true
      change-beyond h =
          let n = up (S -ℤ t) in
          let e : pos n ≡ S -ℤ t = pos-up (w.high ∴ simp ints (omega arith)) in
          pass-end partition a b va vb tt (pos 0) (t +ℤ pos n) _ _ _ _ (run n (e ∴ h ∴ simp ints (omega arith)) (e ∴ simp ints (omega arith))) (e ∴ simp ints (omega arith))

      -- it is at u within the span, and v is the instant before
      module _ (v u : ℤ) (vs : v ≡ t +ℤ (x.steps -ℤ pos 1)) (us : u ≡ v +ℤ pos 1) (within : u ≤ℤ S) where
        abbrev n : ℕ
        n = up (x.steps -ℤ pos 1)

        n-is : pos n ≡ x.steps -ℤ pos 1
        n-is = pos-up (c.on ∴ simp ints (omega arith))

        before-is : t +ℤ pos n ≡ v
        before-is = n-is ∴ vs ∴ simp ints (omega arith)

        few : pos n <ℤ x.steps
        few = n-is ∴ simp ints (omega arith)

        before : Reached v
        before = subst Reached before-is (run n few (before-is ∴ us ∴ within ∴ simp ints (omega arith)))

        there : t +ℤ x.steps ≡ u
        there = vs ∴ us ∴ simp ints (omega arith)

        changed : meant b v ≡ meant b u → ⊥
        changed e = c.other.2 (sym (stays n few) ∙ ap (meant b) before-is ∙ e ∙ ap (meant b) (sym there) ∙ c.other.1)

        fits-here : (s : Bool) → same_label (meant a v) (meant a u) ≡ s → fits partition (meant a v) (meant b v) (meant a u) (meant b u) ≡ not s
        fits-here = fits-changed (meant a v) (meant b v) (meant a u) (meant b u) (wa u) (wb u) changed

        -- a's label stays, or changes too
        pub change-alone : same_label (meant a v) (meant a u) ≡ true → aligned_as partition a b ≡ false
        change-alone e =
            pass-fails partition a b va vb tt v u (meant a v) (meant b v) (meant a u) (meant b u) (us ∴ simp ints (omega arith)) (us ∴ within ∴ before.low ∴ simp ints (omega arith))
            refl refl refl refl (fits-here true e)

        pub change-shared : same_label (meant a v) (meant a u) ≡ false → Reached u
        change-shared e =
            pass-to partition a b va vb (pos 0) v u _ _ _ _ _ _ before us (us ∴ within ∴ simp ints (omega arith)) refl refl
            (meant a u) (meant b u) refl refl (inl (wa u)) (fits-here false e)
