-- A walk back from the instant −1 to the last labelled instant before 0.
-- Assumes nothing.
use mathlib.Core.Path.{◌≡◌, sym, ◌∙◌, ap}
use mathlib.Core.Option.{none, some}
use Prim.Native.Nat.{ℕ, ◌<◌}
use native.Mathlib.Omega.{arith}
use lib.IntN.{ℤ, pos, negsuc, ◌+ℤ◌, ◌-ℤ◌}
use lib.Signed.{◌≤ℤ◌}
use Rattle.integers.specs.Parts.{up}
use Rattle.integers.proofs.Linear.{ints, ◌∴◌}
use Rattle.integers.proofs.Order.{up-less, Cases, cases}
use Rattle.integers.proofs.Order.Cases.{below, equal, above}
use Rattle.calendar.specs.Meaning.{Row, Calendar, meant}
use Rattle.calendar.specs.Compute.{anchored}
use Rattle.granules.specs.Valid.{Valid}
use Rattle.granules.proofs.Tests.{none≢some}
use Rattle.cursors.specs.declared.Cursor.{Cursor}
use Rattle.cursors.specs.Cursor.{cursor_at}
use Rattle.containment.specs.Places.{instant}
use Rattle.containment.proofs.Places.{instant-is}
use Rattle.fill_shared.proofs.Lasts.{Bare, not_behind, near, near_before, anchored-last}

-- it stands at the cursor's instant, and none behind that has a label
pub record Back (r : Row) (c : Cursor) : Type 0 where
  pub cursor : c ≡ cursor_at r (instant r c)
  pub low : (negsuc 0 -ℤ pos r.period) ≤ℤ instant r c
  pub high : instant r c ≤ℤ negsuc 0
  pub bare : Bare (meant r) (instant r c) (negsuc 0)

-- how far it may still go
abbrev pub left : Row → Cursor → ℕ
left r c = up (instant r c +ℤ pos r.period +ℤ pos 1)

step_less : (P : ℕ) (u s : ℤ) → s ≡ u -ℤ pos 1 → (negsuc 0 -ℤ pos P) ≤ℤ s → up (s +ℤ pos P +ℤ pos 1) < up (u +ℤ pos P +ℤ pos 1)
step_less P u s step low = up-less (s +ℤ pos P +ℤ pos 1) (u +ℤ pos P +ℤ pos 1) (step ∴ simp ints (omega arith)) (step ∴ low ∴ simp ints (omega arith))

-- an instant with no label is passed
bare-back : (c : Calendar) (u s t : ℤ) → s ≡ u -ℤ pos 1 → c u ≡ none → Bare c u t → Bare c s t
bare-back c u s t step e bare v l h = by (cases u v)
  where
    by : Cases u v → c v ≡ none
    by (below p) = bare v p h
    by (equal p) = ap c (sym p) ∙ e
    by (above p) = absurd (p ∴ l ∴ step ∴ simp ints (omega arith))

-- another instant that is not behind it stands before
labelled-before : (c : Calendar) (w u s i : ℤ) → s ≡ u -ℤ pos 1 → w ≤ℤ u → c w ≡ some i → c u ≡ none → w ≤ℤ s
labelled-before c w u s i step h e n = by (cases w u)
  where
    by : Cases w u → w ≤ℤ s
    by (below p) = p ∴ step ∴ simp ints (omega arith)
    by (equal p) = absurd (none≢some (sym n ∙ ap c (sym p) ∙ e))
    by (above p) = absurd (p ∴ h ∴ simp ints (omega arith))

at-least : (P : ℕ) (w s : ℤ) → (negsuc 0 -ℤ pos P) ≤ℤ w → w ≤ℤ s → (negsuc 0 -ℤ pos P) ≤ℤ s
at-least = simp ints (omega arith)

module _ (r : Row) (v : Valid r) where
  pub back_start : (c : Cursor) → c ≡ cursor_at r (negsuc 0) → Back r c
  back_start c e =
      let i = instant-is r v c (negsuc 0) e in
      record {
        cursor = e ∙ ap (cursor_at r) (sym i);
        low = i ∴ simp ints (omega arith);
        high = i ∴ simp ints (omega arith);
        bare = λ w l h. absurd (i ∴ l ∴ h ∴ simp ints (omega arith));
      }

  -- a label shows
  pub back_end : (c : Cursor) → Back r c → (j : ℤ) → meant r (instant r c) ≡ some j → j ≡ anchored r (negsuc 0)
  back_end c b j e = sym (anchored-last r (negsuc 0) v (instant r c) j b.high e b.bare)

  module _ (c c' : Cursor) (b : Back r c) (next : c' ≡ cursor_at r (instant r c -ℤ pos 1)) (none_here : meant r (instant r c) ≡ none) where
    step : instant r c' ≡ instant r c -ℤ pos 1
    step = instant-is r v c' (instant r c -ℤ pos 1) next

    low_again : (negsuc 0 -ℤ pos r.period) ≤ℤ instant r c'
    low_again =
        let n = near r (negsuc 0) v in
        let h = not_behind (meant r) (instant r c) (negsuc 0) n.0 n.1 b.bare (near_before r (negsuc 0) v) n.4 in
        at-least r.period n.0 (instant r c') n.2 (labelled-before (meant r) n.0 (instant r c) (instant r c') n.1 step h n.4 none_here)

    -- no label shows
    pub back_on : Back r c'
    back_on = record {
      cursor = next ∙ ap (cursor_at r) (sym step);
      low = low_again;
      high = step ∴ b.high ∴ simp ints (omega arith);
      bare = bare-back (meant r) (instant r c) (instant r c') (negsuc 0) step none_here b.bare;
    }

    pub back-less : left r c' < left r c
    back-less = step_less r.period (instant r c) (instant r c') step low_again
