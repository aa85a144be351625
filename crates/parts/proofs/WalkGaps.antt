-- The walk over a gap, from an instant to the nearest label back or on: where it stands, its steps and its end.
-- Assumes nothing.
use mathlib.Core.Path.{◌≡◌, sym, ◌∙◌, ap, subst}
use mathlib.Core.Logic.{⊎_elim}
use mathlib.Core.Option.{none, some}
use mathlib.Core.Bool.{Bool, true, false}
use Prim.Native.Nat.{◌<◌, ◌^◌}
use native.Mathlib.Omega.{arith}
use lib.IntN.{ℤ, pos, ◌+ℤ◌, ◌-ℤ◌}
use lib.Signed.{◌≤ℤ◌, ◌<ℤ◌}
use Rattle.integers.proofs.Linear.{ints, ◌∴◌}
use Rattle.integers.proofs.Order.{le-or-lt, up-less, Cases, cases}
use Rattle.integers.proofs.Order.Cases.{below, equal, above}
use Rattle.calendar.specs.Meaning.{Row, meant}
use Rattle.granules.specs.Valid.{Valid}
use Rattle.granules.proofs.Tests.{none≢some}
use Rattle.granules.proofs.Calendars.{labelled-near}
use Rattle.granules.proofs.Rows.{meant-repeats}
use Rattle.cursors.specs.declared.Cursor.{Cursor}
use Rattle.cursors.specs.Found.{Within}
use Rattle.cursors.specs.Cursor.{cursor_at}
use Rattle.cursors.specs.Direction.{stepped, away}
use Rattle.cursors.proofs.Direction.{away-self, away-step, away-inj}
use Rattle.granule_ends.proofs.Walks.{left}
use Rattle.containment.proofs.Places.{instant-is}
use Rattle.parts.specs.Walk.{Roomy, Nearest}

-- from s: it stands at u, and no instant before that on the way has a label
pub record Gap (back : Bool) (r : Row) (s : ℤ) (c : Cursor) (u : ℤ) : Type 0 where
  pub cursor : c ≡ cursor_at r u
  pub low : pos 0 ≤ℤ away back s u
  pub high : away back s u <ℤ pos r.period
  pub empty : (w : ℤ) → pos 0 ≤ℤ away back s w → away back s w <ℤ away back s u → meant r w ≡ none

-- the cursor of an instant that has room
pub roomy : (r : Row) → Valid r → (c : Cursor) (u : ℤ) → c ≡ cursor_at r u → Within (2 ^ 59) u → Roomy r c
roomy r v c u e n = let i = sym (instant-is r v c u e) in (subst (Within (2 ^ 59)) i n, e ∙ ap (cursor_at r) i)

module _ (back : Bool) (r : Row) (v : Valid r) (s : ℤ) where
  -- an instant with a label in each turn from t on
  in-turn : (t : ℤ) → (w : ℤ) × (i : ℤ) × (t ≤ℤ w) × (w <ℤ (t +ℤ pos r.period)) × (meant r w ≡ some i)
  in-turn = labelled-near (meant r) r.period r.distance (meant-repeats r v.positive.0) v.positive.0 v.label v.labelled

  -- and less than a turn away
  labelled : (back : Bool) → (w : ℤ) × (i : ℤ) × (pos 0 ≤ℤ away back s w) × (away back s w <ℤ pos r.period) × (meant r w ≡ some i)
  labelled true = let x = in-turn (s -ℤ pos r.period +ℤ pos 1) in (x.0, x.1, x.3 ∴ simp ints (omega arith), x.2 ∴ simp ints (omega arith), x.4)
  labelled false = let x = in-turn s in (x.0, x.1, x.2 ∴ simp ints (omega arith), x.3 ∴ simp ints (omega arith), x.4)

  -- labels never fall
  ordered : (back : Bool) (u w k j : ℤ) → away back s u ≤ℤ away back s w → meant r u ≡ some k → meant r w ≡ some j → pos 0 ≤ℤ away back k j
  ordered true u w k j p e f = v.ordered w u j k (p ∴ simp ints (omega arith)) f e ∴ simp ints (omega arith)
  ordered false u w k j p e f = v.ordered u w k j (p ∴ simp ints (omega arith)) e f ∴ simp ints (omega arith)

  pub gap-start : (c : Cursor) → c ≡ cursor_at r s → Gap back r s c s
  gap-start c e = record {
    cursor = e;
    low = away-self back s ∴ simp ints (omega arith);
    high = away-self back s ∴ v.positive.0 ∴ simp ints (omega arith);
    empty = λ w p q. absurd (p ∴ q ∴ away-self back s ∴ simp ints (omega arith));
  }

  module _ (c : Cursor) (u : ℤ) (b : Gap back r s c u) where
    -- a label shows
    pub gap-label : (k : ℤ) → meant r u ≡ some k → Nearest back r s k
    gap-label k e = record {
      at = u;
      label = e;
      from = b.low;
      nearest = λ w j p f.
          ⊎_elim
          (λ (q : away back s u ≤ℤ away back s w). ordered back u w k j q e f)
          (λ (q : away back s w <ℤ away back s u). absurd (none≢some (sym (b.empty w p q) ∙ f)))
          (le-or-lt (away back s u) (away back s w));
    }

    module _ (none_here : meant r u ≡ none) (c' : Cursor) (u' : ℤ) (next : c' ≡ cursor_at r u') (step : u' ≡ stepped back u) where
      farther : away back s u' ≡ away back s u +ℤ pos 1
      farther = away-step back s u u' step

      empty : (w : ℤ) → pos 0 ≤ℤ away back s w → away back s w <ℤ away back s u' → meant r w ≡ none
      empty w p q = by (cases (away back s w) (away back s u))
        where
          by : Cases (away back s w) (away back s u) → meant r w ≡ none
          by (below h) = b.empty w p h
          by (equal h) = ap (meant r) (away-inj back s w u h) ∙ none_here
          by (above h) = absurd (q ∴ farther ∴ h ∴ simp ints (omega arith))

      pub gap_step : Gap back r s c' u'
      gap_step = record {
        cursor = next;
        low = b.low ∴ farther ∴ simp ints (omega arith);
        high = ⊎_elim (λ (h : pos r.period ≤ℤ away back s u'). absurd (full h)) (λ h. h) (le-or-lt (pos r.period) (away back s u'));
        empty = empty;
      }
        where
          full : pos r.period ≤ℤ away back s u' → ⊥
          full h = let x = labelled back in none≢some (sym (empty x.0 x.2 (h ∴ x.3 ∴ simp ints (omega arith))) ∙ x.4)

      pub gap-less : left back r.period s u' < left back r.period s u
      gap-less = up-less (pos r.period -ℤ away back s u') (pos r.period -ℤ away back s u) (farther ∴ simp ints (omega arith)) (b.high ∴ simp ints (omega arith))
