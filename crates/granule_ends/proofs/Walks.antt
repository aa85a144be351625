-- A walk from an instant to the end of its granule in a direction: where it stands, its steps and its end.
-- Assumes nothing.
use mathlib.Core.Path.{◌≡◌, sym, ◌∙◌, ap}
use mathlib.Core.Logic.{⊎_elim}
use mathlib.Core.Option.{none, some}
use mathlib.Core.Bool.{Bool, true, false}
use Prim.Native.Nat.{ℕ, ◌<◌}
use native.Mathlib.Omega.{arith}
use lib.IntN.{ℤ, pos, negsuc, ◌+ℤ◌, ◌-ℤ◌, ◌*ℤ◌}
use lib.Signed.{◌≤ℤ◌, ◌<ℤ◌}
use Rattle.integers.specs.Parts.{up}
use Rattle.integers.proofs.Linear.{ints, ◌∴◌}
use Rattle.integers.proofs.Order.{≤ℤ-antisym, le-or-lt, up-less, Cases, cases}
use Rattle.integers.proofs.Order.Cases.{below, equal, above}
use Rattle.calendar.specs.Meaning.{Row, meant}
use Rattle.calendar.specs.Lists.{first, last}
use Rattle.calendar.specs.Granules.{granule}
use Rattle.granules.specs.Valid.{Valid}
use Rattle.granules.proofs.Tests.{some_inj, none≢some}
use Rattle.granules.proofs.Lists.{first-least, last-greatest}
use Rattle.granules.proofs.Calendars.{label-moved}
use Rattle.granules.proofs.Rows.{meant-repeats}
use Rattle.granules.proofs.Granule.{granule-lists}
use Rattle.cursors.specs.declared.Cursor.{Cursor}
use Rattle.cursors.specs.Cursor.{cursor_at}
use Rattle.cursors.specs.Direction.{stepped, away}
use Rattle.cursors.proofs.Direction.{away-self, away-step, away-inj}
use Rattle.granule_ends.specs.Ends.{end_of}

-- a walk from t, whose label is j: it stands at u, and e is the farthest instant with that label up to u
pub record Walk (back : Bool) (r : Row) (t j : ℤ) (c : Cursor) (u e : ℤ) : Type 0 where
  pub cursor : c ≡ cursor_at r u
  pub own : meant r t ≡ some j
  pub low : pos 0 ≤ℤ away back t u
  pub high : away back t u <ℤ pos r.period
  pub label : meant r e ≡ some j
  pub before : away back t e ≤ℤ away back t u
  pub farthest : (x : ℤ) → away back t x ≤ℤ away back t u → meant r x ≡ some j → away back t x ≤ℤ away back t e

-- how far it may still go
abbrev pub left : Bool → ℕ → ℤ → ℤ → ℕ
left back P t u = up (pos P -ℤ away back t u)

abbrev pub ahead : ℕ → ℤ → ℤ → ℕ
ahead P t u = up (t -ℤ u +ℤ pos P)

module _ (r : Row) (v : Valid r) where
  -- the first and the last instant of a granule, by what is known of them
  pub first-is : (j e : ℤ) → meant r e ≡ some j → ((u : ℤ) → meant r u ≡ some j → e ≤ℤ u) → e ≡ first (granule r j)
  first-is j e h least =
      let l = granule-lists r v j in
      let f = first-least e (granule r j) l.rising ((l.member e).0 h) in
      ≤ℤ-antisym (least (first (granule r j)) ((l.member (first (granule r j))).1 f.0)) f.1

  last-is : (j e : ℤ) → meant r e ≡ some j → ((u : ℤ) → meant r u ≡ some j → u ≤ℤ e) → e ≡ last (granule r j)
  last-is j e h greatest =
      let l = granule-lists r v j in
      let f = last-greatest e (granule r j) l.rising ((l.member e).0 h) in
      ≤ℤ-antisym f.1 (greatest (last (granule r j)) ((l.member (last (granule r j))).1 f.0))

  -- ---- what the two directions share

  -- the farthest instant of a granule is its end
  end_is : (back : Bool) (t j e : ℤ) → meant r e ≡ some j → ((x : ℤ) → meant r x ≡ some j → away back t x ≤ℤ away back t e) → e ≡ end_of back (granule r j)
  end_is true t j e h far = first-is j e h (λ x l. far x l ∴ simp ints (omega arith))
  end_is false t j e h far = last-is j e h (λ x l. far x l ∴ simp ints (omega arith))

  -- k periods away the label is another
  moved : (k t j u : ℤ) → meant r t ≡ some j → u ≡ t +ℤ pos r.period *ℤ k → meant r u ≡ some (j +ℤ pos r.distance *ℤ k)
  moved k t j u e p = ap (meant r) p ∙ label-moved (meant r) r.period r.distance (meant-repeats r v.positive.0) k t j e

  turned : (back : Bool) (t j u : ℤ) → meant r t ≡ some j → away back t u ≡ pos r.period → (k : ℤ) × (meant r u ≡ some k) × (k ≡ j → ⊥)
  turned true t j u e p = (_, moved (negsuc 0) t j u e (p ∴ simp ints (omega arith)), λ q. q ∴ v.positive.1 ∴ simp ints (omega arith))
  turned false t j u e p = (_, moved (pos 1) t j u e (p ∴ simp ints (omega arith)), λ q. q ∴ v.positive.1 ∴ simp ints (omega arith))

  -- what lies between two instants of a granule has no other label
  between : (back : Bool) (t u x j k : ℤ) → pos 0 ≤ℤ away back t u → away back t u ≤ℤ away back t x → meant r t ≡ some j → meant r u ≡ some k → meant r x ≡ some j → k ≡ j
  between true t u x j k p q e f g = ≤ℤ-antisym (v.ordered u t k j (p ∴ simp ints (omega arith)) f e) (v.ordered x u j k (q ∴ simp ints (omega arith)) g f)
  between false t u x j k p q e f g = ≤ℤ-antisym (v.ordered u x k j (q ∴ simp ints (omega arith)) f g) (v.ordered t u j k (p ∴ simp ints (omega arith)) e f)

  -- ---- the walk

  module _ (back : Bool) (t j : ℤ) where
    pub walk_start : (c : Cursor) → c ≡ cursor_at r t → meant r t ≡ some j → Walk back r t j c t t
    walk_start c e h = record {
      cursor = e;
      own = h;
      low = away-self back t ∴ simp ints (omega arith);
      high = away-self back t ∴ v.positive.0 ∴ simp ints (omega arith);
      label = h;
      before = simp ints (omega arith);
      farthest = λ x k _. k;
    }

    module _ (c c' : Cursor) (u u' e : ℤ) (b : Walk back r t j c u e) (next : c' ≡ cursor_at r u') (step : u' ≡ stepped back u) where
      farther : away back t u' ≡ away back t u +ℤ pos 1
      farther = away-step back t u u' step

      -- the walk stays within a period
      within : ((i : ℤ) → meant r u' ≡ some i → i ≡ j) → away back t u' <ℤ pos r.period
      within same = by (cases (away back t u') (pos r.period))
        where
          by : Cases (away back t u') (pos r.period) → away back t u' <ℤ pos r.period
          by (below h) = h
          by (equal h) = let x = turned back t j u' b.own h in absurd (x.2 (same x.0 x.1))
          by (above h) = absurd (h ∴ b.high ∴ farther ∴ simp ints (omega arith))

      -- past an instant with no label
      pub walk-past : meant r u' ≡ none → Walk back r t j c' u' e
      walk-past h = record {
        cursor = next;
        own = b.own;
        low = b.low ∴ farther ∴ simp ints (omega arith);
        high = within (λ i k. absurd (none≢some (sym h ∙ k)));
        label = b.label;
        before = b.before ∴ farther ∴ simp ints (omega arith);
        farthest = λ x k l. up_to x k l (cases (away back t x) (away back t u'));
      }
        where
          up_to : (x : ℤ) → away back t x ≤ℤ away back t u' → meant r x ≡ some j → Cases (away back t x) (away back t u') → away back t x ≤ℤ away back t e
          up_to x k l (below m) = b.farthest x (farther ∴ m ∴ simp ints (omega arith)) l
          up_to x k l (equal m) = absurd (none≢some (sym h ∙ ap (meant r) (sym (away-inj back t x u' m)) ∙ l))
          up_to x k l (above m) = absurd (k ∴ m ∴ simp ints (omega arith))

      -- to an instant of the granule
      pub walk-to : meant r u' ≡ some j → Walk back r t j c' u' u'
      walk-to h = record {
        cursor = next;
        own = b.own;
        low = b.low ∴ farther ∴ simp ints (omega arith);
        high = within (λ i k. some_inj (sym k ∙ h));
        label = h;
        before = simp ints (omega arith);
        farthest = λ x k l. k;
      }

      -- another label shows: no farther instant has the label j
      pub walk_end : (k : ℤ) → meant r u' ≡ some k → (k ≡ j → ⊥) → e ≡ end_of back (granule r j)
      walk_end k h other = end_is back t j e b.label (λ x l. ⊎_elim
          (λ (m : away back t x ≤ℤ away back t u). b.farthest x m l)
          (λ (m : away back t u <ℤ away back t x). absurd (other (between back t u' x j k (b.low ∴ farther ∴ simp ints (omega arith)) (m ∴ farther ∴ simp ints (omega arith)) b.own h l)))
          (le-or-lt (away back t x) (away back t u)))

      pub walk-less : left back r.period t u' < left back r.period t u
      walk-less = up-less (pos r.period -ℤ away back t u') (pos r.period -ℤ away back t u) (farther ∴ simp ints (omega arith)) (b.high ∴ simp ints (omega arith))
