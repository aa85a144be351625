-- What the loop of a selection keeps between two granules of a, and what holds behind the next one.
-- Assumes nothing.
use mathlib.Core.Path.{◌≡◌, sym, ◌∙◌, ap}
use mathlib.Core.Option.{Option, none, some}
use mathlib.Core.Bool.{Bool, true, false, ◌||◌}
use Prim.Native.Nat.{ℕ, ◌<◌}
use lib.IntN.{ℤ, pos}
use Rattle.calendar.specs.Meaning.{Row, meant}
use Rattle.calendar.specs.Operation.{Operation}
use Rattle.calendar.specs.Operation.Binary.{select}
use Rattle.calendar.specs.Operation.Operation.{binary}
use Rattle.calendar.specs.Lists.{is_some, if_label, only, equal}
use Rattle.calendar.specs.Compute.{result, selects}
use Rattle.calendar.specs.Distance.{size}
use Rattle.calendar.specs.Limits.{in_range}
use Rattle.granules.specs.Valid.{Valid}
use Rattle.cursors.specs.declared.Cursor.{Cursor}
use Rattle.cursors.specs.Cursor.{cursor_at}
use Rattle.kinds.specs.declared.Selection.{Selection}
use Rattle.kinds.specs.Operations.{selection_of}
use Rattle.select_granules.specs.declared.Picked.{Picked}
use Rattle.select_granules.specs.declared.Decision.{Decision}
use Rattle.select_granules.specs.Memos.{Remembers}
use Rattle.select_granules.specs.Deciding.{Decides}
use Rattle.fill_by_granule.proofs.Selects.{select-of, flag_is, recalls-none}
use Rattle.match_stretches.specs.declared.Compared.{Compared}
use Rattle.match_stretches.specs.Stretch.{Stretched, Led}
use Rattle.match_by_granule.proofs.Along.{Along, along-none, along-on, along-next}

abbrev selection : Selection → Row → Row → Operation Row
selection s a b = binary (select (selection_of s)) a b

-- a's granules, and what is kept of Pick is right
pub record Selecting (s : Selection) (a b r : Row) (period : ℕ) (p : Compared) (cursor : Cursor) (fresh : Bool) (picked : Picked) (labelled : Bool) : Type 0 where
  pub along : Along (selection s a b) a b r period p cursor fresh labelled
  pub remembers : Remembers s a b picked

module _ (s : Selection) (a b r : Row) (period : ℕ) (is-period : period ≡ (size (selection s a b)).period) where
  -- an instant that has no label in a has none
  unlabelled : (u : ℕ) → meant a (pos u) ≡ none → none ≡ result (selection s a b) (pos u)
  unlabelled u e = sym (select-of (selection_of s) a b (pos u) none e)

  -- before the first one
  pub selecting-none : (q : Compared) (cursor : Cursor) (picked : Picked) → Led a r period q → cursor ≡ cursor_at b (pos q.t) → picked.known ≡ pos 0
      → Selecting s a b r period q cursor false picked false
  selecting-none q cursor picked x e k = record {
    along = along-none (selection s a b) a b r period is-period unlabelled q cursor x e;
    remembers = recalls-none s a b picked k;
  }

  -- the granule j is decided: the label of its instants
  module _ (j : ℤ) (d : Decision) (x : Decides s a b j d) where
    pub decided-label : (u : ℕ) → meant a (pos u) ≡ some j → only j (equal d.holds (pos 1)) ≡ result (selection s a b) (pos u)
    decided-label u f =
        ap (λ (z : ℤ). only j (equal z (pos 1))) x.holds
        ∙ ap (only j) (flag_is (selects (selection_of s) a b j))
        ∙ sym (select-of (selection_of s) a b (pos u) (some j) f)

    -- it is the one at p
    module _ (p : Compared) (cursor : Cursor) (fresh : Bool) (picked : Picked) (labelled : Bool) (h : Selecting s a b r period p cursor fresh picked labelled) (m : p.t < period)
        (e : meant a (pos p.t) ≡ some j) (q : Compared) (y : Option ℤ) (f : Stretched y j a r period p q) where
      pub granule-on : p.t < q.t
      granule-on = along-on (selection s a b) a b r period is-period unlabelled p cursor fresh labelled h.along m j e q y f

      pub selecting-next : Valid a → y ≡ only j (equal d.holds (pos 1)) → if_label y in_range ≡ true → (next : Cursor) → next ≡ cursor_at b (pos q.t)
          → Selecting s a b r period q next true d.picked (is_some y || labelled)
      selecting-next v z i next k = record {
        along = along-next (selection s a b) a b r period is-period unlabelled p cursor fresh labelled h.along m j e q y f v i (λ u g. z ∙ decided-label u g) next k;
        remembers = x.remembers;
      }
