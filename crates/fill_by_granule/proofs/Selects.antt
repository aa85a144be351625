-- What the loop of a selection keeps between two granules of a, and what holds behind the next one.
-- Assumes nothing.
use mathlib.Core.Path.{◌≡◌, refl, sym, ◌∙◌, ap}
use mathlib.Core.Option.{Option, none, some}
use mathlib.Core.Bool.{Bool, true, false, ◌||◌}
use mathlib.Core.List.{List}
use Prim.Native.Nat.{ℕ, ◌<◌}
use native.Mathlib.Omega.{arith}
use lib.IntN.{ℤ, pos}
use Rattle.integers.proofs.Linear.{ints, ◌∴◌}
use Rattle.calendar.specs.Meaning.{Row, meant}
use Rattle.calendar.specs.Operation.{Selection as Selections}
use Rattle.calendar.specs.Operation.Binary.{select}
use Rattle.calendar.specs.Operation.Operation.{binary}
use Rattle.calendar.specs.Lists.{is_some, if_label, on_label, only, equal}
use Rattle.calendar.specs.Compute.{result, selects, cell_of}
use Rattle.calendar.specs.Limits.{in_range}
use Rattle.granules.specs.Valid.{Valid}
use Rattle.cursors.specs.declared.Cursor.{Cursor}
use Rattle.cursors.specs.Cursor.{cursor_at}
use Rattle.kinds.specs.declared.Selection.{Selection}
use Rattle.kinds.specs.declared.Selection.TheVariants.{Down, Up, Intersecting}
use Rattle.select_granules.specs.declared.Picked.{Picked}
use Rattle.select_granules.specs.declared.Decision.{Decision}
use Rattle.kinds.specs.Operations.{selection_of}
use Rattle.select_granules.specs.Memos.{flag_of, Remembers}
use Rattle.select_granules.specs.Deciding.{Decides}
use Rattle.kinds.specs.declared.Kind.TheVariants.{Select}
use Rattle.fill_shared.proofs.Filling.{Lent, Filling, row_of}
use Rattle.fill_stretches.specs.declared.Reached.{Reached}
use Rattle.fill_stretches.specs.Stretch.{Stretched, Led}
use Rattle.fill_by_granule.proofs.Along.{Along, along-none, along-on, along-next}

-- ---- the label

pub select-of : (x : Selections) (a b : Row) (t : ℤ) (o : Option ℤ) → meant a t ≡ o → result (binary (select x) a b) t ≡ on_label o (λ j. only j (selects x a b j))
unfolding result
select-of x a b t o e = ap (λ (p : Option ℤ). on_label p (λ j. only j (selects x a b j))) e

pub flag_is : (x : Bool) → equal (flag_of x) (pos 1) ≡ x
flag_is true = refl
flag_is false = refl

-- nothing is known of Pick
pub recalls-none : (s : Selection) (a b : Row) (m : Picked) → m.known ≡ pos 0 → Remembers s a b m
recalls-none (Down p) a b m e = λ h. absurd (e ∴ h ∴ simp ints (omega arith))
recalls-none Up a b m e = tt
recalls-none (Intersecting p) a b m e = λ h. absurd (e ∴ h ∴ simp ints (omega arith))

-- ---- between two granules

-- a's granules, and what is kept of Pick is right
pub record Selecting (s : Selection) (a b : Lent) (at period : ℕ) (old pool : List ℤ) (p : Reached) (cursor : Cursor) (fresh : Bool) (picked : Picked) (labelled : Bool) : Type 0 where
  pub along : Along (Select s) a b (row_of a old) (row_of b old) at period old pool p cursor fresh labelled
  pub remembers : Remembers s (row_of a old) (row_of b old) picked

module _ (s : Selection) (a b : Lent) (at period : ℕ) (old : List ℤ) where
  -- an instant that has no label in a gets none
  pub unlabelled : (u : ℕ) → meant (row_of a old) (pos u) ≡ none → none ≡ result (binary (select (selection_of s)) (row_of a old) (row_of b old)) (pos u)
  unlabelled u e = sym (select-of (selection_of s) (row_of a old) (row_of b old) (pos u) none e)

  -- before the first one
  pub selecting-none : (q : Reached) (new : List ℤ) (cursor : Cursor) (picked : Picked) → Filling (Select s) a b at period old old false 0 → Led (row_of a old) at period old q new
      → cursor ≡ cursor_at (row_of b old) (pos q.t) → picked.known ≡ pos 0 → Selecting s a b at period old new q cursor false picked false
  selecting-none q new cursor picked h x e k = record {
    along = along-none (Select s) a b (row_of a old) (row_of b old) at period old unlabelled q new cursor h x e;
    remembers = recalls-none s (row_of a old) (row_of b old) picked k;
  }

  -- the granule at p is decided
  module _ (new : List ℤ) (p : Reached) (cursor : Cursor) (fresh : Bool) (picked : Picked) (labelled : Bool) (h : Selecting s a b at period old new p cursor fresh picked labelled) (m : p.t < period)
      (j : ℤ) (e : meant (row_of a old) (pos p.t) ≡ some j) (d : Decision) (x : Decides s (row_of a old) (row_of b old) j d) where
    -- the label that its instants get
    label_is : (u : ℕ) → meant (row_of a old) (pos u) ≡ some j → only j (equal d.holds (pos 1)) ≡ result (binary (select (selection_of s)) (row_of a old) (row_of b old)) (pos u)
    label_is u f =
        ap (λ (z : ℤ). only j (equal z (pos 1))) x.holds
        ∙ ap (only j) (flag_is (selects (selection_of s) (row_of a old) (row_of b old) j))
        ∙ sym (select-of (selection_of s) (row_of a old) (row_of b old) (pos u) (some j) f)

    pub decided-label : only j (equal d.holds (pos 1)) ≡ result (binary (select (selection_of s)) (row_of a old) (row_of b old)) (pos p.t)
    decided-label = label_is p.t e

    -- and filled in
    module _ (v : Valid (row_of a old)) (q : Reached) (pool : List ℤ) (y : Option ℤ) (z : y ≡ only j (equal d.holds (pos 1))) (i : if_label y in_range ≡ true)
        (f : Stretched (cell_of y) j (row_of a old) at period new p q pool) where
      pub granule-on : p.t < q.t
      granule-on = along-on (Select s) a b (row_of a old) (row_of b old) at period old unlabelled new p cursor fresh labelled h.along m j e q pool y f

      pub selecting-next : (next : Cursor) → next ≡ cursor_at (row_of b old) (pos q.t) → Selecting s a b at period old pool q next true d.picked (is_some y || labelled)
      selecting-next next k = record {
        along =
            along-next (Select s) a b (row_of a old) (row_of b old) at period old unlabelled new p cursor fresh labelled h.along m j e q pool y f v i
            (λ u g. z ∙ label_is u g) next k;
        remembers = x.remembers;
      }
