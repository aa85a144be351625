-- What the loop of combine keeps between two granules of b, and what holds behind the next one.
-- Assumes nothing.
use mathlib.Core.Path.{◌≡◌, refl, sym, ◌∙◌}
use mathlib.Core.Option.{Option, none, some}
use mathlib.Core.Bool.{Bool, true, false, ◌||◌}
use mathlib.Core.List.{List}
use Prim.Native.Nat.{ℕ, ◌<◌}
use lib.IntN.{ℤ, pos}
use Rattle.calendar.specs.Meaning.{meant}
use Rattle.calendar.specs.Operation.Binary.{combine}
use Rattle.calendar.specs.Operation.Operation.{binary}
use Rattle.calendar.specs.Lists.{is_some, if_label}
use Rattle.calendar.specs.Compute.{result, cell_of}
use Rattle.calendar.specs.Limits.{in_range}
use Rattle.granules.specs.Valid.{Valid}
use Rattle.cursors.specs.declared.Cursor.{Cursor}
use Rattle.cursors.specs.Cursor.{cursor_at}
use Rattle.kinds.specs.declared.Kind.TheVariants.{Combine}
use Rattle.fill_shared.proofs.Filling.{Lent, Filling, row_of}
use Rattle.fill_stretches.specs.declared.Reached.{Reached}
use Rattle.fill_stretches.specs.Stretch.{Stretched, Led}
use Rattle.fill_by_granule.proofs.Along.{Along, along-none, along-on, along-next}
use Rattle.fill_by_granule.proofs.Lying.{combine-of, combined-same}

-- between two granules of b
abbrev pub Combining : Lent → Lent → ℕ → ℕ → List ℤ → List ℤ → Reached → Cursor → Bool → Bool → Type 0
Combining a b at period old pool p cursor fresh labelled = Along Combine a b (row_of b old) (row_of a old) at period old pool p cursor fresh labelled

module _ (a b : Lent) (at period : ℕ) (old : List ℤ) where
  -- an instant that has no label in b gets none
  pub unlabelled : (u : ℕ) → meant (row_of b old) (pos u) ≡ none → none ≡ result (binary combine (row_of a old) (row_of b old)) (pos u)
  unlabelled u e = sym (combine-of (row_of a old) (row_of b old) (pos u) none (meant (row_of a old) (pos u)) e refl)

  -- before the first one
  pub combining-none : (q : Reached) (new : List ℤ) (cursor : Cursor) → Filling Combine a b at period old old false 0 → Led (row_of b old) at period old q new
      → cursor ≡ cursor_at (row_of a old) (pos q.t) → Combining a b at period old new q cursor false false
  combining-none = along-none Combine a b (row_of b old) (row_of a old) at period old unlabelled

  -- the granule k at p, whose instants get the label y
  module _ (new : List ℤ) (p : Reached) (cursor : Cursor) (fresh : Bool) (labelled : Bool) (h : Combining a b at period old new p cursor fresh labelled) (m : p.t < period)
      (k : ℤ) (e : meant (row_of b old) (pos p.t) ≡ some k) (q : Reached) (pool : List ℤ) (y : Option ℤ) (z : y ≡ result (binary combine (row_of a old) (row_of b old)) (pos p.t))
      (i : if_label y in_range ≡ true) (f : Stretched (cell_of y) k (row_of b old) at period new p q pool) where
    pub granule-on : p.t < q.t
    granule-on = along-on Combine a b (row_of b old) (row_of a old) at period old unlabelled new p cursor fresh labelled h m k e q pool y f

    pub combining-next : Valid (row_of b old) → (next : Cursor) → next ≡ cursor_at (row_of a old) (pos q.t) → Combining a b at period old pool q next true (is_some y || labelled)
    combining-next v =
        along-next Combine a b (row_of b old) (row_of a old) at period old unlabelled new p cursor fresh labelled h m k e q pool y f v i
        (λ u g. z ∙ combined-same (row_of a old) (row_of b old) v k (pos p.t) (pos u) e g)
