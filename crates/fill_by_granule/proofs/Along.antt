-- A loop along the granules of a row, for any kind: what it keeps between two of them, and what holds behind the next one.
-- Assumes nothing.
use mathlib.Core.Path.{◌≡◌, refl, ◌∙◌, ap}
use mathlib.Core.Option.{Option, none, some}
use mathlib.Core.Bool.{Bool, true, false, ◌||◌}
use mathlib.Core.List.{List}
use Prim.Native.Nat.{ℕ, ◌<◌}
use native.Mathlib.Omega.{arith}
use lib.IntN.{ℤ, pos}
use Rattle.integers.proofs.Linear.{ints}
use Rattle.calendar.specs.Meaning.{Row, meant}
use Rattle.calendar.specs.Lists.{is_some, if_label, first}
use Rattle.calendar.specs.Granules.{granule}
use Rattle.calendar.specs.Compute.{result, cell_of}
use Rattle.calendar.specs.Limits.{in_range}
use Rattle.granules.specs.Valid.{Valid}
use Rattle.granules.proofs.Tests.{true≢false}
use Rattle.cursors.specs.declared.Cursor.{Cursor}
use Rattle.cursors.specs.Cursor.{cursor_at}
use Rattle.kinds.specs.declared.Kind.{Kind}
use Rattle.kinds.specs.Operations.{operation_of}
use Rattle.fill_shared.proofs.Filling.{Lent, Filling, row_of}
use Rattle.fill_stretches.specs.declared.Reached.{Reached}
use Rattle.fill_stretches.specs.Stretch.{Stretched, Led}
use Rattle.fill_stretches.proofs.Stretching.{stretch-on, stretch-fresh, stretch-one}
use Rattle.fill_stretches.proofs.Stages.{Stage, stage-led, stage-next}

-- the working row is filled up to p; the cursor of the other row is that of p, and a granule of the row that leads begins there if `fresh`
pub record Along (k : Kind) (a b : Lent) (lead other : Row) (at period : ℕ) (old pool : List ℤ) (p : Reached) (cursor : Cursor) (fresh labelled : Bool) : Type 0 where
  pub stage : Stage k a b lead at period old pool labelled p
  pub is-cursor : cursor ≡ cursor_at other (pos p.t)
  pub begins : fresh ≡ true → p.t < period → (l : ℤ) → meant lead (pos p.t) ≡ some l → pos p.t ≡ first (granule lead l)

-- an instant that has no label in the row that leads gets none
module _ (k : Kind) (a b : Lent) (lead other : Row) (at period : ℕ) (old : List ℤ)
    (unlabelled : (u : ℕ) → meant lead (pos u) ≡ none → none ≡ result (operation_of k (row_of a old) (row_of b old)) (pos u)) where
  -- before the first granule
  pub along-none : (q : Reached) (new : List ℤ) (cursor : Cursor) → Filling k a b at period old old false 0 → Led lead at period old q new
      → cursor ≡ cursor_at other (pos q.t) → Along k a b lead other at period old new q cursor false false
  along-none q new cursor h x e = record {
    stage = stage-led k a b at period old lead unlabelled q new h x;
    is-cursor = e;
    begins = λ f. absurd (true≢false f refl);
  }

  -- the granule j at p, whose instants get the label y
  module _ (new : List ℤ) (p : Reached) (cursor : Cursor) (fresh labelled : Bool) (h : Along k a b lead other at period old new p cursor fresh labelled) (m : p.t < period)
      (j : ℤ) (e : meant lead (pos p.t) ≡ some j) (q : Reached) (pool : List ℤ) (y : Option ℤ) (f : Stretched (cell_of y) j lead at period new p q pool) where
    pub along-on : p.t < q.t
    along-on = stretch-on (cell_of y) j lead at period new pool p q f j e (simp ints (omega arith)) m

    pub along-next : Valid lead → if_label y in_range ≡ true → ((u : ℕ) → meant lead (pos u) ≡ some j → y ≡ result (operation_of k (row_of a old) (row_of b old)) (pos u))
        → (next : Cursor) → next ≡ cursor_at other (pos q.t) → Along k a b lead other at period old pool q next true (is_some y || labelled)
    along-next v i same next c = record {
      stage = stage-next k a b at period old lead unlabelled new labelled p h.stage m y i j q pool f along-on
          (λ u l n o g. same u (g ∙ ap some (stretch-one (cell_of y) j lead at period new pool p q f j e (simp ints (omega arith)) v refl u l n o g)));
      is-cursor = c;
      begins = λ d. stretch-fresh (cell_of y) j lead at period new pool p q f j e (simp ints (omega arith)) v;
    }
