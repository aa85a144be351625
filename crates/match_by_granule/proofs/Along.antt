-- A loop that compares a claimed row r along the granules of a row, for any operation: what it keeps between two of them, and what holds behind the next one.
-- Assumes nothing.
use mathlib.Core.Path.{◌≡◌, refl, ◌∙◌, ap}
use mathlib.Core.Option.{Option, none, some}
use mathlib.Core.Bool.{Bool, true, false, ◌||◌}
use Prim.Native.Nat.{ℕ, ◌<◌}
use native.Mathlib.Omega.{arith}
use lib.IntN.{ℤ, pos}
use Rattle.integers.proofs.Linear.{ints}
use Rattle.calendar.specs.Meaning.{Row, meant}
use Rattle.calendar.specs.Operation.{Operation}
use Rattle.calendar.specs.Lists.{is_some, if_label, first}
use Rattle.calendar.specs.Granules.{granule}
use Rattle.calendar.specs.Compute.{result}
use Rattle.calendar.specs.Distance.{size}
use Rattle.calendar.specs.Limits.{in_range}
use Rattle.granules.specs.Valid.{Valid}
use Rattle.granules.proofs.Tests.{true≢false}
use Rattle.cursors.specs.declared.Cursor.{Cursor}
use Rattle.cursors.specs.Cursor.{cursor_at}
use Rattle.match_stretches.specs.declared.Compared.{Compared}
use Rattle.match_stretches.specs.Stretch.{Stretched, Led}
use Rattle.match_stretches.proofs.Stretching.{stretch-on, stretch-fresh, stretch-one}
use Rattle.match_stretches.proofs.Stages.{Stage, stage-led, stage-next}

-- the claimed row is compared up to p; the cursor of the other row is that of p, and a granule of the row that leads begins there if `fresh`
pub record Along (o : Operation Row) (lead other r : Row) (period : ℕ) (p : Compared) (cursor : Cursor) (fresh labelled : Bool) : Type 0 where
  pub stage : Stage o lead r period labelled p
  pub is-cursor : cursor ≡ cursor_at other (pos p.t)
  pub begins : fresh ≡ true → p.t < period → (l : ℤ) → meant lead (pos p.t) ≡ some l → pos p.t ≡ first (granule lead l)

-- an instant that has no label in the row that leads has none
module _ (o : Operation Row) (lead other r : Row) (period : ℕ) (is-period : period ≡ (size o).period) (unlabelled : (u : ℕ) → meant lead (pos u) ≡ none → none ≡ result o (pos u)) where
  -- before the first granule
  pub along-none : (q : Compared) (cursor : Cursor) → Led lead r period q → cursor ≡ cursor_at other (pos q.t) → Along o lead other r period q cursor false false
  along-none q cursor x e = record {
    stage = stage-led o lead r period is-period unlabelled q x;
    is-cursor = e;
    begins = λ f. absurd (true≢false f refl);
  }

  -- the granule j at p, whose instants have the label y
  module _ (p : Compared) (cursor : Cursor) (fresh labelled : Bool) (h : Along o lead other r period p cursor fresh labelled) (m : p.t < period)
      (j : ℤ) (e : meant lead (pos p.t) ≡ some j) (q : Compared) (y : Option ℤ) (x : Stretched y j lead r period p q) where
    pub along-on : p.t < q.t
    along-on = stretch-on y j lead r period p q x j e (simp ints (omega arith)) m

    pub along-next : Valid lead → if_label y in_range ≡ true → ((u : ℕ) → meant lead (pos u) ≡ some j → y ≡ result o (pos u)) → (next : Cursor) → next ≡ cursor_at other (pos q.t)
        → Along o lead other r period q next true (is_some y || labelled)
    along-next v i is next c = record {
      stage = stage-next o lead r period is-period unlabelled labelled p h.stage m y i j q x along-on
          (λ u l n k g. is u (g ∙ ap some (stretch-one y j lead r period p q x j e (simp ints (omega arith)) v refl u l n k g)));
      is-cursor = c;
      begins = λ d. stretch-fresh y j lead r period p q x j e (simp ints (omega arith)) v;
    }
