-- A loop that fills a working row stretch by stretch, for any kind, along the row r: what holds between two stretches.
-- Assumes nothing.
use mathlib.Core.Path.{◌≡◌, sym, subst}
use mathlib.Core.Option.{Option, none, some}
use mathlib.Core.Bool.{Bool, true, false, ◌||◌}
use mathlib.Core.List.{List}
use Prim.Native.Nat.{ℕ, ◌≤◌, ◌<◌}
use native.Mathlib.Omega.{arith}
use lib.IntN.{ℤ, pos}
use mir.Facts.{sfits_lit}
use mir.Syntax.{w32}
use mir.Val.{SFits}
use Rattle.calendar.specs.Meaning.{Row, meant}
use Rattle.calendar.specs.Operation.{Operation}
use Rattle.calendar.specs.Lists.{is_some, if_label}
use Rattle.calendar.specs.Compute.{result, cell_of}
use Rattle.calendar.specs.Limits.{in_range}
use Rattle.calendar.specs.Sound.{sound}
use Rattle.kinds.specs.declared.Kind.{Kind}
use Rattle.kinds.specs.Operations.{operation_of}
use Rattle.fill_shared.proofs.Working.{range-fits}
use Rattle.fill_shared.proofs.Filling.{Lent, Filling, row_of, filling-length, a-kept, b-kept}
use Rattle.fill_stretches.specs.declared.Reached.{Reached}
use Rattle.fill_stretches.specs.Stretch.{Room, Follows, Stretched, Led}
use Rattle.fill_stretches.proofs.Stretching.{filling-led, filling-stretched}

-- a label within the limits fits a cell
pub cell-fits : (y : Option ℤ) → if_label y in_range ≡ true → SFits w32 (cell_of y)
cell-fits none e = sfits_lit tt
cell-fits (some j) e = range-fits j e

-- the working row is filled up to p, which has a label in r, or is behind them all
pub record Stage (k : Kind) (a b : Lent) (r : Row) (at period : ℕ) (old pool : List ℤ) (labelled : Bool) (p : Reached) : Type 0 where
  pub filling : Filling k a b at period old pool labelled p.t
  pub follows : Follows r period p
  pub stops : p.t < period → (l : ℤ) × (meant r (pos p.t) ≡ some l)

module _ (k : Kind) (a b : Lent) (at period : ℕ) (old : List ℤ) where
  abbrev o : Operation Row
  o = operation_of k (row_of a old) (row_of b old)

  -- there is room for a stretch along one of the operands
  module _ (new : List ℤ) (labelled : Bool) (t : ℕ) (h : Filling k a b at period old new labelled t) where
    pub room-a : sound (row_of a old) ≡ true → Room a.start a.end a.period a.distance at period new
    room-a s = let l = h.lends in let e = filling-length k a b at period old new labelled t h in record {
      is-sound = subst (λ (r : Row). sound r ≡ true) (sym (a-kept k a b at period old new labelled t h)) s;
      starts = l.a-start;
      ends = l.a-end;
      room = omega (arith, l.room);
      few = omega (arith, l.few);
    }

    pub room-b : sound (row_of b old) ≡ true → Room b.start b.end b.period b.distance at period new
    room-b s = let l = h.lends in let e = filling-length k a b at period old new labelled t h in record {
      is-sound = subst (λ (r : Row). sound r ≡ true) (sym (b-kept k a b at period old new labelled t h)) s;
      starts = l.b-start;
      ends = l.b_end;
      room = omega (arith, l.room);
      few = omega (arith, l.few);
    }

  module _ (r : Row) (unlabelled : (u : ℕ) → meant r (pos u) ≡ none → none ≡ result o (pos u)) where
    -- before the first stretch
    pub stage-led : (q : Reached) (new : List ℤ) → Filling k a b at period old old false 0 → Led r at period old q new → Stage k a b r at period old new false q
    stage-led q new h x = record { filling = filling-led k a b at period old r q new h x unlabelled; follows = x.follows; stops = x.stops }

    -- behind a stretch whose instants have the label y
    pub stage-next : (new : List ℤ) (labelled : Bool) (p : Reached) → Stage k a b r at period old new labelled p → (m : p.t < period) (y : Option ℤ) → if_label y in_range ≡ true → (z : ℤ) (q : Reached) (pool : List ℤ)
        → Stretched (cell_of y) z r at period new p q pool → p.t < q.t → ((u : ℕ) (l : ℤ) → p.t ≤ u → u < q.t → meant r (pos u) ≡ some l → y ≡ result o (pos u))
        → Stage k a b r at period old pool (is_some y || labelled) q
    stage-next new labelled p s m y i z q pool x n same =
        let e = s.stops m in
        record {
          filling = filling-stretched k a b at period old r y i new labelled p s.filling z q pool e.0 x e.1 n unlabelled same;
          follows = x.follows;
          stops = λ j. let w = x.stops j in (w.0, w.1);
        }
