-- A loop that compares a claimed row r stretch by stretch, for any operation, along the row a: what holds between two stretches.
-- Assumes nothing.
use mathlib.Core.Path.{◌≡◌}
use mathlib.Core.Option.{Option, none, some}
use mathlib.Core.Bool.{Bool, true, false, ◌||◌}
use Prim.Native.Nat.{ℕ, ◌≤◌, ◌<◌}
use lib.IntN.{ℤ, pos}
use Rattle.calendar.specs.Meaning.{Row, meant}
use Rattle.calendar.specs.Operation.{Operation}
use Rattle.calendar.specs.Lists.{is_some, if_label}
use Rattle.calendar.specs.Compute.{result}
use Rattle.calendar.specs.Distance.{size}
use Rattle.calendar.specs.Limits.{in_range}
use Rattle.match_shared.specs.Seen.{Seen}
use Rattle.match_stretches.specs.declared.Compared.{Compared}
use Rattle.match_stretches.specs.Stretch.{Follows, Stretched, Led}
use Rattle.match_stretches.proofs.Stretching.{seen-led, seen-stretched}

-- the instants up to p are seen, which has a label in a, or is behind them all
pub record Stage (o : Operation Row) (a r : Row) (period : ℕ) (labelled : Bool) (p : Compared) : Type 0 where
  pub seen : Seen o r p.t labelled p.same
  pub follows : Follows a r period p
  pub stops : p.t < period → (l : ℤ) × (meant a (pos p.t) ≡ some l)

-- an instant that has no label in a has none
module _ (o : Operation Row) (a r : Row) (period : ℕ) (is-period : period ≡ (size o).period) (unlabelled : (u : ℕ) → meant a (pos u) ≡ none → none ≡ result o (pos u)) where
  -- before the first stretch
  pub stage-led : (q : Compared) → Led a r period q → Stage o a r period false q
  stage-led q x = record { seen = seen-led o a r period is-period unlabelled q x; follows = x.follows; stops = x.stops }

  -- behind a stretch whose instants have the label y
  pub stage-next : (labelled : Bool) (p : Compared) → Stage o a r period labelled p → p.t < period → (y : Option ℤ) → if_label y in_range ≡ true → (h : ℤ) (q : Compared)
      → Stretched y h a r period p q → p.t < q.t → ((u : ℕ) (l : ℤ) → p.t ≤ u → u < q.t → meant a (pos u) ≡ some l → y ≡ result o (pos u))
      → Stage o a r period (is_some y || labelled) q
  stage-next labelled p s m y i h q x n is =
      let e = s.stops m in
      record {
        seen = seen-stretched o a r period is-period unlabelled y i h labelled p q s.seen x e.0 e.1 n is;
        follows = x.passed.follows;
        stops = λ k. let w = x.stops k in (w.0, w.1);
      }
