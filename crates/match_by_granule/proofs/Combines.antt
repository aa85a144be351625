-- What the loop of combine keeps between two granules of b, and what holds behind the next one.
-- Assumes nothing.
use mathlib.Core.Path.{◌≡◌, refl, sym, ◌∙◌}
use mathlib.Core.Option.{Option, none, some}
use mathlib.Core.Bool.{Bool, true, false, ◌||◌}
use Prim.Native.Nat.{ℕ, ◌<◌}
use lib.IntN.{ℤ, pos}
use Rattle.calendar.specs.Meaning.{Row, meant}
use Rattle.calendar.specs.Operation.Binary.{combine}
use Rattle.calendar.specs.Operation.Operation.{binary}
use Rattle.calendar.specs.Lists.{is_some, if_label}
use Rattle.calendar.specs.Compute.{result}
use Rattle.calendar.specs.Distance.{size}
use Rattle.calendar.specs.Limits.{in_range}
use Rattle.granules.specs.Valid.{Valid}
use Rattle.cursors.specs.declared.Cursor.{Cursor}
use Rattle.cursors.specs.Cursor.{cursor_at}
use Rattle.fill_by_granule.proofs.Lying.{combine-of, combined-same}
use Rattle.match_stretches.specs.declared.Compared.{Compared}
use Rattle.match_stretches.specs.Stretch.{Stretched, Led}
use Rattle.match_by_granule.proofs.Along.{Along, along-none, along-on, along-next}

-- between two granules of b
abbrev pub Combining : Row → Row → Row → ℕ → Compared → Cursor → Bool → Bool → Type 0
Combining a b r period p cursor fresh labelled = Along (binary combine a b) b a r period p cursor fresh labelled

module _ (a b r : Row) (period : ℕ) (is-period : period ≡ (size (binary combine a b)).period) where
  -- an instant that has no label in b has none
  unlabelled : (u : ℕ) → meant b (pos u) ≡ none → none ≡ result (binary combine a b) (pos u)
  unlabelled u e = sym (combine-of a b (pos u) none (meant a (pos u)) e refl)

  -- before the first one
  pub combining-none : (q : Compared) (cursor : Cursor) → Led b r period q → cursor ≡ cursor_at a (pos q.t) → Combining a b r period q cursor false false
  combining-none = along-none (binary combine a b) b a r period is-period unlabelled

  -- the granule k at p, whose instants have the label y
  module _ (p : Compared) (cursor : Cursor) (fresh labelled : Bool) (h : Combining a b r period p cursor fresh labelled) (m : p.t < period) (k : ℤ) (e : meant b (pos p.t) ≡ some k)
      (q : Compared) (y : Option ℤ) (x : Stretched y k b r period p q) where
    pub granule-on : p.t < q.t
    granule-on = along-on (binary combine a b) b a r period is-period unlabelled p cursor fresh labelled h m k e q y x

    pub combining-next : Valid b → y ≡ result (binary combine a b) (pos p.t) → if_label y in_range ≡ true → (next : Cursor) → next ≡ cursor_at a (pos q.t)
        → Combining a b r period q next true (is_some y || labelled)
    combining-next v z i =
        along-next (binary combine a b) b a r period is-period unlabelled p cursor fresh labelled h m k e q y x v i
        (λ u g. z ∙ combined-same a b v k (pos p.t) (pos u) e g)
