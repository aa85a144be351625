-- The loop that groups labels along a row, stretch by stretch: what holds between two stretches, and behind the next one.
-- Assumes nothing.
use mathlib.Core.Path.{◌≡◌, sym, ◌∙◌, ap}
use mathlib.Core.Option.{none, some}
use mathlib.Core.Bool.{Bool, true, false}
use mathlib.Core.List.{List}
use Prim.Native.Nat.{ℕ, ◌≤◌, ◌<◌}
use native.Mathlib.Omega.{arith}
use lib.IntN.{ℤ, pos}
use lib.Signed.{◌≤ℤ◌}
use Rattle.integers.specs.Parts.{up}
use Rattle.integers.specs.Floor.{ceil_div}
use Rattle.integers.proofs.Linear.{ints, ◌∴◌}
use Rattle.calendar.specs.Meaning.{Row, meant}
use Rattle.calendar.specs.Operation.{Operation}
use Rattle.calendar.specs.Compute.{result}
use Rattle.calendar.specs.Limits.{in_range}
use Rattle.granules.proofs.Sound.{sound-valid}
use Rattle.kinds.specs.declared.Kind.TheVariants.{Group}
use Rattle.kinds.specs.Operations.{operation_of}
use Rattle.fill_shared.specs.declared.Known.{Known}
use Rattle.fill_shared.proofs.Filling.{Lent, Filling, row_of}
use Rattle.fill_stretches.specs.declared.Reached.{Reached}
use Rattle.fill_stretches.specs.Stretch.{Stretched, Led}
use Rattle.fill_stretches.proofs.Stretching.{stretch-on}
use Rattle.fill_stretches.proofs.Stages.{Stage, stage-led, stage-next}
use Rattle.fill_unary.proofs.Groups.{group_of}

-- the working row is filled up to p
pub record Grouping (x : ℤ) (a : Lent) (at period : ℕ) (old pool : List ℤ) (p : Reached) : Type 0 where
  pub labelled : Bool
  pub stage : Stage (Group x) a a (row_of a old) at period old pool labelled p

-- the group of the label j, with labels that it has
abbrev pub GroupOf : ℤ → ℤ → Known → Type 0
GroupOf x j k = (k.number ≡ ceil_div j (up x)) × (((i : ℤ) → k.low ≤ℤ i → i ≤ℤ k.high → ceil_div i (up x) ≡ k.number) × ((k.low ≤ℤ j) × (j ≤ℤ k.high)))

module _ (x : ℤ) (a : Lent) (at period : ℕ) (old : List ℤ) where
  abbrev row : Row
  row = row_of a old

  abbrev o : Operation Row
  o = operation_of (Group x) row row

  -- an instant that has no label in a gets none
  unlabelled : (u : ℕ) → meant row (pos u) ≡ none → none ≡ result o (pos u)
  unlabelled u e = sym (group_of (up x) row (pos u) none e)

  -- before the first stretch
  pub grouping-led : (q : Reached) (new : List ℤ) → Filling (Group x) a a at period old old false 0 → Led row at period old q new → Grouping x a at period old new q
  grouping-led q new h f = record { labelled = false; stage = stage-led (Group x) a a at period old row unlabelled q new h f }

  -- the label j at p, and its group
  module _ (new : List ℤ) (p : Reached) (h : Grouping x a at period old new p) (m : p.t < period) (j : ℤ) (e : meant row (pos p.t) ≡ some j) (k : Known) (g : GroupOf x j k) where
    pub group-label : some k.number ≡ result o (pos p.t)
    group-label = ap some g.0 ∙ sym (group_of (up x) row (pos p.t) (some j) e)

    -- behind its stretch
    module _ (q : Reached) (pool : List ℤ) (f : Stretched k.number k.high row at period new p q pool) where
      pub group-on : p.t < q.t
      group-on = stretch-on k.number k.high row at period new pool p q f j e g.1.1.1 m

      same : (u : ℕ) (l : ℤ) → p.t ≤ u → u < q.t → meant row (pos u) ≡ some l → some k.number ≡ result o (pos u)
      same u l c d i =
          let low = (sound-valid row h.stage.filling.lends.is-fillable.sounds.0).ordered (pos p.t) (pos u) j l (simp ints (omega arith)) e i in
          let n = g.1.0 l (g.1.1.0 ∴ low ∴ simp ints (omega arith)) (f.below u l c d i) in
          ap some (sym n) ∙ sym (group_of (up x) row (pos u) (some l) i)

      pub grouping-next : in_range k.number ≡ true → Grouping x a at period old pool q
      grouping-next r = record { labelled = _; stage = stage-next (Group x) a a at period old row unlabelled new h.labelled p h.stage m (some k.number) r k.high q pool f group-on same }
