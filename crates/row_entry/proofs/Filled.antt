-- The working row of an operation that has passed its checks, filled in behind the rows of a pool.
-- Assumes nothing.
use mathlib.Core.Path.{◌≡◌, sym, ◌∙◌, ap, subst}
use mathlib.Core.Bool.{true, false}
use mathlib.Core.List.{List, ◌++◌}
use Prim.Native.Nat.{ℕ, ◌+◌, ◌≤◌}
use native.Mathlib.Omega.{arith}
use lib.IntN.{ℤ, pos}
use lib.ListN.{length, take, drop, length-append, length-drop}
use lib.Seq.{length-take-le, take_at, drop_at}
use Rattle.integers.specs.Parts.{up}
use Rattle.integers.proofs.Linear.{ints}
use Rattle.calendar.specs.Meaning.{Row}
use Rattle.calendar.specs.Operation.{Operation}
use Rattle.calendar.specs.Distance.{size}
use Rattle.calendar.specs.Compute.{working}
use Rattle.calendar.specs.Checks.{unlabelled, labels_in_range}
use Rattle.calendar.specs.Limits.{in_range, pool_limit}
use Rattle.calendar.specs.Sound.{labels_of, cells_in_range, sound}
use Rattle.calendar.specs.Least.{least}
use Rattle.calendar.specs.Questions.{given}
use Rattle.granules.specs.Valid.{Valid}
use Rattle.granules.proofs.Lists.{all-iff}
use Rattle.granules.proofs.Rows.{labels-mem, label-index, cell-meant}
use Rattle.granules.proofs.Sound.{sound-limits, valid-sound}
use Rattle.algebra.specs.Ready.{Operands, Ready}
use Rattle.algebra.proofs.Operations.{operands-weaken}
use Rattle.algebra.proofs.Right.{right, size-dense}
use Rattle.algebra.proofs.Working.{in_range-iff, labelled-some, labels-in-range, working-means, working-valid}
use Rattle.operand_checks.specs.declared.Extent.{Extent}
use Rattle.operand_checks.specs.Admission.{extent}
use Rattle.row_entry.specs.Entering.{Worked, Added}

-- ---- the working row

module _ (o : Operation Row) (ready : Ready o) (some-label : unlabelled o ≡ false) (range : labels_in_range o ≡ true) where
  working-is-valid : Valid (working o)
  working-is-valid = working-valid o (right o ready) range (labelled-some o (right o ready) some-label)

  -- as many cells as its period says
  pub working-length : length (working o).cells ≡ (size o).period
  unfolding working
  working-length = working-is-valid.whole

  working-range : cells_in_range (working o) ≡ true
  working-range =
      (all-iff in_range (labels_of (working o).cells)).1 (λ j h.
      let m = labels-mem (working o).cells j h in
      let l = label-index (working o).cells m.0 j m.1 in
      (in_range-iff j).1 (labels-in-range o range (pos m.0) (simp ints (omega arith)) (simp ints (omega (arith, l, working-length))) j
      (sym (working-means o (right o ready) range (pos m.0)) ∙ cell-meant (working o) working-is-valid.whole m.0 j m.1)))

  pub working-sound : Operands (λ r. sound r ≡ true) o → (size o).period ≤ pool_limit → sound (working o) ≡ true
  unfolding working
  working-sound h fits =
      valid-sound (working o) working-is-valid (size-dense o ready (operands-weaken (λ r k. (sound-limits r k).0) o h)) fits working-range

-- ---- in the pool

module _ (o : Operation Row) (used : ℕ) (pool after : List ℤ) (fits : used + (size o).period ≤ length pool) (length-is : length (working o).cells ≡ (size o).period)
    (is : after ≡ take used pool ++ ((working o).cells ++ drop (used + (size o).period) pool)) where
  before-is : take used after ≡ take used pool
  before-is = ap (take used) is ∙ take_at (take used pool) _ used (length-take-le used pool (omega arith))

  from_is : drop used after ≡ (working o).cells ++ drop (used + (size o).period) pool
  from_is = ap (drop used) is ∙ drop_at (take used pool) _ used (length-take-le used pool (omega arith))

  cells_are : take (size o).period (drop used after) ≡ (working o).cells
  cells_are = ap (take (size o).period) from_is ∙ take_at (working o).cells _ (size o).period length-is

  after-length : length after ≡ length pool
  after-length = ap length is ∙ simp (length-append, length-drop) (omega (arith, length-take-le used pool (omega arith)))

  -- the row that stands there
  row_is : given (extent o).period (extent o).distance (take (up (extent o).period) (drop used after)) ≡ working o
  unfolding working
  row_is = λ i. record { period = (size o).period; distance = (size o).distance; cells = cells_are i }

  pub worked : (x : Extent) → extent o ≡ x → length pool ≤ pool_limit → sound (working o) ≡ true
      → Worked x.period x.distance used after
  worked x e limit s =
      subst (λ (x : Extent). Worked x.period x.distance used after) e (record {
        low = simp ints (omega arith);
        is-sound = ap sound row_is ∙ s;
        fits = omega (arith, after-length);
        at-most = omega (arith, after-length);
      })

  -- the least row is added to the pool as it was
  pub added-before : (x : Extent) → extent o ≡ x → (k : ℕ) (numbers headings : List ℕ) (e : ℕ) (last : List ℤ)
      → Added k used numbers after (least (given x.period x.distance (take (up x.period) (drop used after)))) e headings last
      → Added k used numbers pool (least (working o)) e headings last
  added-before x e k numbers headings end last h =
      let a = subst (λ (r : Row). Added k used numbers after (least r) end headings last) row_is
      (subst (λ (x : Extent). Added k used numbers after (least (given x.period x.distance (take (up x.period) (drop used after)))) end headings last) (sym e) h) in
      record {
        heading = a.heading;
        cells = a.cells ∙ ap (λ (front : List ℤ). front ++ (least (working o)).cells) before-is;
        ends = a.ends;
      }
