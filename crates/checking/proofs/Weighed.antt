-- A claimed row beside the working row: what the comparison decides.
-- Assumes nothing.
use Rattle.std.specs.Prelude.{Option, Err, Ok, Some, None, is_some}
use mathlib.Core.Path.{◌≡◌, refl, sym, ◌∙◌, ap}
use mathlib.Core.Bool.{Bool, true, false, cond}
use Prim.Native.Nat.{ℕ, ◌<◌}
use native.Mathlib.Omega.{arith}
use Rattle.calendar.specs.Meaning.{Row}
use Rattle.calendar.specs.Operation.{Operation}
use Rattle.calendar.specs.Operation.Operation.{bottom}
use Rattle.calendar.specs.Distance.{size}
use Rattle.calendar.specs.Compute.{result}
use Rattle.calendar.specs.Checks.{unlabelled, labels_in_range}
use Rattle.calendar.specs.declared.Refusal.TheVariants.{NothingLabelled, LabelOutsideLimits}
use Rattle.granules.proofs.Tests.{true≢false}
use Rattle.kinds.specs.declared.Kind.{Kind}
use Rattle.kinds.specs.declared.Kind.TheVariants.{Bottom, Group, Shift, Alter, Combine, Anchor, Select, ByLabels, Renumber}
use Rattle.kinds.specs.Operations.{operation_of, operands}
use Rattle.match_shared.specs.Matching.{agree, matched_as}
use Rattle.checking.specs.Weighing.{judged_as, weighed}

-- ---- by the comparison

none-either : (g : Bool) → cond {A = Option ℕ} g None None ≡ None
none-either true = refl
none-either false = refl

-- the row itself is compared
pub weighed-row : (o : Operation Row) (r : Row) (claim : Option ℕ) → judged_as (matched_as o r) claim ≡ weighed o r claim
weighed-row o r claim = by (unlabelled o) (labels_in_range o) (agree o r (size o).period)
  where
    by : (u l g : Bool)
        → judged_as (cond u (Err NothingLabelled) (cond l (Ok g) (Err LabelOutsideLimits))) claim
        ≡ cond u (Err NothingLabelled) (cond l (Ok (cond g claim None)) (Err LabelOutsideLimits))
    by true l g = refl
    by false true g = refl
    by false false g = refl

-- a row that cannot be right is not
weighed-none : (o : Operation Row) (r : Row)
    → weighed o r None ≡ cond (unlabelled o) (Err NothingLabelled) (cond (labels_in_range o) (Ok None) (Err LabelOutsideLimits))
weighed-none o r =
    ap (λ (x : Option ℕ). cond (unlabelled o) (Err NothingLabelled) (cond (labels_in_range o) (Ok x) (Err LabelOutsideLimits)))
    (none-either (agree o r (size o).period))

-- another stands in for it
pub weighed-other : (o : Operation Row) (r s : Row) (claim : Option ℕ) → is_some claim ≡ false → judged_as (matched_as o s) claim ≡ weighed o r claim
weighed-other o r s (Some end) e = absurd (true≢false refl e)
weighed-other o r s None e = by (unlabelled o) (labels_in_range o) (agree o s (size o).period) ∙ sym (weighed-none o r)
  where
    by : (u l g : Bool)
        → judged_as (cond u (Err NothingLabelled) (cond l (Ok g) (Err LabelOutsideLimits))) None
        ≡ cond u (Err NothingLabelled) (cond l (Ok None) (Err LabelOutsideLimits))
    by true l g = refl
    by false true g = ap Ok (none-either g)
    by false false g = refl

-- ---- bottom has labels, and none is outside the limits

bottom-labels : (unlabelled bottom ≡ false) × (labels_in_range bottom ≡ true)
unfolding unlabelled labels_in_range result size
bottom-labels = (refl, refl)

pub weighed-bottom : (kind : Kind) (a b r : Row) (claim : Option ℕ) → operands kind < 1 → is_some claim ≡ false → Ok None ≡ weighed (operation_of kind a b) r claim
weighed-bottom kind a b r (Some end) h e = absurd (true≢false refl e)
weighed-bottom Bottom a b r None h e = sym (weighed-none bottom r ∙ rw (bottom-labels.0, bottom-labels.1) refl)
weighed-bottom (Group x) a b r None h e = absurd (omega arith)
weighed-bottom (Shift x) a b r None h e = absurd (omega arith)
weighed-bottom (Alter w) a b r None h e = absurd (omega arith)
weighed-bottom Combine a b r None h e = absurd (omega arith)
weighed-bottom Anchor a b r None h e = absurd (omega arith)
weighed-bottom (Select s) a b r None h e = absurd (omega arith)
weighed-bottom (ByLabels s) a b r None h e = absurd (omega arith)
weighed-bottom (Renumber x) a b r None h e = absurd (omega arith)
