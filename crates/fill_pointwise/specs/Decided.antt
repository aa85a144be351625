-- What anchor and the set operations make of the labels of an instant. Where the operands are aligned, it is their result there.
use Rattle.std.proofs.Math.Option.{Option, none, some}
use Rattle.std.specs.Prelude.{ℤ}
use Rattle.calendar.specs.Lists.{on_label}
use Rattle.kinds.specs.declared.SetOperation.{SetOperation}
use Rattle.kinds.specs.declared.SetOperation.TheVariants.{Union, Intersection, Difference}
use Rattle.kinds.specs.declared.Kind.{Kind}
use Rattle.kinds.specs.declared.Kind.TheVariants as Kinds
use Rattle.fill_pointwise.specs.declared.Pointwise.{Pointwise}
use Rattle.fill_pointwise.specs.declared.Pointwise.TheVariants.{Anchor, ByLabels}

abbrev pub kind_of : Pointwise → Kind
kind_of Anchor = Kinds.Anchor
kind_of (ByLabels s) = Kinds.ByLabels s

-- the label of a set operation, by the labels in a and in b
abbrev pub set_label : SetOperation → Option ℤ → Option ℤ → Option ℤ
set_label Union (some j) y = some j
set_label Union none y = y
set_label Intersection x (some k) = x
set_label Intersection x none = none
set_label Difference x (some k) = none
set_label Difference x none = x

-- the label of either, by those and the last label of b
abbrev pub decided_label : Pointwise → Option ℤ → Option ℤ → ℤ → Option ℤ
decided_label Anchor x y last = on_label x (λ j. some last)
decided_label (ByLabels s) x y last = set_label s x y

-- the last label of b, by the one before and that of the instant
abbrev pub later_label : ℤ → Option ℤ → ℤ
later_label last none = last
later_label last (some k) = k
