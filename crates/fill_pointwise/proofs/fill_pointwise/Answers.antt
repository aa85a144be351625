-- `fill_pointwise::fill_pointwise` meets its contract: each way does.
-- Assumes nothing.
use Rattle.calendar.specs.declared.Refusal.{Refusal}
use Rattle.std.specs.Prelude.{Result, ⊤}
use mathlib.Core.Path.{◌≡◌, sym, subst}
use mathlib.Core.List.{List}
use lib.IntN.{ℤ}
use mir.Facts.{to_z-of_z}
use mir.Syntax.{w64}
use mir.Val.{to_z, of_z}
use Rattle.kinds.specs.Operations.{operation_of}
use Rattle.kinds.specs.Stands.{row_in}
use Rattle.fill_shared.specs.Fillable.{Fillable}
use Rattle.fill_shared.specs.Placed.{Placed, Fills}
use Rattle.fill_pointwise.specs.declared.Pointwise.{Pointwise}
use Rattle.fill_pointwise.specs.Decided.{kind_of}
use Rattle.fill_pointwise.proofs.fill_pointwise.Goals as goal
use Rattle.fill_pointwise.proofs.fill_pointwise.Goals.{In-Anchor, In-ByLabels-2, Start}

-- what the loop of the kind that the match found is given, and what it ensures
module _ (s : Start) (k : Pointwise) (e : s.args.by ≡ k) where
  asked : let a = s.args in Fillable (kind_of k) (row_in a.pool.now a.a) (row_in a.pool.now a.b)
      × Placed (kind_of k) a.a a.b (to_z w64 (of_z w64 a.span)) a.at a.period a.pool.now
  asked =
      let a = s.args in
      let p = a.pool.now in
      rw (to_z-of_z s.ranges.span)
      (subst (λ (m : Pointwise). Fillable (kind_of m) (row_in p a.a) (row_in p a.b) × Placed (kind_of m) a.a a.b a.span a.at a.period p) e (s.requires.fillable, s.requires.placed))

  filled : (new : List ℤ) (r : Result ⊤ Refusal) → let a = s.args in
      Fills (operation_of (kind_of k) (row_in a.pool.now a.a) (row_in a.pool.now a.b)) a.at a.period a.pool.now new r
      → Fills (operation_of (kind_of a.by) (row_in a.pool.now a.a) (row_in a.pool.now a.b)) a.at a.period a.pool.now new r
  filled new r h =
      let a = s.args in
      let p = a.pool.now in
      subst (λ (m : Pointwise). Fills (operation_of (kind_of m) (row_in p a.a) (row_in p a.b)) a.at a.period p new r) (sym e) h

pub fill_stepped-requires : goal.fill_stepped-requires
fill_stepped-requires c = record { fillable = (asked (goal.at.fill_stepped-requires c).Start _ c.in-Anchor.is).0; placed = (asked (goal.at.fill_stepped-requires c).Start _ c.in-Anchor.is).1 }

pub fill_set-requires : goal.fill_set-requires
fill_set-requires c = record { fillable = (asked (goal.at.fill_set-requires c).Start _ c.in-ByLabels.is).0; placed = (asked (goal.at.fill_set-requires c).Start _ c.in-ByLabels.is).1 }

pub returns-in-Anchor : goal.returns-in-Anchor
returns-in-Anchor c = filled (goal.at.returns-in-Anchor c).Start _ c.in-Anchor.is _ _ c.fill_stepped.ensures

pub returns-in-ByLabels : goal.returns-in-ByLabels
returns-in-ByLabels c = filled (goal.at.returns-in-ByLabels c).Start _ c.in-ByLabels.is _ _ c.fill_set.ensures
