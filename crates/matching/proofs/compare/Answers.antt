-- `matching::compare` meets its contract: each kind has a loop that does.
-- Assumes nothing.
use Rattle.calendar.specs.declared.Refusal.{Refusal}
use Rattle.std.specs.Prelude.{Result, Bool}
use borrow.Author.Rules.{rules}
use mathlib.Core.Path.{◌≡◌, sym, ◌∙◌, ap, subst}
use mir.Facts.{to_z-of_z}
use mir.Syntax.{w64}
use mir.Val.{to_z, of_z}
use Rattle.kinds.specs.declared.Kind.{Kind}
use Rattle.kinds.specs.declared.Kind.TheVariants.{Group, Shift, Renumber}
use Rattle.kinds.specs.Operations.{operation_of}
use Rattle.kinds.specs.Stands.{row_in}
use Rattle.fill_shared.specs.Fillable.{Fillable}
use Rattle.match_shared.specs.Claims.{Claimed}
use Rattle.match_shared.specs.Matching.{matched_as}
use Rattle.matching.proofs.compare.Goals as goal
use Rattle.matching.proofs.compare.Goals.{Start}

-- what the loop of the kind that the match found is given, and what it ensures
module _ (s : Start) (k : Kind) (e : s.args.kind ≡ k) where
  asked : let a = s.args in let p = a.pool.now in
      Fillable k (row_in p a.a) (row_in p a.b) × Claimed k a.a a.b a.r (to_z w64 (of_z w64 a.span)) a.period p
  asked =
      let a = s.args in
      let p = a.pool.now in
      rw (to_z-of_z s.ranges.span)
      (subst (λ (m : Kind). Fillable m (row_in p a.a) (row_in p a.b) × Claimed m a.a a.b a.r a.span a.period p) e (s.requires.fillable, s.requires.claimed))

  found : (m : Result Bool Refusal) → let a = s.args in let p = a.pool.now in
      m ≡ matched_as (operation_of k (row_in p a.a) (row_in p a.b)) (row_in p a.r)
      → m ≡ matched_as (operation_of a.kind (row_in p a.a) (row_in p a.b)) (row_in p a.r)
  found m h =
      let a = s.args in
      let p = a.pool.now in
      subst (λ (x : Kind). m ≡ matched_as (operation_of x (row_in p a.a) (row_in p a.b)) (row_in p a.r)) (sym e) h

pub match_unary-requires : goal.match_unary-requires
match_unary-requires c = let x = asked (goal.at.match_unary-requires c).Start _ (c.in-Group.is ∙ ap Group (sym (to_z-of_z {w = w64} {z = c.in-Group.x} (search rules)))) in record { fillable = x.0; claimed = x.1 }

pub returns-in-Group : goal.returns-in-Group
returns-in-Group c = found (goal.at.returns-in-Group c).Start _ (c.in-Group.is ∙ ap Group (sym (to_z-of_z {w = w64} {z = c.in-Group.x} (search rules)))) _ c.match_unary.ensures

pub match_unary-requires-in-Shift : goal.match_unary-requires-in-Shift
match_unary-requires-in-Shift c = let x = asked (goal.at.match_unary-requires-in-Shift c).Start _ (c.in-Shift.is ∙ ap Shift (sym (to_z-of_z {w = w64} {z = c.in-Shift.x} (search rules)))) in record { fillable = x.0; claimed = x.1 }

pub returns-in-Shift : goal.returns-in-Shift
returns-in-Shift c = found (goal.at.returns-in-Shift c).Start _ (c.in-Shift.is ∙ ap Shift (sym (to_z-of_z {w = w64} {z = c.in-Shift.x} (search rules)))) _ c.match_unary-in-Shift.ensures

pub match_unary-requires-in-Renumber : goal.match_unary-requires-in-Renumber
match_unary-requires-in-Renumber c = let x = asked (goal.at.match_unary-requires-in-Renumber c).Start _ (c.in-Renumber.is ∙ ap Renumber (sym (to_z-of_z {w = w64} {z = c.in-Renumber.x} (search rules)))) in record { fillable = x.0; claimed = x.1 }

pub returns-in-Renumber : goal.returns-in-Renumber
returns-in-Renumber c = found (goal.at.returns-in-Renumber c).Start _ (c.in-Renumber.is ∙ ap Renumber (sym (to_z-of_z {w = w64} {z = c.in-Renumber.x} (search rules)))) _ c.match_unary-in-Renumber.ensures

pub match_alter-requires : goal.match_alter-requires
match_alter-requires c = let x = asked (goal.at.match_alter-requires c).Start _ c.in-Alter.is in record { fillable = x.0; claimed = x.1 }

pub returns-in-Alter : goal.returns-in-Alter
returns-in-Alter c = found (goal.at.returns-in-Alter c).Start _ c.in-Alter.is _ c.match_alter.ensures

pub match_combine-requires : goal.match_combine-requires
match_combine-requires c = let x = asked (goal.at.match_combine-requires c).Start _ c.in-Combine.is in record { fillable = x.0; claimed = x.1 }

pub returns-in-Combine : goal.returns-in-Combine
returns-in-Combine c = found (goal.at.returns-in-Combine c).Start _ c.in-Combine.is _ c.match_combine.ensures

pub match_pointwise-requires : goal.match_pointwise-requires
match_pointwise-requires c = let x = asked (goal.at.match_pointwise-requires c).Start _ c.in-Anchor.is in record { fillable = x.0; claimed = x.1 }

pub returns-in-Anchor : goal.returns-in-Anchor
returns-in-Anchor c = found (goal.at.returns-in-Anchor c).Start _ c.in-Anchor.is _ c.match_pointwise.ensures

pub match_select-requires : goal.match_select-requires
match_select-requires c = let x = asked (goal.at.match_select-requires c).Start _ c.in-Select.is in record { fillable = x.0; claimed = x.1 }

pub returns-in-Select : goal.returns-in-Select
returns-in-Select c = found (goal.at.returns-in-Select c).Start _ c.in-Select.is _ c.match_select.ensures

pub match_pointwise-requires-in-ByLabels : goal.match_pointwise-requires-in-ByLabels
match_pointwise-requires-in-ByLabels c = let x = asked (goal.at.match_pointwise-requires-in-ByLabels c).Start _ c.in-ByLabels.is in record { fillable = x.0; claimed = x.1 }

pub returns-in-ByLabels : goal.returns-in-ByLabels
returns-in-ByLabels c = found (goal.at.returns-in-ByLabels c).Start _ c.in-ByLabels.is _ c.match_pointwise-in-ByLabels.ensures

pub match_bottom-requires : goal.match_bottom-requires
match_bottom-requires c = let s = (goal.at.match_bottom-requires c).Start in record { pos_bound = s.requires.claimed.r-period; stands = s.requires.claimed.claim }

pub returns-in-Bottom : goal.returns-in-Bottom
returns-in-Bottom c = found (goal.at.returns-in-Bottom c).Start _ c.in-Bottom.is _ c.match_bottom.ensures
