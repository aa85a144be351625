-- `parts::part_at` meets its contract: the label in h is looked at, then that in g.
-- Assumes nothing.
use borrow.Author.Rules.{rules}
use mathlib.Core.Path.{◌≡◌, sym, ◌∙◌, ap, subst}
use mathlib.Core.Logic.{inl, inr}
use mathlib.Core.Option.{none, some}
use lib.IntN.{ℤ}
use mir.Facts.{to_z-of_z}
use mir.Syntax.{w64}
use mir.Val.{SFits}
use Rattle.integers.proofs.Machine.{test-eq}
use Rattle.cursors.specs.Found.{found}
use Rattle.parts.specs.declared.Part.TheVariants.{Outside, Next}
use Rattle.parts.specs.Walk.{PartAt}
use Rattle.parts.proofs.part_at.Goals as goal
use Rattle.parts.proofs.part_at.Goals.{Else-j-z, Else-k-outside, In-Some, In-Some-label, In-Some-label-2, In_default, Start}

no_own : (c : In_default) → found c.args.own ≡ none
no_own c = ap found c.in_default.is

pub returns-in_default-label : goal.returns-in_default-label
returns-in_default-label c = inl (no_own (goal.at.returns-in_default-label c).In_default, ap found c.in_default-label.is)

abbrev begun : In-Some-label → Start
begun c = (goal.at.In-Some-label c).Start

abbrev label : In-Some-label → ℤ
label c = c.in-Some-label.k

label-fits : (c : In-Some-label) → SFits w64 (label c)
label-fits c = search rules

label-some : (c : In-Some-label) → found (begun c).args.label ≡ some (label c)
label-some c = ap found c.in-Some-label.is

pub returns-then-k-latest : goal.returns-then-k-latest
returns-then-k-latest c =
    let d = (goal.at.returns-then-k-latest c).In-Some-label in
    inr (no_own (goal.at.In-Some-label d).In_default, label-some d ∙ ap some ((test-eq w64 _ _ (label-fits d) (begun d).ranges.latest).0 c.if-k-latest.true))

pub returns-in_default : goal.returns-in_default
returns-in_default c =
    let d = (goal.at.returns-in_default c).In-Some-label in
    let s = begun d in
    subst (λ (k : ℤ). PartAt s.args.z (found s.args.own) (found s.args.label) s.args.outside s.args.latest (Outside k)) (sym (to_z-of_z (label-fits d)))
    (no_own (goal.at.In-Some-label d).In_default, (label-some d, λ e. c.if-k-latest.false ((test-eq w64 _ _ (label-fits d) s.ranges.latest).1 e)))

abbrev own : In-Some → ℤ
own c = c.in-Some.j

own-fits : (c : In-Some) → SFits w64 (own c)
own-fits c = search rules

own-some : (c : In-Some) → found c.args.own ≡ some (own c)
own-some c = ap found c.in-Some.is

pub returns-then-j-z : goal.returns-then-j-z
returns-then-j-z c =
    let d = (goal.at.returns-then-j-z c).In-Some in
    (own d, own-some d, λ e. c.if-j-z.true ((test-eq w64 _ _ (own-fits d) d.ranges.z).1 e))

-- ---- in the granule
in-granule : (c : Else-j-z) → let s = (goal.at.Else-j-z c).Start in found s.args.own ≡ some s.args.z
in-granule c = let d = (goal.at.Else-j-z c).In-Some in own-some d ∙ ap some ((test-eq w64 _ _ (own-fits d) d.ranges.z).0 c.if-j-z.false)

pub returns-in_default-label-2 : goal.returns-in_default-label-2
returns-in_default-label-2 c = inl (in-granule (goal.at.returns-in_default-label-2 c).Else-j-z, inl (ap found c.in_default-label-2.is))

abbrev start : In-Some-label-2 → Start
start c = (goal.at.In-Some-label-2 c).Start

abbrev part : In-Some-label-2 → ℤ
part c = c.in-Some-label-2.k

part-fits : (c : In-Some-label-2) → SFits w64 (part c)
part-fits c = search rules

part-some : (c : In-Some-label-2) → found (start c).args.label ≡ some (part c)
part-some c = ap found c.in-Some-label-2.is

pub returns-then-k-outside : goal.returns-then-k-outside
returns-then-k-outside c =
    let d = (goal.at.returns-then-k-outside c).In-Some-label-2 in
    inl (in-granule (goal.at.In-Some-label-2 d).Else-j-z, inr (part-some d ∙ ap some ((test-eq w64 _ _ (part-fits d) (start d).ranges.outside).0 c.if-k-outside.true)))

-- its label is not the last one outside
another : (c : Else-k-outside) → part (goal.at.Else-k-outside c).In-Some-label-2 ≡ (start (goal.at.Else-k-outside c).In-Some-label-2).args.outside → ⊥
another c e = let d = (goal.at.Else-k-outside c).In-Some-label-2 in c.if-k-outside.false ((test-eq w64 _ _ (part-fits d) (start d).ranges.outside).1 e)

pub returns-then-k-latest-2 : goal.returns-then-k-latest-2
returns-then-k-latest-2 c =
    let f = (goal.at.returns-then-k-latest-2 c).Else-k-outside in
    let d = (goal.at.Else-k-outside f).In-Some-label-2 in
    let same = (test-eq w64 _ _ (part-fits d) (start d).ranges.latest).0 c.if-k-latest-2.true in
    inr (in-granule (goal.at.In-Some-label-2 d).Else-j-z, (part-some d ∙ ap some same, λ e. another f (same ∙ e)))

pub returns : goal.returns
returns c =
    let f = (goal.at.returns c).Else-k-outside in
    let d = (goal.at.Else-k-outside f).In-Some-label-2 in
    let s = start d in
    subst (λ (k : ℤ). PartAt s.args.z (found s.args.own) (found s.args.label) s.args.outside s.args.latest (Next k)) (sym (to_z-of_z (part-fits d)))
    (in-granule (goal.at.In-Some-label-2 d).Else-j-z, (part-some d, (another f, λ e. c.if-k-latest-2.false ((test-eq w64 _ _ (part-fits d) s.ranges.latest).1 e))))
