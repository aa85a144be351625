-- `alter_ends::in_limits` meets its contract: both ends of the working row are within the limits.
-- Assumes nothing.
use borrow.Author.Rules.{sfits_of}
use mathlib.Core.Path.{◌≡◌, refl, sym, ◌∙◌, ap}
use mathlib.Core.Bool.{true, ◌&&◌}
use mir.Facts.{to_z-of_z}
use mir.Syntax.{w64}
use mir.Val.{SFits}
use Rattle.calendar.specs.Checks.{labels_in_range}
use Rattle.calendar.specs.Limits.{in_range}
use Rattle.calendar.specs.Meaning.{Row}
use Rattle.calendar.specs.Operation.{Operation}
use Rattle.algebra.proofs.Right.{right}
use Rattle.kinds.specs.Stands.{row_in}
use Rattle.alter_granules.specs.Given.{altering}
use Rattle.alter_ends.proofs.Ending.{limits_of}
use Rattle.alter_ends.proofs.in_limits.Goals as goal
use Rattle.alter_ends.proofs.in_limits.Goals.{After-end_labels-ends, After-in_range}

abbrev o : After-end_labels-ends → Operation Row
o c = let r = c.args in altering r.by (row_in r.pool.now r.a) (row_in r.pool.now r.b)

decided : (c : After-end_labels-ends) → labels_in_range (o c) ≡ in_range c.end_labels-ends.result.first && in_range c.end_labels-ends.result.last
decided c = limits_of (o c) (right (o c) c.requires.alterable.ready) c.end_labels-ends.result c.end_labels-ends.ensures

-- the first label is within the limits or not
first-is : (c : After-in_range) → c.in_range.result ≡ in_range c.end_labels-ends.result.first
first-is c =
    let f : SFits w64 c.end_labels-ends.result.first = sfits_of c.struct_told-1.given.0.1 in
    c.in_range.ensures ∙ ap in_range (to_z-of_z {w = w64} f)

pub returns-then-not-in_range : goal.returns-then-not-in_range
returns-then-not-in_range c =
    let k = (goal.at.returns-then-not-in_range c).After-in_range in
    let e = (goal.at.After-in_range k).After-end_labels-ends in
    sym (decided e ∙ ap (λ b. b && in_range e.end_labels-ends.result.last) (sym (first-is k) ∙ c.if-not-in_range.true))

pub returns : goal.returns
returns c =
    let k = (goal.at.returns c).After-in_range in
    let e = (goal.at.After-in_range k).After-end_labels-ends in
    let d = decided e in
    let last : SFits w64 e.end_labels-ends.result.last = sfits_of k.struct_told-1.given.1.0.1 in
    let first : SFits w64 e.end_labels-ends.result.first = sfits_of k.struct_told-1.given.0.1 in
    let f = to_z-of_z {w = w64} first in
    let l = to_z-of_z {w = w64} last in
    let h : (true && in_range e.end_labels-ends.result.last) ≡ in_range e.end_labels-ends.result.last = refl in
    cc (d, f, l, h)
