-- `dates::leap_years` meets its contract: the three quotients are small, and their sum is the definition's.
-- Assumes nothing.
use borrow.Author.Rules.{sfits_of}
use mathlib.Core.Path.{◌≡◌, ◌∙◌}
use mir.Facts.{to_z-of_z}
use mir.Syntax.{w64}
use mir.Val.{of_z, to_z}
use Rattle.integers.specs.Floor.{floor_div}
use Rattle.integers.proofs.Machine.{plain}
use Rattle.civil.specs.Instants.{leap_years}
use Rattle.dates.proofs.Years.{leap-fits}
use Rattle.dates.proofs.leap_years.Goals as goal
use Rattle.dates.proofs.leap_years.Goals.{After-floor_div, After-floor_div-2, After-floor_div-3, Start}

-- the quotients, read back from their bits
four : (c : After-floor_div) → to_z w64 (of_z w64 c.floor_div.result) ≡ floor_div c.args.q 4
four c = let q = c.ranges.q in to_z-of_z {w = w64} (sfits_of c.floor_div.type_inv) ∙ simp plain at c.floor_div.ensures

hundred : (c : After-floor_div-2)
    → to_z w64 (of_z w64 c.floor_div-2.result) ≡ floor_div c.args.q 100
hundred c =
    let q = c.ranges.q in to_z-of_z {w = w64} (sfits_of c.floor_div-2.type_inv) ∙ simp plain at c.floor_div-2.ensures

four-hundred : (c : After-floor_div-3)
    → to_z w64 (of_z w64 c.floor_div-3.result) ≡ floor_div c.args.q 400
four-hundred c =
    let q = c.ranges.q in to_z-of_z {w = w64} (sfits_of c.floor_div-3.type_inv) ∙ simp plain at c.floor_div-3.ensures

pub overflow_sub-result : goal.overflow_sub-result
overflow_sub-result c = let s = (goal.at.overflow_sub-result c).Start in simp (four (goal.at.overflow_sub-result c).After-floor_div, hundred c) (leap-fits s.args.q s.requires).0

pub overflow_add-result : goal.overflow_add-result
overflow_add-result c =
    let s = (goal.at.overflow_add-result c).Start in
    let (f, g) = leap-fits s.args.q s.requires in
    simp (four (goal.at.overflow_add-result c).After-floor_div, hundred (goal.at.overflow_add-result c).After-floor_div-2, four-hundred c, plain) g

pub returns : goal.returns
unfolding leap_years
returns c =
    let s = (goal.at.returns c).Start in
    let (f, g) = leap-fits s.args.q s.requires in
    simp (four (goal.at.returns c).After-floor_div, hundred (goal.at.returns c).After-floor_div-2, four-hundred c, plain)
