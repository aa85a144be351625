-- `dates::days_to_year` meets its contract: of a year that is near no sum wraps.
-- Assumes nothing.
use borrow.Author.Rules.{sfits_of}
use mathlib.Core.Path.{◌≡◌, ◌∙◌}
use mir.Facts.{to_z-of_z}
use mir.Syntax.{w64}
use mir.Val.{of_z, to_z}
use Rattle.integers.proofs.Machine.{plain}
use Rattle.civil.specs.Instants.{leap_years, days_to_year}
use Rattle.dates.proofs.Years.{year-fits}
use Rattle.dates.proofs.days_to_year.Goals as goal
use Rattle.dates.proofs.days_to_year.Goals.{After-leap_years, Start}

leaps : (c : After-leap_years) → to_z w64 (of_z w64 c.leap_years.result) ≡ leap_years c.args.q
leaps c =
    let q = c.ranges.q in to_z-of_z {w = w64} (sfits_of c.leap_years.type_inv) ∙ simp plain at c.leap_years.ensures

pub overflow_mul-result : goal.overflow_mul-result
overflow_mul-result c = let q = c.ranges.q in simp plain (year-fits c.args.q c.requires).0

pub overflow_add-result : goal.overflow_add-result
overflow_add-result c =
    let s = (goal.at.overflow_add-result c).Start in
    let q = s.ranges.q in
    let (f, g) = year-fits s.args.q s.requires in
    simp (leaps c, plain) g

pub returns : goal.returns
unfolding days_to_year
returns c =
    let s = (goal.at.returns c).Start in
    let q = s.ranges.q in
    let (f, g) = year-fits s.args.q s.requires in
    simp (leaps c, plain)
