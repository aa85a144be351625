-- `dates::year_at` meets its contract: the day is in the year estimated, or in the next.
-- Assumes nothing.
use borrow.Author.Rules.{sfits_of}
use mathlib.Core.Path.{◌≡◌, ◌∙◌}
use lib.IntN.{pos, ◌+ℤ◌}
use mir.Facts.{to_z-of_z}
use mir.Syntax.{w64}
use mir.Val.{of_z, to_z}
use Rattle.integers.proofs.Machine.{plain}
use Rattle.civil.specs.Instants.{days_to_year}
use Rattle.dates.proofs.Years.{estimate, product-fits, estimate-next, in-this, in-next}
use Rattle.dates.proofs.year_at.Goals as goal
use Rattle.dates.proofs.year_at.Goals.{After-days_to_year, After-floor_div-q, Start}

-- the estimate, read back from its bits
estimated : (c : After-floor_div-q) → to_z w64 (of_z w64 c.floor_div-q.result) ≡ estimate c.args.x
unfolding estimate
estimated c =
    let s = (goal.at.After-floor_div-q c).Start in
    let x = s.ranges.x in
    let f = product-fits s.args.x s.requires in
    to_z-of_z {w = w64} (sfits_of c.floor_div-q.type_inv) ∙ simp plain at c.floor_div-q.ensures

next-year : (c : After-days_to_year)
    → to_z w64 (of_z w64 c.days_to_year.result) ≡ days_to_year (estimate c.args.x +ℤ pos 1)
next-year c =
    let s = (goal.at.After-days_to_year c).Start in
    let (f, n) = estimate-next s.args.x s.requires in
    to_z-of_z {w = w64} (sfits_of c.days_to_year.type_inv) ∙ simp (estimated (goal.at.After-days_to_year c).After-floor_div-q, plain) at c.days_to_year.ensures

pub overflow_mul-x : goal.overflow_mul-x
overflow_mul-x c = let x = c.ranges.x in simp plain (product-fits c.args.x c.requires)

pub overflow_add-q : goal.overflow_add-q
overflow_add-q c = let s = (goal.at.overflow_add-q c).Start in simp (estimated c) (estimate-next s.args.x s.requires).0

pub days_to_year-requires : goal.days_to_year-requires
days_to_year-requires c =
    let s = (goal.at.days_to_year-requires c).Start in
    let (f, n) = estimate-next s.args.x s.requires in
    simp (estimated c, plain) n

pub overflow_add-result : goal.overflow_add-result
overflow_add-result c =
    let s = (goal.at.overflow_add-result c).Start in simp (estimated (goal.at.overflow_add-result c).After-floor_div-q) (estimate-next s.args.x s.requires).0

pub returns-then-days_to_year-x : goal.returns-then-days_to_year-x
returns-then-days_to_year-x c =
    let s = (goal.at.returns-then-days_to_year-x c).Start in
    let x = s.ranges.x in
    let (f, n) = estimate-next s.args.x s.requires in
    simp (estimated (goal.at.returns-then-days_to_year-x c).After-floor_div-q, plain) (in-next s.args.x s.requires (simp (next-year (goal.at.returns-then-days_to_year-x c).After-days_to_year, plain) at c.if-days_to_year-x.true))

pub returns-else-days_to_year-x : goal.returns-else-days_to_year-x
returns-else-days_to_year-x c =
    let s = (goal.at.returns-else-days_to_year-x c).Start in
    let x = s.ranges.x in
    simp (estimated (goal.at.returns-else-days_to_year-x c).After-floor_div-q) (in-this s.args.x s.requires (simp (next-year (goal.at.returns-else-days_to_year-x c).After-days_to_year, plain) at c.if-days_to_year-x.false))
