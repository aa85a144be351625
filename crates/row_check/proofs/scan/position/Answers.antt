-- `row_check::scan::position` meets its contract: the library finds the cell that the search for z finds.
-- Assumes nothing.
use Rattle.std.proofs.Common.{rules, tests}
use Rattle.std.proofs.lemmas.Iterator.{YieldsList-from_slice}
use Rattle.std.proofs.lemmas.Iterator.Search.{position_from_yields_List}
use Rattle.std.specs.List.{position}
use Rattle.std.specs.Option.{unwrap_or}
use mathlib.Core.Path.{◌≡◌, refl, sym, ◌∙◌, ap}
use mathlib.Core.Bool.{Bool, true, false, not}
use lib.Dec.{eqb}
use lib.IntN.{ℤ}
use lib.ListN.{length}
use mir.Syntax.{w32}
use mir.Val.{of_z, SFits}
use Rattle.integers.proofs.Machine.{test-eq}
use Rattle.calendar.specs.Lists.{equal}
use Rattle.granules.proofs.Tests.{test-ext, eqb-iff, equal-iff}
use Rattle.row_check.proofs.Finding.{found-run}
use Rattle.row_check.proofs.scan.position.Goals as goal

not-not : (b : Bool) → b ≡ not (not b)
not-not true = refl
not-not false = refl

-- the machine's test of a cell y
bits-test : (y z : ℤ) → SFits w32 y → SFits w32 z → eqb (of_z w32 y) (of_z w32 z) ≡ not (not (equal z y))
bits-test y z f g =
    test-ext
    (λ p. (equal-iff z y).1 (sym ((test-eq w32 y z f g).0 ((eqb-iff _ _).0 p))))
    (λ p. (eqb-iff _ _).1 (ap (of_z w32) (sym ((equal-iff z y).0 p))))
    ∙ not-not (equal z y)

pub returns : goal.returns
returns c =
    let l = c.args.cells.now in
    let z = c.args.z in
    let other = λ (y : ℤ). not (equal z y) in
    let g : SFits w32 z = c.ranges.z in
    let found : c.position.result ≡ position (λ (y : ℤ). not (not (equal z y))) l = position_from_yields_List (λ (y : ℤ). not (not (equal z y))) _ _ c.position.result c.position.ensures.ran (YieldsList-from_slice _ c.iter.ensures.rest) (λ x b q k. search (rules, tests, bits-test)) in
    c.unwrap_or.ensures ∙ ap (λ o. unwrap_or o (length l)) found ∙ found-run other l
