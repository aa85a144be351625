-- `row_check::scan::leading` meets its contract: the library finds the cell that the search for a label finds.
-- Assumes nothing.
use Rattle.std.proofs.Common.{rules, tests}
use Rattle.std.proofs.lemmas.Iterator.{YieldsList-from_slice}
use Rattle.std.proofs.lemmas.Iterator.Search.{position_from_yields_List}
use Rattle.std.specs.List.{position}
use Rattle.std.specs.Option.{unwrap_or}
use mathlib.Core.Path.{◌≡◌, ◌∙◌, ap}
use mathlib.Core.Bool.{not}
use lib.Dec.{eqb}
use lib.IntN.{ℤ}
use lib.ListN.{length}
use mir.Syntax.{w32}
use mir.Val.{of_z, SFits}
use Rattle.calendar.specs.Meaning.{empty, is_empty}
use Rattle.granules.proofs.Tests.{test-ext, eqb-iff}
use Rattle.cursors.proofs.Cells.{bits-empty, empty-iff}
use Rattle.row_check.proofs.Finding.{found-run}
use Rattle.row_check.proofs.scan.leading.Goals as goal

-- the machine's test of a cell y
bits-test : (y : ℤ) → SFits w32 y → not (eqb (of_z w32 y) (of_z w32 empty)) ≡ not (is_empty y)
bits-test y f = ap not (test-ext (λ p. bits-empty y f ((eqb-iff _ _).0 p)) (λ p. (eqb-iff _ _).1 (ap (of_z w32) ((empty-iff y).0 p))))

pub returns : goal.returns
returns c =
    let l = c.args.cells.now in
    let found : c.position.result ≡ position (λ (y : ℤ). not (is_empty y)) l = position_from_yields_List (λ (y : ℤ). not (is_empty y)) _ _ c.position.result c.position.ensures.ran (YieldsList-from_slice _ c.iter.ensures.rest) (λ x b q k. search (rules, tests, bits-test)) in
    c.unwrap_or.ensures ∙ ap (λ o. unwrap_or o (length l)) found ∙ found-run is_empty l
