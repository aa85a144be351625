-- `open_map::finding::first_cell` meets its contract: some cell is set.
-- Assumes nothing.
use mathlib.Core.Path.{subst}
use native.Mathlib.Omega.{arith}
use Rattle.words.proofs.Tally.{tally-none}
use Rattle.words.specs.Bits.{cell}
use Rattle.integers.specs.Parts.{up}
use Rattle.bitmaps.specs.Cells.{FirstFrom}
use Rattle.open_map.proofs.Found.{nowhere}
use Rattle.open_map.proofs.Given.{Given, given, within}
use Rattle.open_map.proofs.finding.first_cell.Goals as goal
use Rattle.open_map.proofs.finding.first_cell.Goals.{After-first_from-place, Start}

known : (c : Start) → Given c.args.period c.args.words.now
known c = given c.args.period c.args.words.now c.requires

pub first_from-place-requires : goal.first_from-place-requires
first_from-place-requires c = let s = (goal.at.first_from-place-requires c).Start in within s.args.period s.args.words.now (known s) 0 (omega arith)

found : (c : After-first_from-place) → FirstFrom c.args.words.now 0 c.first_from-place.result
found c = c.first_from-place.ensures

pub returns-in_default : goal.returns-in_default
returns-in_default c =
    let f = (goal.at.returns-in_default c).After-first_from-place in
    let s = (goal.at.After-first_from-place f).Start in
    let l = s.args.words.now in
    let none = subst (FirstFrom l 0) (nowhere _ c.in_default.not-Some) (found f) in
    absurd (omega (arith, (known s).some, tally-none (cell l) (up s.args.period) (λ i h. none i (omega arith))))

pub returns : goal.returns
returns c =
    let f = (goal.at.returns c).After-first_from-place in
    subst (FirstFrom f.args.words.now 0) c.in-Some.is (found f)
