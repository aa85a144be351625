-- `row_check::scan::wide` meets its contract: an element of a slice of `i32` fits 32 bits, so both casts keep it.
-- Assumes nothing.
use borrow.Author.Rules.{sfits_of}
use lib.IntN.{pos}
use lib.ListN.{get_or}
use mir.Syntax.{w32}
use mir.Val.{SFits}
use Rattle.integers.proofs.Machine.{plain, widened}
use Rattle.calendar.specs.Meaning.{empty}
use Rattle.cursors.proofs.Cells.{get_d_any}
use Rattle.row_check.proofs.scan.wide.Goals as goal
use Rattle.row_check.proofs.scan.wide.Goals.{After-result-1}

cell-fits : (c : After-result-1) → SFits w32 (get_or c.args.cells.now c.args.i (pos 0))
cell-fits c = sfits_of c.result-1.given

pub overflow_cast-result : goal.overflow_cast-result
overflow_cast-result c = let f = cell-fits c in simp plain (widened f)

pub returns : goal.returns
returns c =
    let f = cell-fits c in
    simp plain (get_d_any c.args.cells.now c.args.i (pos 0) empty c.requires, f)
