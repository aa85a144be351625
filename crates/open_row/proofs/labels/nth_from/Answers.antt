-- `open_row::labels::nth_from` meets its contract: the loop counts the labels that it passes.
-- Assumes nothing.
use native.Mathlib.Omega.{arith}
use Rattle.std.proofs.Common.{rules, SFits, w32}
use lib.IntN.{pos}
use lib.ListN.{get_or}
use Rattle.cursors.proofs.Cells.{bits-empty, bits_full}
use Rattle.words.proofs.Tally.{tally-one}
use Rattle.row_maps.specs.Making.{labelled}
use Rattle.open_row.proofs.Labelled.{labelled-one, labelled-zero}
use Rattle.open_row.proofs.labels.nth_from.Goals as goal
use Rattle.open_row.proofs.labels.nth_from.Goals.{then-cells-i+else-left-eq0, else-cells-i}

pub returns-then-left-eq0 : goal.returns-then-left-eq0
returns-then-left-eq0 c =
    let l = c.args.cells.now in
    let i = c.loop-i.i in
    record {
      set = labelled-one l i (pos 0) c.loop-i-test.true (bits_full (get_or l i (pos 0)) c.if-cells-i.true);
      rank = omega arith;
    }

pub loop-i-preserved : goal.loop-i-preserved
loop-i-preserved c =
    let l = c.args.cells.now in
    let i = c.loop-i.i in
    let z = get_or l i (pos 0) in
    let f : SFits w32 z = search rules in
    elim c.if-cells-i.branch [
      | then-cells-i+else-left-eq0 w ↦
          omega (arith, labelled-one l i (pos 0) c.loop-i-test.true (bits_full z w.if-cells-i.true), tally-one (labelled l) i)
      | else-cells-i w ↦
          omega (arith, labelled-zero l i (pos 0) c.loop-i-test.true (bits-empty z f w.if-cells-i.false), tally-one (labelled l) i)
    ]
