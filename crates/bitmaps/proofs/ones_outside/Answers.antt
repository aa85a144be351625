-- `bitmaps::ones_outside` meets its contract: both counts are of cells below n.
-- Assumes nothing.
use native.Mathlib.Omega.{arith}
use Rattle.words.specs.Bits.{cell}
use Rattle.words.proofs.Tally.{tally-le, tally-mono}
use Rattle.bitmaps.proofs.Words.{cell-le}
use Rattle.bitmaps.proofs.ones_outside.Goals as goal
use Rattle.bitmaps.proofs.ones_outside.Goals.{Start}

pub overflow_add-result : goal.overflow_add-result
overflow_add-result c =
    let s = (goal.at.overflow_add-result c).Start in
    let f = cell s.args.words.now in
    omega (
      arith,
      c.ones_between.ensures,
      c.ones_before.ensures,
      tally-mono f s.args.a s.args.c (omega arith),
      tally-le f s.args.n (cell-le s.args.words.now),
    )
