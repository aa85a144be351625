-- `row_maps::bit_at` meets its contract.
-- Assumes nothing.
use mathlib.Core.Path.{◌≡◌, sym, ap}
use mathlib.Core.Bool.{cond}
use lib.IntN.{ℤ}
use lib.ListN.{get_or, get_or-eq_default}
use Rattle.calendar.specs.Meaning.{empty, is_empty}
use Rattle.row_maps.proofs.bit_at.Goals as goal
use Rattle.row_maps.proofs.bit_at.Goals.{Start}

pub returns-then-cells-c : goal.returns-then-cells-c
returns-then-cells-c c =
    let s = (goal.at.returns-then-cells-c c).Start in
    let e : get_or s.args.cells.now s.args.c empty ≡ empty = get_or-eq_default s.args.cells.now empty c.if-cells-c.true in
    sym (ap (λ (z : ℤ). cond (is_empty z) 0 1) e)
