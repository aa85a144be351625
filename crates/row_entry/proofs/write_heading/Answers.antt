-- `row_entry::write_heading` meets its contract: four stores, one behind the other.
-- Assumes nothing.
use Prim.Native.Nat.{◌*◌}
use native.Mathlib.Omega.{arith}
use lib.ListN.{length-set}
use Rattle.calendar.specs.Limits.{heading_length}
use Rattle.row_entry.proofs.Cells.{four-stored}
use Rattle.row_entry.proofs.write_heading.Goals as goal

pub bounds-headings-at-2 : goal.bounds-headings-at-2
bounds-headings-at-2 c = simp length-set (omega arith)

pub bounds-headings-at-3 : goal.bounds-headings-at-3
bounds-headings-at-3 c = simp length-set (omega arith)

pub bounds-headings-at-4 : goal.bounds-headings-at-4
bounds-headings-at-4 c = simp length-set (omega arith)

pub returns : goal.returns
returns c =
    let a = c.args in
    four-stored a.headings.now (heading_length * a.k) a.start a.period a.distance a.granules (omega arith)
