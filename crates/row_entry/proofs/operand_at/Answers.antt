-- `row_entry::operand_at` meets its contract: it reads the four numbers of the heading.
-- Assumes nothing.
use Prim.Native.Nat.{◌+◌, ◌*◌}
use native.Mathlib.Omega.{arith}
use Rattle.calendar.specs.Limits.{heading_length}
use Rattle.row_entry.proofs.Numbers.{wide-number}
use Rattle.row_entry.proofs.operand_at.Goals as goal

pub overflow_cast-result : goal.overflow_cast-result
overflow_cast-result c = omega (arith, c.shared_slice_known-1.given (heading_length * c.args.j))

pub overflow_cast-result-2 : goal.overflow_cast-result-2
overflow_cast-result-2 c = (wide-number _ (c.shared_slice_known-2-1.given (heading_length * c.args.j + 1))).0

pub overflow_cast-result-3 : goal.overflow_cast-result-3
overflow_cast-result-3 c = (wide-number _ (c.shared_slice_known-3-1.given (heading_length * c.args.j + 2))).0

pub overflow_cast-result-4 : goal.overflow_cast-result-4
overflow_cast-result-4 c = (wide-number _ (c.shared_slice_known-4-1.given (heading_length * c.args.j + 3))).0

pub returns : goal.returns
returns c =
    let j = c.args.j in
    let p = (wide-number _ (c.shared_slice_known-2-1.given (heading_length * j + 1))).1 in
    let d = (wide-number _ (c.shared_slice_known-3-1.given (heading_length * j + 2))).1 in
    let g = (wide-number _ (c.shared_slice_known-4-1.given (heading_length * j + 3))).1 in
    rw (p, d, g)
