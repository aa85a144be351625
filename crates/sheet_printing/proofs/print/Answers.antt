-- `sheet_printing::print` is safe: a sheet takes no more bytes than the list has.
-- Assumes nothing.
use borrow.Author.Rules.{rules}
use mathlib.Core.Path.{◌≡◌}
use native.Mathlib.Omega.{arith}
use lib.ListN.{length}
use Rattle.sheet_text.proofs.Whole.{taken-fit}
use Rattle.sheet_printing.proofs.print.Goals as goal

pub slice_bounds-out-end : goal.slice_bounds-out-end
slice_bounds-out-end g c =
    let l : length c.sheet.new.out ≡ 49792 = search rules in
    omega (arith, taken-fit c.sheet.ensures c.in-Some.is, l)
