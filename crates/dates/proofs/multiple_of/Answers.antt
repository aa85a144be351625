-- `dates::multiple_of` meets its contract: the remainder's bits are 0 exactly where it is.
-- Assumes nothing.
use mathlib.Core.Path.{ap}
use lib.Dec.{eqb}
use lib.IntN.{ℤ}
use mir.Syntax.{w64}
use mir.Val.{of_z}
use Rattle.integers.proofs.Machine.{plain}
use Rattle.dates.proofs.multiple_of.Goals as goal

pub returns : goal.returns
returns c =
    let n = c.ranges.n in
    let y = c.ranges.year in
    ap (λ (z : ℤ). eqb (of_z w64 z) 0) (simp plain at c.floor_mod.ensures)
