-- `one_cell::serves` meets its contract: the labels rise by one, and the last is within the limits.
-- Assumes nothing.
use mathlib.Core.Path.{refl}
use Prim.Native.Nat.{◌<◌, ◌^◌}
use native.Mathlib.Omega.{arith}
use lib.IntN.{pos, ◌+ℤ◌}
use mir.Facts.{sfits_lit}
use mir.Syntax.{w64}
use mir.Val.{SFits}
use Rattle.integers.proofs.Linear.{ints, ◌∴◌}
use Rattle.integers.proofs.Machine.{plain, test-eq, widened}
use Rattle.granules.proofs.Tests.{true≢false}
use Rattle.one_cell.proofs.serves.Goals as goal
use Rattle.one_cell.proofs.serves.Goals.{Start}

small : (s : Start) → s.args.period < 2 ^ 63
small s = omega (arith, s.requires)

sum_fits : (s : Start) → SFits w64 (s.args.first +ℤ pos s.args.period)
sum_fits s = s.ranges.first ∴ s.requires ∴ simp ints (omega arith)

pub returns-then-row_period-ne1 : goal.returns-then-row_period-ne1
returns-then-row_period-ne1 c = λ e. absurd (true≢false e refl)

pub overflow_cast-result : goal.overflow_cast-result
overflow_cast-result c = let f = c.ranges.first in simp plain (widened f)

pub overflow_add-result : goal.overflow_add-result
overflow_add-result c =
    let s = (goal.at.overflow_add-result c).Start in
    let f = s.ranges.first in
    let p = small s in
    simp plain (sum_fits s)

pub returns : goal.returns
returns c =
    let s = (goal.at.returns c).Start in
    let f = s.ranges.first in
    let p = small s in
    let g = sum_fits s in
    let o : SFits w64 (pos 1) = sfits_lit tt in
    simp plain (λ e. record { one = (test-eq w64 s.args.row_period (pos 1) s.ranges.row_period o).0 c.if-row_period-ne1.false; labels = e })
