-- `integers::floor_mod` meets its contract: its two arms are the two cases of the remainder's sign.
-- Assumes nothing.
use mathlib.Core.Path.{sym}
use native.Mathlib.Omega.{arith}
use Rattle.integers.proofs.Linear.{ints, ◌∴◌}
use Rattle.integers.proofs.Machine.{plain, rem-fits}
use Rattle.integers.proofs.Divide.{div-needs, floor-same, floor-less}
use Rattle.integers.proofs.floor_mod.Goals as goal

pub nonzero_rem-r : goal.nonzero_rem-r
nonzero_rem-r c = div-needs c.ranges.t c.ranges.p c.requires

pub overflow_add-result : goal.overflow_add-result
overflow_add-result c =
    let s = c.before in
    let t = s.ranges.t in
    let p = s.ranges.p in
    rem-fits s.args.p t ∴ p ∴ s.requires ∴ c.if-r-lt0.true ∴ simp (plain, ints) (omega arith)

pub returns-then-r-lt0 : goal.returns-then-r-lt0
returns-then-r-lt0 c =
    let s = c.before in
    let t = s.ranges.t in
    let p = s.ranges.p in
    let a = simp plain at (overflow_add-result c) in
    simp plain (sym (floor-less s.args.t s.args.p s.requires (simp plain at c.if-r-lt0.true)).1)

pub returns-else-r-lt0 : goal.returns-else-r-lt0
returns-else-r-lt0 c =
    let s = c.before in
    let t = s.ranges.t in
    let p = s.ranges.p in
    simp plain (sym (floor-same s.args.t s.args.p s.requires (simp plain at c.if-r-lt0.false)).1)
