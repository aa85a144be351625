-- `integers::ceil_div` meets its contract: its two arms are the two cases of the remainder's sign.
-- Assumes nothing.
use mathlib.Core.Path.{sym}
use native.Mathlib.Omega.{arith}
use Rattle.integers.proofs.Linear.{ints, ◌∴◌}
use Rattle.integers.proofs.Machine.{plain, quot_fits}
use Rattle.integers.proofs.Divide.{div-needs, more-fits, ceil-same, ceil-more}
use Rattle.integers.proofs.ceil_div.Goals as goal

pub nonzero_div-q : goal.nonzero_div-q
nonzero_div-q c = div-needs c.ranges.t c.ranges.p c.requires

pub nonzero_rem-t : goal.nonzero_rem-t
nonzero_rem-t c = div-needs c.ranges.t c.ranges.p c.requires

pub overflow_add-result : goal.overflow_add-result
overflow_add-result c =
    let s = c.before in
    let t = s.ranges.t in
    let p = s.ranges.p in
    let h = s.requires in
    quot_fits t h ∴ more-fits t h (simp plain at c.if-t-p-gt0.true) ∴ simp (plain, ints) (omega arith)

pub returns-then-t-p-gt0 : goal.returns-then-t-p-gt0
returns-then-t-p-gt0 c =
    let s = c.before in
    let t = s.ranges.t in
    let p = s.ranges.p in
    let h = s.requires in
    let fits = simp plain at (overflow_add-result c) in
    simp plain (sym (ceil-more s.args.t s.args.p h (simp plain at c.if-t-p-gt0.true)))

pub returns-else-t-p-gt0 : goal.returns-else-t-p-gt0
returns-else-t-p-gt0 c =
    let s = c.before in
    let t = s.ranges.t in
    let p = s.ranges.p in
    let h = s.requires in
    simp plain (sym (ceil-same s.args.t s.args.p h (simp plain at c.if-t-p-gt0.false)))
