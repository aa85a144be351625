-- `steps::progress_behind` meets its contract.
-- Assumes nothing.
use mathlib.Core.Path.{◌≡◌, sym, ◌∙◌, ap}
use mathlib.Core.Bool.{Bool, cond}
use Prim.Native.Nat.{suc, ◌+◌, ◌/◌}
use native.Mathlib.Omega.{arith}
use Rattle.granules.proofs.Tests.{eqb-iff, false-iff}
use Rattle.walks.specs.Walk.Progress.{due, done}
use Rattle.steps.proofs.progress_behind.Goals as goal

pub returns-then-next-lengths : goal.returns-then-next-lengths
returns-then-next-lengths c =
    let a = c.args in
    let n = a.lengths.table / 6 in
    let e : suc a.k ≡ n = omega (arith, c.if-next-lengths.true) in
    ap (λ (b : Bool). cond b done (due (suc a.k))) (sym ((eqb-iff (suc a.k) n).1 e))

pub returns-else-next-lengths : goal.returns-else-next-lengths
returns-else-next-lengths c =
    let a = c.args in
    let n = a.lengths.table / 6 in
    let z : a.k + 1 ≡ suc a.k = omega arith in
    let e : ¬ (suc a.k ≡ n) = λ q. c.if-next-lengths.false (z ∙ q) in
    ap due z ∙ ap (λ (b : Bool). cond b done (due (suc a.k))) (sym ((false-iff (eqb-iff (suc a.k) n)).1 e))
