-- `standing::rows_stand` meets its contract. The loop's invariant: the first i rows stand, up to the cell `used`.
-- Assumes nothing.
use mathlib.Core.Path.{◌≡◌, refl, sym, ◌∙◌, ap}
use Prim.Native.Nat.{ℕ, suc, ◌+◌}
use native.Mathlib.Omega.{arith}
use Rattle.conversion.specs.Shows.{period_at}
use Rattle.standing.specs.Tests.{end_of}
use Rattle.standing.proofs.Rows.{rows_none, rows_more, rows-fail}
use Rattle.standing.proofs.rows_stand.Goals as goal

pub loop-i-init : goal.loop-i-init
loop-i-init c = record { stand = rows_none _ _; ends = record { is-end = refl; fits = omega arith } }

pub returns-in_err-used-clause-test : goal.returns-in_err-used-clause-test
returns-in_err-used-clause-test c =
    let l = c.loop-i in
    let fails = rw l.invariant.ends.is-end at c.in_err-used.ensures.test in
    rw c.from_residual.ensures (sym (rows-fail _ _ l.i (sym fails) _ c.loop-i-test.true))

pub loop-i-preserved : goal.loop-i-preserved
loop-i-preserved c =
    let l = c.loop-i in
    let h = c.args.headings.now in
    let e = c.in_ok-used.ensures.ends in
    let is = rw l.invariant.ends.is-end at c.in_ok-used.ensures.test in
    let z : suc l.i ≡ l.i + 1 = omega arith in
    record {
      stand = rows_more _ _ l.i l.invariant.stand (sym is);
      ends = record { is-end = e.is-end ∙ ap (λ (u : ℕ). u + period_at h l.i) l.invariant.ends.is-end ∙ ap (end_of h) z; fits = e.fits };
    }
