-- `standing::row_stands` meets its contract.
-- Assumes nothing.
use Rattle.std.specs.Prelude.{is_some}
use mathlib.Core.Path.{◌∙◌, ap}
use Prim.Native.Nat.{◌+◌, ◌*◌}
use Rattle.calendar.specs.Limits.{heading_length}
use Rattle.row_entry.proofs.Numbers.{wide-number}
use Rattle.standing.proofs.Counted.{some-tests, starts-elsewhere, stands_here, stands-outside}
use Rattle.standing.proofs.row_stands.Goals as goal

pub returns-then-start-used-clause-test : goal.returns-then-start-used-clause-test
returns-then-start-used-clause-test c = let a = c.args in starts-elsewhere a.headings.now a.pool.now a.k a.used c.if-start-used.true

pub returns-then-count-pool-clause-test : goal.returns-then-count-pool-clause-test
returns-then-count-pool-clause-test c =
    let a = c.args in stands-outside a.headings.now a.pool.now a.k a.used c.if-start-used.false c.requires.used_in_bounds.0 c.if-count-pool.true

pub returns-clause-test : goal.returns-clause-test
returns-clause-test c =
    let a = c.args in
    let h = heading_length * a.k in
    let p = (wide-number _ (c.type_inv.headings (h + 1))).1 in
    let n = (wide-number _ (c.type_inv.headings (h + 2))).1 in
    let r = (wide-number _ (c.type_inv.headings (h + 3))).1 in
    ap is_some c.then_some.ensures ∙ some-tests _ _ ∙ (rw (p, n, r) at c.is_counted-ok.ensures) ∙ stands_here a.headings.now a.pool.now a.k a.used c.if-start-used.false
