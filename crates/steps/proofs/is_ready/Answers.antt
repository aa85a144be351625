-- `steps::is_ready` meets its contract: the lengths, checks 1 to 3, and the rows that stand.
-- Assumes nothing.
use mathlib.Core.Path.{◌≡◌, sym, ◌∙◌, ap}
use Rattle.walks.specs.Walk as W
use Rattle.steps.specs.State.{lengths_in}
use Rattle.steps.proofs.Testing.{begun-answer, begun-refused, other-lengths, not-admitted, no-entry, rows-decide}
use Rattle.steps.proofs.is_ready.Goals as goal
use Rattle.steps.proofs.is_ready.Goals.{then-table-lengths-via-then-table-lengths, then-table-lengths-via-else-table-lengths+then-headings-lengths, then-table-lengths-via-else-table-lengths+else-headings-lengths+then-pool-lengths}

pub returns-then-table-lengths-clause-test : goal.returns-then-table-lengths-clause-test
returns-then-table-lengths-clause-test c =
    let a = c.args in
    sym (other-lengths _ a.k a.table.now a.headings.now a.pool.now (λ e.
    elim c.then-table-lengths.branch [
      | then-table-lengths-via-then-table-lengths w ↦ w.if-table-lengths.true (ap (λ (l : W.Lengths). l.table) e)
      | then-table-lengths-via-else-table-lengths+then-headings-lengths w ↦ w.if-headings-lengths.true (ap (λ (l : W.Lengths). l.headings) e)
      | then-table-lengths-via-else-table-lengths+else-headings-lengths+then-pool-lengths w ↦ w.if-pool-lengths.true (ap (λ (l : W.Lengths). l.pool) e)
    ]))

pub returns-in_err-n-clause-test : goal.returns-in_err-n-clause-test
returns-in_err-n-clause-test c =
    let a = c.args in
    let r = begun-refused _ c.in_err-n.ensures.value in
    rw c.from_residual.ensures (sym (not-admitted _ a.k a.table.now a.headings.now a.pool.now r.0 (sym c.begin.ensures ∙ r.1)))

pub returns-then-k-n-clause-test : goal.returns-then-k-n-clause-test
returns-then-k-n-clause-test c =
    let a = c.args in
    sym (no-entry _ a.k a.table.now a.headings.now a.pool.now _ (sym c.begin.ensures ∙ begun-answer _ _ c.in_ok-n.ensures.value) c.if-k-n.true)

pub returns-clause-test : goal.returns-clause-test
returns-clause-test c =
    let a = c.args in
    let same : W.lengths_of a.table.now a.headings.now a.pool.now ≡ lengths_in a.lengths =
    λ i. record { table = c.if-table-lengths.false i; headings = c.if-headings-lengths.false i; pool = c.if-pool-lengths.false i } in
    c.all_stand.ensures.test
    ∙ rows-decide _ a.k a.table.now a.headings.now a.pool.now same _ (sym c.begin.ensures ∙ begun-answer _ _ c.in_ok-n.ensures.value) c.if-k-n.false
