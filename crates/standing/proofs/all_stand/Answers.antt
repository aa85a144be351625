-- `standing::all_stand` meets its contract: the test by its parts.
-- Assumes nothing.
use mathlib.Core.Path.{sym, ◌∙◌, ap}
use Prim.Native.Nat.{ℕ}
use lib.ListN.{drop}
use Rattle.standing.specs.Tests.{all_empty}
use Rattle.standing.proofs.ByParts.{rows-fail-all, clear-fails-all, blank-decides}
use Rattle.standing.proofs.all_stand.Goals as goal
use Rattle.standing.proofs.all_stand.Goals.{then-not-is_clear-via-then-not-is_clear, then-not-is_clear-via-else-not-is_clear+then-not-is_blank}

pub returns-in_err-end-clause-test : goal.returns-in_err-end-clause-test
returns-in_err-end-clause-test c =
    let a = c.args in rw c.from_residual.ensures (sym (rows-fail-all a.k a.headings.now a.pool.now c.requires.0 (sym c.in_err-end.ensures.test)))

pub returns-then-not-is_clear-clause-test : goal.returns-then-not-is_clear-clause-test
returns-then-not-is_clear-clause-test c =
    let a = c.args in
    let e = c.in_ok-end.ensures in
    elim c.then-not-is_clear.branch [
      | then-not-is_clear-via-then-not-is_clear w ↦ sym (clear-fails-all a.k a.headings.now a.pool.now c.requires.0 (sym e.test) (sym w.if-not-is_clear.ensures))
      | then-not-is_clear-via-else-not-is_clear+then-not-is_blank w ↦
          w.if-not-is_blank.ensures ∙ ap (λ (i : ℕ). all_empty (drop i a.pool.now)) e.ends.is-end
          ∙ sym (blank-decides a.k a.headings.now a.pool.now c.requires.0 (sym e.test) (sym w.if-not-is_clear.ensures))
    ]

pub returns-clause-test : goal.returns-clause-test
returns-clause-test c =
    let a = c.args in
    let e = c.in_ok-end.ensures in
    c.if-not-is_blank.ensures ∙ ap (λ (i : ℕ). all_empty (drop i a.pool.now)) e.ends.is-end
    ∙ sym (blank-decides a.k a.headings.now a.pool.now c.requires.0 (sym e.test) (sym c.if-not-is_clear.ensures))
