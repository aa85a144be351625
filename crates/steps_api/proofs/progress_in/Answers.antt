-- `steps_api::progress_in` meets its contract, case by case.
-- Assumes nothing.
use borrow.Author.Tests.{eq-eqb, ne_eqb, lt-ltb, le-ltb}
use Rattle.steps_api.proofs.progress_in.Goals as goal

pub returns-then-number-lt64 : goal.returns-then-number-lt64
returns-then-number-lt64 c = simp (eq-eqb _ _ c.if-stage-eq1.true, lt-ltb _ _ c.if-number-lt64.true)

pub returns-then-stage-eq1 : goal.returns-then-stage-eq1
returns-then-stage-eq1 c = simp (eq-eqb _ _ c.if-stage-eq1.true, le-ltb _ _ c.if-number-lt64.false)

pub returns-then-stage-eq2 : goal.returns-then-stage-eq2
returns-then-stage-eq2 c = simp (ne_eqb _ _ c.if-stage-eq1.false, eq-eqb _ _ c.if-stage-eq2.true)

pub returns-then-stage-ne3 : goal.returns-then-stage-ne3
returns-then-stage-ne3 c = simp (ne_eqb _ _ c.if-stage-eq1.false, ne_eqb _ _ c.if-stage-eq2.false, ne_eqb _ _ c.if-stage-ne3.true)

pub returns-then-number-lt1400 : goal.returns-then-number-lt1400
returns-then-number-lt1400 c =
    simp (ne_eqb _ _ c.if-stage-eq1.false, ne_eqb _ _ c.if-stage-eq2.false, eq-eqb _ _ c.if-stage-ne3.false, lt-ltb _ _ c.if-number-lt1400.true)

pub returns : goal.returns
returns c =
    simp (ne_eqb _ _ c.if-stage-eq1.false, ne_eqb _ _ c.if-stage-eq2.false, eq-eqb _ _ c.if-stage-ne3.false, le-ltb _ _ c.if-number-lt1400.false)
