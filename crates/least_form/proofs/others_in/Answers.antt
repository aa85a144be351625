-- `least_form::others_in` meets its contract: none is counted exactly if each cell that the loop has passed is
-- repeated.
-- Assumes nothing.
use Rattle.std.specs.Prelude.{true, false}
use borrow.Author.Count.{below_more}
use mathlib.Core.Path.{sym, ◌∙◌}
use native.Mathlib.Omega.{arith}
use Rattle.granules.proofs.Tests.{true≢false}
use Rattle.least_form.proofs.others_in.Goals as goal
use Rattle.least_form.proofs.others_in.Goals.{then-not-is_repeated, else-not-is_repeated}

pub loop-t-preserved : goal.loop-t-preserved
loop-t-preserved c =
    let k = c.loop-t in
    elim c.if-not-is_repeated.branch [
      | then-not-is_repeated w ↦
          let f = w.if-not-is_repeated.true in
          record {
            few = omega arith;
            none = λ n. absurd (omega (arith, n, w.count-is));
            all = λ h. absurd (true≢false (c.is_repeated.ensures.1 (h k.t (omega arith) (omega arith))) f);
          }
      | else-not-is_repeated w ↦
          let f = c.is_repeated.ensures.0 w.if-not-is_repeated.false in
          record {
            few = omega arith;
            none = λ n. below_more _ k.t (k.invariant.none (sym w.count-is ∙ n)) (λ l. f);
            all = λ h. w.count-is ∙ k.invariant.all (λ t m. h t (omega arith));
          }
    ]
