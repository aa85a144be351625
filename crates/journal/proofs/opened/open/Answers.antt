-- `journal::opened::open` meets its contract: the place of what `last_trailer` finds in the whole file.
-- Assumes nothing.
use mathlib.Core.Path.{sym, ap, ◌∙◌}
use native.Mathlib.Omega.{arith}
use Rattle.journal.specs.Answers.{placed, opened_in}
use Rattle.journal.proofs.Trailers.{last_found}
use Rattle.journal.proofs.opened.open.Goals as goal

pub overflow_sub-result : goal.overflow_sub-result
overflow_sub-result c = let f = last_found _ _ _ (sym c.last_trailer.ensures ∙ c.in_ok-p.was) in omega (arith, f.0.within, f.1)

pub returns : goal.returns
unfolding opened_in
returns c = sym (ap placed (sym c.last_trailer.ensures ∙ c.in_ok-p.was))

pub returns-in_err-p : goal.returns-in_err-p
unfolding opened_in
returns-in_err-p c = rw c.from_residual.ensures (sym (ap placed (sym c.last_trailer.ensures ∙ c.in_err-p.was)))
