-- `entries::numbers` meets its contract: each arm calls the test of its kinds.
-- Assumes nothing.
use mathlib.Core.Logic.{⊎_elim}
use Rattle.entries.proofs.numbers.Goals as goal

pub returns-in-2 : goal.returns-in-2
returns-in-2 c = ⊎_elim (λ k. rw k c.label.ensures) (λ k. rw k c.label.ensures) c.in-2.is
