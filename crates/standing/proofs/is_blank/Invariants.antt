-- `standing::is_blank` meets its contract. The loop's invariant: what is left decides.
-- Assumes nothing.
use mathlib.Core.Path.{◌≡◌}
use lib.ListN.{drop}
use Rattle.standing.specs.Tests.{all_empty}
use Rattle.standing.proofs.is_blank.Given as goal

abbrev pub invariant-loop-i : goal.invariant-loop-i
invariant-loop-i l = all_empty (drop l.start l.pool) ≡ all_empty (drop l.i l.pool)
