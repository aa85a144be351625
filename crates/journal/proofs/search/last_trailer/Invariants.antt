-- `journal::search::last_trailer` meets its contract. The loop's invariant: no trailer points back from p on.
-- Assumes nothing.
use mathlib.Core.Path.{◌≡◌}
use lib.ListN.{length}
use Rattle.journal.specs.Window.{last_in}
use Rattle.journal.proofs.search.last_trailer.Given as goal

abbrev pub invariant-loop-p : goal.invariant-loop-p
invariant-loop-p l = last_in l.window l.base (length l.window) ≡ last_in l.window l.base l.p
