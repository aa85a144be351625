-- `alignment::changing::changes_with` meets its contract: it is a pass over the two rows from one change of b to the next.
-- Assumes nothing.
use mathlib.Core.Path.{◌≡◌}
use lib.IntN.{◌-ℤ◌}
use Rattle.integers.specs.Parts.{up}
use Rattle.calendar.specs.Questions.{given}
use Rattle.cursors.specs.Cursor.{cursor_at}
use Rattle.alignment.proofs.Changes.{Reached}
use Rattle.alignment.proofs.changing.changes_with.Given as goal

abbrev pub invariant-loop-t : goal.invariant-loop-t
invariant-loop-t l =
    let A = given l.a_period l.a_distance l.a_cells in
    let B = given l.b_period l.b_distance l.b_cells in
    (l.a ≡ cursor_at A l.t) × (l.b ≡ cursor_at B l.t) × Reached A B l.t

abbrev pub decreases-loop-t : goal.decreases-loop-t
decreases-loop-t l = up (l.span -ℤ l.t)
