-- What holds between two turns of a loop that compares a claimed row with the working row of an operation.
use Rattle.std.specs.Prelude.{◌≡◌, Bool, true, not, ℕ, ◌≤◌, pos}
use Rattle.calendar.specs.Meaning.{Row}
use Rattle.calendar.specs.Operation.{Operation}
use Rattle.calendar.specs.Lists.{all, from, is_some, if_label}
use Rattle.calendar.specs.Limits.{in_range}
use Rattle.calendar.specs.Distance.{size}
use Rattle.calendar.specs.Compute.{result}
use Rattle.cursors.specs.Cursor.{cursor_at}
use Rattle.match_shared.specs.declared.Comparing.{Comparing}
use Rattle.match_shared.specs.Matching.{agree}

-- the instants 0 to t − 1 are seen: their labels are within the limits, and it is known whether one is labelled and
-- whether r has the same labels
pub record Seen (o : Operation Row) (r : Row) (t : ℕ) (labelled same : Bool) : Type 0 where
  pub at-most : t ≤ (size o).period
  pub within : all (λ u. if_label (result o u) in_range) (from (pos 0) t) ≡ true
  pub is-labelled : labelled ≡ not (all (λ u. not (is_some (result o u))) (from (pos 0) t))
  pub is_same : same ≡ agree o r t

-- the loop's state before the instant t
pub record Compares (o : Operation Row) (r : Row) (t : ℕ) (c : Comparing) : Type 0 where
  pub cursor : c.cursor ≡ cursor_at r (pos t)
  pub seen : Seen o r t c.labelled c.same
