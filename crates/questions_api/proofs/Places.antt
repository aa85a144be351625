-- Up from an instant: the place that is told is at most the longest period.
-- Assumes nothing.
use mathlib.Core.Path.{◌≡◌, refl}
use mathlib.Core.Option.{Option, none, some}
use native.Mathlib.Omega.{arith}
use lib.IntN.{ℤ, pos}
use lib.Signed.{◌≤ℤ◌}
use Rattle.integers.proofs.Linear.{ints, ◌∴◌}
use Rattle.calendar.specs.Meaning.{Row}
use Rattle.calendar.specs.Limits.{pool_limit}
use Rattle.calendar.specs.Reply.{Reply}
use Rattle.calendar.specs.Reply.Reply.{refused, answer}
use Rattle.calendar.specs.Questions.{Placed, up_from_instant}
use Rattle.questions.proofs.Placed.{placed-within}
use Rattle.questions_api.specs.Codes.{placed_place}

pub place-small : (r : Row) (t : ℤ) → placed_place (up_from_instant r t) ≤ℤ pos pool_limit
place-small r t = by (up_from_instant r t) refl
  where
    by : (x : Reply (Option Placed)) → x ≡ up_from_instant r t → placed_place x ≤ℤ pos pool_limit
    by (refused n) e = simp ints (omega arith)
    by (answer none) e = simp ints (omega arith)
    by (answer (some p)) e = placed-within r t p e ∴ simp ints (omega arith)
