-- The checks of an operation before its working row is made.
use Rattle.calendar.specs.declared.Refusal.{Refusal}
use Rattle.std.specs.Prelude.{not, ℕ, leb, pos, Err, Ok, Result}
use Rattle.calendar.specs.Meaning.{Row}
use Rattle.calendar.specs.Operation.{Operation, map_operation}
use Rattle.calendar.specs.Size.{turn, span}
use Rattle.calendar.specs.Distance.{size}
use Rattle.calendar.specs.Checks.{full_operands, aligned, emptied}
use Rattle.calendar.specs.Refusals.{number_of}
use Rattle.calendar.specs.Reply.{Reply, require}
use Rattle.calendar.specs.Reply.Reply.{refused, answer}
use Rattle.operand_checks.specs.declared.Extent.{Extent}

-- how far the working row reaches
abbrev pub extent : Operation Row → Extent
extent o = record { span = pos (span (map_operation turn o)); period = pos (size o).period; distance = pos (size o).distance }

-- 7, "8 for the span", 9, 10, "8 for the working period": the beginning of `Outcome.converted`
abbrev pub admission : Operation Row → ℕ → Reply Extent
admission o room =
    require 7 (full_operands o)
    (require 8 (leb (span (map_operation turn o)) room)
    (require 9 (aligned o)
    (require 10 (not (emptied o))
    (require 8 (leb (size o).period room)
    (answer (extent o))))))

-- what the checks come to
abbrev pub checked_reply : Result Extent Refusal → Reply Extent
checked_reply (Err x) = refused (number_of x)
checked_reply (Ok e) = answer e
