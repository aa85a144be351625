-- What converting a table comes to, computed: the refusals of its entries in document 01's order, and their rows.
use Rattle.std.specs.Prelude.{not, List, [], ◌∷◌, ◌++◌, ℕ, zero, suc, ◌-◌, leb, ℤ, length, get_or}
use Rattle.calendar.specs.Meaning.{Row, bottom_row}
use Rattle.calendar.specs.Operation.{Operation, map_operation}
use Rattle.calendar.specs.Reply.{Reply, require, and_then}
use Rattle.calendar.specs.Reply.Reply.{refused, answer}
use Rattle.calendar.specs.Size.{turn, span}
use Rattle.calendar.specs.Distance.{size}
use Rattle.calendar.specs.Table.{Entry, entry_at, named, admitted}
use Rattle.calendar.specs.Compute.{working}
use Rattle.calendar.specs.Checks.{full_operands, aligned, emptied, unlabelled, labels_in_range}
use Rattle.calendar.specs.Least.{least}

-- ---- an operation over rows, with the room it has

-- 7, "8 for the span", 9, 10, "8 for the working period", 12, 11; then the least form
unfoldable pub converted : Operation Row → ℕ → Reply Row
unfolding full_operands span aligned emptied size unlabelled labels_in_range working least
converted o room =
    require 7 (full_operands o)
    (require 8 (leb (span (map_operation turn o)) room)
    (require 9 (aligned o)
    (require 10 (not (emptied o))
    (require 8 (leb (size o).period room)
    (require 12 (not (unlabelled o))
    (require 11 (labels_in_range o)
    (answer (least (working o)))))))))

-- ---- the table

-- an operation over entry numbers, at the rows of these entries
abbrev pub at_rows : List Row → Operation ℕ → Operation Row
at_rows rows = map_operation (λ k. get_or rows k bottom_row)

-- the entry behind the rows of those before it
unfoldable pub judged : List Row → ℕ → Entry → Reply Row
unfolding named converted
judged rows room e = and_then (named (length rows) e) (λ o. converted (at_rows rows o) room)

-- "The answer holds the number and the entry (0 for 1 to 3)."
pub data Outcome : Type 0 where
  refused_at : ℕ → ℕ → Outcome
  rows : List Row → Outcome

-- the n entries from k on, behind the rows of those before. "Room is the pool's length less the least periods of all earlier
-- entries."
unfoldable pub entries : List ℤ → ℕ → ℕ → List Row → ℕ → Outcome
unfolding judged
entries t zero k before room = rows before
entries t (suc n) k before room =
    elim (judged before room (entry_at t k)) [ refused m ↦ refused_at m k | answer r ↦ entries t n (suc k) (before ++ (r ∷ [])) (room - r.period) ]

-- what converting the table comes to, with so many headings and so many cells lent
unfoldable pub outcome : List ℤ → ℕ → ℕ → Outcome
unfolding entries
outcome t headings pool = elim (admitted t headings pool) [ refused m ↦ refused_at m 0 | answer n ↦ entries t n 0 [] pool ]
