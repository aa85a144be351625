-- The checks that several kinds share, and what the code on them cites.
use Rattle.std.specs.Prelude.{not, ℕ, ◌*◌, ◌/◌, leb, ℤ, pos, ◌≤ℤ◌}
use Rattle.integers.specs.Parts.{up}
use Rattle.integers.specs.Gcd.{gcd}
use Rattle.calendar.specs.Meaning.{Row}
use Rattle.calendar.specs.Operation as O
use Rattle.calendar.specs.Size as Size
use Rattle.calendar.specs.Size.{turn, span_of, rise}
use Rattle.calendar.specs.Distance.{size}
use Rattle.calendar.specs.Checks.{aligned_as, aligned, emptied}
use Rattle.calendar.specs.Limits.{pool_limit}
use Rattle.calendar.specs.Reply.{Reply, require}
use Rattle.calendar.specs.Reply.Reply.{answer}
use Rattle.sizes.specs.declared.Turn.{Turn}
use Rattle.operand_checks.specs.Admission.{extent}
use Rattle.operand_checks.specs.declared.Extent.{Extent}

-- what is left of a pool
abbrev pub IsRoom : ℤ → Type 0
IsRoom room = (pos 0 ≤ℤ room) × (room ≤ℤ pos pool_limit)

-- the turn of a row as `sizes` takes it
abbrev pub turn_for : ℤ → ℤ → Turn
turn_for period distance = record { period = up period; distance = up distance }

-- "8 for the working period"
abbrev pub fitted : Extent → ℕ → Reply Extent
fitted e room = require 8 (leb (up e.period) room) (answer e)

-- the working period is the span
abbrev pub whole_turn : ℤ → ℤ → Extent
whole_turn period distance = record { span = period; period = period; distance = distance }

-- the working row of group
abbrev pub group_extent : ℕ → Size.Turn → Extent
group_extent x a = record { span = pos a.period; period = pos (a.period * x / gcd x a.distance); distance = pos (a.distance / gcd x a.distance) }

-- "8 for the span" and "8 for the working period" of group
abbrev pub grouped : ℕ → Size.Turn → ℕ → Reply Extent
grouped x a room = require 8 (leb a.period room) (fitted (group_extent x a) room)

-- the working period of a span, over which a's labels rise
abbrev pub over_span : Size.Turn → ℕ → Extent
over_span a s = record { span = pos s; period = pos s; distance = pos (rise a s) }

-- the working row of alter
abbrev pub alter_extent : ℤ → Size.Turn → Extent
alter_extent s a = record { span = s; period = pos a.period; distance = pos a.distance }

-- 9, 10 and "8 for the working period"
abbrev pub behind_span : O.Operation Row → ℕ → Reply Extent
behind_span o room = require 9 (aligned o) (require 10 (not (emptied o)) (require 8 (leb (size o).period room) (answer (extent o))))

-- "8 for the span" and 9, where the working period is the span
abbrev pub spanned : O.Alignment → Row → Row → ℕ → Reply Extent
spanned k a b room = require 8 (leb (span_of (turn a) (turn b)) room) (require 9 (aligned_as k a b) (answer (over_span (turn a) (span_of (turn a) (turn b)))))
