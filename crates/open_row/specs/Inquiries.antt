-- The questions of document 02's Req 14, put to a row, with their refusals: 13, then 14.
use Rattle.std.proofs.Math.Option.{Option}
use Rattle.std.specs.Prelude.{Bool, ◌&&◌, ℤ}
use Rattle.calendar.specs.Meaning.{Row, meant}
use Rattle.calendar.specs.Lists.{is_some}
use Rattle.calendar.specs.Reply.{Reply, require}
use Rattle.calendar.specs.Reply.Reply.{answer}
use Rattle.calendar.specs.Limits.{in_range}
use Rattle.calendar.specs.Sound.{sound}
use Rattle.open_steps.specs.Steps.{nth_open, between_open}
use Rattle.open_steps.specs.Inquiries.{may_step}

-- the instants "with a label" are open
abbrev pub opens : Row → ℤ → Bool
opens r t = is_some (meant r t)

-- "the n-th open instant after or before x"
unfoldable pub nth_reply : Row → ℤ → ℤ → Reply (Option ℤ)
unfolding sound meant nth_open
nth_reply r x n = require 13 (sound r) (require 14 (may_step x n) (answer (nth_open r.period (opens r) x n)))

-- "the number between two instants"
unfoldable pub between_reply : Row → ℤ → ℤ → Reply ℤ
unfolding sound meant between_open
between_reply r x y = require 13 (sound r) (require 14 (in_range x && in_range y) (answer (between_open (opens r) x y)))
