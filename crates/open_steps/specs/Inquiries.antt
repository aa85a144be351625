-- The questions of document 02's Req 14, with their refusals: 13, then 14.
use Rattle.std.proofs.Math.Option.{Option}
use Rattle.std.specs.Prelude.{Bool, ◌&&◌, ℤ, pos, neg_ℤ}
use Rattle.calendar.specs.Reply.{Reply, require}
use Rattle.calendar.specs.Reply.Reply.{answer}
use Rattle.calendar.specs.Limits.{between, in_range}
use Rattle.open_map.specs.Maps.{Map, is_open, map_sound}
use Rattle.open_steps.specs.Steps.{nth_open, between_open}

-- "n is within ±1,000,000 and x and y within ±1,000,000,000, else refusal 14; answers may go past that"
abbrev pub may_step : ℤ → ℤ → Bool
may_step x n = in_range x && between (neg_ℤ (pos 1000000)) (pos 1000000) n

unfoldable pub nth_reply : Map → ℤ → ℤ → Reply (Option ℤ)
unfolding map_sound is_open nth_open
nth_reply m x n = require 13 (map_sound m) (require 14 (may_step x n) (answer (nth_open m.period (is_open m) x n)))

unfoldable pub between_reply : Map → ℤ → ℤ → Reply ℤ
unfolding map_sound is_open between_open
between_reply m x y = require 13 (map_sound m) (require 14 (in_range x && in_range y) (answer (between_open (is_open m) x y)))
