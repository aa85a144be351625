-- The questions of document 02's Req 12, with their refusals: 13, then 14.
use Rattle.std.specs.Prelude.{Bool, ◌&&◌, ℤ, pos}
use Rattle.std.specs.Int.Signed.{le_z}
use Rattle.calendar.specs.Reply.{Reply, require}
use Rattle.calendar.specs.Reply.Reply.{answer}
use Rattle.calendar.specs.Limits.{in_range}
use Rattle.open_map.specs.Instants.{open_in, next_open, last_open}
use Rattle.open_map.specs.Maps.{Map, is_open, map_sound}

-- "Counting the labelled instants from s up to but not including t, s ≤ t and both within ±1,000,000,000"
abbrev pub ordered : ℤ → ℤ → Bool
ordered s t = in_range s && (in_range t && le_z s t)

-- "After 13, if s > t, or s, t or x is outside its range, it is refusal 14."
unfoldable pub count_reply : Map → ℤ → ℤ → Reply ℤ
unfolding map_sound is_open open_in
count_reply m s t = require 13 (map_sound m) (require 14 (ordered s t) (answer (pos (open_in (is_open m) s t))))

-- "finding the next open instant above x and the last below x, x in the same range"
unfoldable pub next_reply : Map → ℤ → Reply ℤ
unfolding map_sound is_open next_open
next_reply m x = require 13 (map_sound m) (require 14 (in_range x) (answer (next_open m.period (is_open m) x)))

unfoldable pub last_reply : Map → ℤ → Reply ℤ
unfolding map_sound is_open last_open
last_reply m x = require 13 (map_sound m) (require 14 (in_range x) (answer (last_open m.period (is_open m) x)))
