-- How the code counts: an instant by its turn and its cell, and the rank of an instant.
use Rattle.std.specs.Prelude.{◌≡◌, true, List, ℕ, ℤ, pos, ◌+ℤ◌, ◌-ℤ◌, ◌*ℤ◌, ◌≤ℤ◌}
use Rattle.integers.specs.Floor.{floor_div, floor_mod}
use Rattle.words.specs.Bits.{cell, tally}
use Rattle.calendar.specs.Limits.{pool_limit}
use Rattle.open_map.specs.declared.turns.Turned.{Turned}
use Rattle.open_map.specs.Maps.{Map, map_given, map_sound}

-- how many of the first c cells are set
abbrev pub set_before : Map → ℕ → ℕ
set_before m c = tally (cell m.words) c

-- the rank of t: how many open instants there are from instant 0 up to t, and minus those from t up to 0 for a t
-- below 0
unfoldable pub rank : Map → ℤ → ℤ
unfolding floor_div floor_mod cell tally
rank m t = pos (set_before m m.period) *ℤ floor_div t m.period +ℤ pos (set_before m (floor_mod t m.period))

-- how far the rank rises over so many turns, from the cell a to the cell c
unfoldable pub risen_over : Map → ℤ → ℕ → ℕ → ℤ
unfolding cell tally
risen_over m turns a c = (pos (set_before m m.period) *ℤ turns +ℤ pos (set_before m c)) -ℤ pos (set_before m a)

-- a map that passed check 13
abbrev pub Sound : ℤ → List ℕ → Type 0
Sound period words = map_sound (map_given period words) ≡ true

-- a period, or the number of set cells in it
abbrev pub Turning : ℤ → Type 0
Turning p = (pos 1 ≤ℤ p) × (p ≤ℤ pos pool_limit)

-- the turn and the cell of the instant t
unfoldable pub turned_at : ℕ → ℤ → Turned
unfolding floor_div floor_mod
turned_at P t = record { turn = floor_div t P; cell = floor_mod t P }
