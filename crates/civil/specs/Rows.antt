-- What the rows of the months and the years are to be.
use Rattle.std.specs.Prelude.{◌≡◌, ℕ}
use Rattle.calendar.specs.Meaning.{Calendar, Row, LeastRow}
use Rattle.calendar.specs.Size.{Turn, turn}
use Rattle.calendar.specs.Granules.{granules}
use Rattle.civil.specs.Rule.{months, years}
use Rattle.civil.specs.Table.{months_entry, years_entry, months_turn, years_turn}

-- r means c at every instant, with that period and distance, which are the least; and each whole number is a slot, so
-- a period has as many slots as its distance (Req 07)
pub record IsRow (c : Calendar) (p : Turn) (r : Row) : Type 0 where
  pub least : LeastRow c r
  pub turn : turn r ≡ p
  pub granules : granules r ≡ p.distance

-- "The rows are proved to equal the calendar's own rule .. for every instant": the rows by their entries
pub record CivilRows (row : ℕ → Row) : Type 0 where
  pub months : IsRow months months_turn (row months_entry)
  pub years : IsRow years years_turn (row years_entry)
