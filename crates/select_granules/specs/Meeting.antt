-- A walk over a granule of a for the granules of b that it meets.
use Rattle.std.specs.Prelude.{◌≡◌, Bool, true, false, ℤ}
use Rattle.calendar.specs.Meaning.{Row}
use Rattle.calendar.specs.Lists.{first}
use Rattle.calendar.specs.Granules.{granule}

-- where the walk begins: with t, or with the granule's first instant
abbrev pub StartsAt : Bool → Row → ℤ → ℤ → ℤ → Type 0
StartsAt true a j t u = u ≡ t
StartsAt false a j t u = u ≡ first (granule a j)
