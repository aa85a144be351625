-- What a conversion leaves in the lists that it was lent (document 01, "How much room an entry takes" and "When the desk says no").
use Rattle.std.specs.Prelude.{List, [], ◌∷◌, ◌++◌, ℕ, ◌+◌, ℤ}
use Rattle.calendar.specs.Meaning.{Row, empty}
use Rattle.calendar.specs.Lists.{filled}
use Rattle.calendar.specs.Granules.{granules}
use Rattle.calendar.specs.Outcome.{Outcome}
use Rattle.calendar.specs.Outcome.Outcome.{refused_at, rows}

-- "Rows stand in it one behind the other from cell 0"
abbrev pub joined : List Row → List ℤ
joined [] = []
joined (r ∷ l) = r.cells ++ joined l

-- "one record for each entry: start, period, distance" and "a fourth number, the slots per period of the least form"; the first row
-- starts at `start`
abbrev pub headings_from : ℕ → List Row → List ℕ
headings_from start [] = []
headings_from start (r ∷ l) = start ∷ r.period ∷ r.distance ∷ granules r ∷ headings_from (start + r.period) l

-- a pool of n cells: "cells behind the last row are '.'"; after a refusal every cell is
unfoldable pub pool_after : ℕ → Outcome → List ℤ
pool_after n (refused_at m k) = filled n empty []
pool_after n (rows l) = filled n empty (joined l)

-- a list of n heading numbers: "Headings beyond the last entry are zero", those left over, fewer than a heading has, "are no
-- heading and end as zero"; after a refusal all are zero
unfoldable pub headings_after : ℕ → Outcome → List ℕ
unfolding granules
headings_after n (refused_at m k) = filled n 0 []
headings_after n (rows l) = filled n 0 (headings_from 0 l)
