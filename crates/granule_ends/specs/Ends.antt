-- The end of a granule in a direction.
use Rattle.std.specs.Prelude.{Bool, true, false, List, ℤ}
use Rattle.calendar.specs.Lists.{first, last}

-- the first of its instants back, the last on
abbrev pub end_of : Bool → List ℤ → ℤ
end_of true l = first l
end_of false l = last l
