-- The code ranks the instants of a row as the map of the row would rank them.
use Rattle.std.specs.Prelude.{List, ℕ, ℤ}
use Rattle.words.specs.Bits.{tally}
use Rattle.open_map.specs.Maps.{Map, map_given}
use Rattle.row_maps.specs.Making.{labelled, map_of}

-- how many of the first c cells have a label
abbrev pub labelled_before : List ℤ → ℕ → ℕ
labelled_before cells c = tally (labelled cells) c

-- the map of a row that is handed in
abbrev pub shown_by : ℤ → List ℤ → Map
shown_by period cells = map_given period (map_of cells)
