-- The civil calendar "as a table of our operations over days: grouped by 31, altered to the month lengths, then by
-- the rules of 4, 100 and 400 years".
use Rattle.std.specs.Prelude.{List, [], ◌∷◌, ◌++◌, ℕ, ℤ, pos, negsuc}
use Rattle.calendar.specs.Size.{Turn}

-- "Six signed 32-bit numbers an entry: kind, first, second, x, y, z."
abbrev pub entry : ℕ → ℕ → ℕ → ℕ → ℕ → ℤ → List ℤ
entry kind first second x y z = pos kind ∷ pos first ∷ pos second ∷ pos x ∷ pos y ∷ z ∷ []

-- x granules of the entry k are one
abbrev pub group_entry : ℕ → ℕ → List ℤ
group_entry k x = entry 1 k 0 x 0 (pos 0)

-- days altered: the granules of the entry k that are y, y ± x, y ± 2x .. get z days more
abbrev pub alter_entry : ℕ → ℕ → ℕ → ℤ → List ℤ
alter_entry k x y z = entry 3 0 k x y z

-- 0 days; 1 granules of 31 days; 2 to 6 the months of common years: February, April, June, September and November
-- shorter; 7, 8 and 9 by the rules of 4, 100 and 400 years, first in 2004, 2100 and 2400; 10 years
abbrev pub civil_table : List ℤ
civil_table =
    entry 0 0 0 0 0 (pos 0)
    ++ group_entry 0 31
    ++ alter_entry 1 12 2 (negsuc 2)
    ++ alter_entry 2 12 4 (negsuc 0)
    ++ alter_entry 3 12 6 (negsuc 0)
    ++ alter_entry 4 12 9 (negsuc 0)
    ++ alter_entry 5 12 11 (negsuc 0)
    ++ alter_entry 6 48 38 (pos 1)
    ++ alter_entry 7 1200 1190 (negsuc 0)
    ++ alter_entry 8 4800 4790 (pos 1)
    ++ group_entry 9 12

abbrev pub months_entry : ℕ
months_entry = 9

abbrev pub years_entry : ℕ
years_entry = 10

-- the cells that its eleven rows take
abbrev pub civil_pool : ℕ
civil_pool = 332046

-- "Months come out with period 146,097 and distance 4,800, years with distance 400."
abbrev pub months_turn : Turn
months_turn = record { period = 146097; distance = 4800 }

abbrev pub years_turn : Turn
years_turn = record { period = 146097; distance = 400 }
