-- An open map: "one bit for each cell, in words of 64" (document 02, Req 12).
use Rattle.std.specs.Prelude.{Bool, ◌&&◌, List, ℕ, eqb, leb, ℤ}
use Rattle.integers.specs.Parts.{up}
use Rattle.integers.specs.Floor.{floor_mod}
use Rattle.calendar.specs.Limits.{pool_limit}
use Rattle.words.specs.Bits.{cell}
use Rattle.bitmaps.specs.Cells.{fitting}

pub record Map : Type 0 where
  pub period : ℕ
  pub words : List ℕ

-- a map as a caller hands it in: a period below zero is as good as 0, which rule 13 refuses
abbrev pub map_given : ℤ → List ℕ → Map
map_given period words = record { period = up period; words = words }

-- "the map stands for the open instants that its bits show, repeated every P"
unfoldable pub is_open : Map → ℤ → Bool
unfolding floor_mod cell
is_open m t = eqb (cell m.words (floor_mod t m.period)) 1

-- check 13 passes: not "a word count that doesn't fit P, a P outside 1 to the row limit, an unused bit of the last
-- word not 0, or no bit set"
unfoldable pub map_sound : Map → Bool
unfolding fitting
map_sound m = leb 1 m.period && (leb m.period pool_limit && fitting m.period m.words)
