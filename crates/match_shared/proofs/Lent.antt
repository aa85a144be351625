-- The row of an operand, as a function is given it that is lent its cells with its period and its distance.
-- Assumes nothing.
use mathlib.Core.Path.{◌≡◌}
use mathlib.Core.List.{List}
use lib.IntN.{ℤ}
use lib.ListN.{take, drop}
use mir.Facts.{to_z-of_z}
use mir.Syntax.{w64}
use mir.Val.{SFits, to_z, of_z}
use Rattle.integers.specs.Parts.{up}
use Rattle.calendar.specs.Meaning.{Row}
use Rattle.calendar.specs.Questions.{given}
use Rattle.kinds.specs.declared.Operand.{Operand}
use Rattle.kinds.specs.Stands.{row_in}

abbrev pub lent_row : Operand → List ℤ → Row
lent_row a cells = given (to_z w64 (of_z w64 a.period)) (to_z w64 (of_z w64 a.distance)) cells

pub lent_row_lem : (a : Operand) (pool cells : List ℤ) → SFits w64 a.period → SFits w64 a.distance
    → cells ≡ take (up a.period) (drop a.start pool) → lent_row a cells ≡ row_in pool a
lent_row_lem a pool cells p n e = rw (to_z-of_z p, to_z-of_z n, e)
