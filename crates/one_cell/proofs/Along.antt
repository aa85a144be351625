-- A row whose labels are those of a row of one cell: the label of an instant t is c + t, where there is one.
-- Assumes nothing.
use mathlib.Core.Path.{◌≡◌}
use mathlib.Core.Option.{some}
use mathlib.Core.List.{List}
use native.Mathlib.Omega.{arith}
use lib.IntN.{ℤ, pos, ◌+ℤ◌, ◌-ℤ◌, ◌*ℤ◌}
use Rattle.integers.specs.Parts.{up}
use Rattle.integers.specs.Floor.{floor_div, floor_mod}
use Rattle.integers.proofs.Linear.{ints, ◌∴◌}
use Rattle.integers.proofs.Floor.{floor-eq}
use Rattle.calendar.specs.Meaning.{Row, meant}
use Rattle.calendar.specs.Questions.{given}
use Rattle.granules.proofs.Rows.{meant-some, cell-meant}
use Rattle.cursors.specs.Found.{Sound}
use Rattle.cursors.proofs.Numbers.{numbers}
use Rattle.one_cell.specs.Along.{Along}

module _ (period distance : ℤ) (cells : List ℤ) (s : Sound period distance cells) (c : ℤ) where
  abbrev row : Row
  row = given period distance cells

  pub meant-along : Along c cells → up distance ≡ up period → (t j : ℤ) → meant row t ≡ some j → j ≡ c +ℤ t
  meant-along a e t j m =
      let n = numbers period distance cells s in
      let P = up period in
      let f = floor-eq P (omega arith) t in
      let y = a (floor_mod t P) (j -ℤ pos (up distance) *ℤ floor_div t P) ((meant-some row t j).0 m) in
      rw e at y ∴ f ∴ simp ints (omega arith)

  pub along-meant : ((t j : ℤ) → meant row t ≡ some j → j ≡ c +ℤ t) → Along c cells
  along-meant h i j e = h (pos i) j (cell-meant row (numbers period distance cells s).whole i j e)
