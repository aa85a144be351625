-- A row whose labels are those of a row of one cell.
use Rattle.std.specs.Prelude.{◌≡◌, List, ℕ, ℤ, pos, ◌+ℤ◌, get_or}
use Rattle.std.proofs.Math.Option.{some}
use Rattle.calendar.specs.Meaning.{label_of, empty}

-- the cell i has the label c + i, or none
abbrev pub Along : ℤ → List ℤ → Type 0
Along c cells = (i : ℕ) (j : ℤ) → label_of (get_or cells i empty) ≡ some j → j ≡ c +ℤ pos i
