-- Where cells stand in a row, found cell by cell.
use Rattle.std.specs.Prelude.{Bool, not, cond, List, [], ◌∷◌, ℕ, suc, ℤ}
use Rattle.calendar.specs.Meaning.{is_empty}
use Rattle.calendar.specs.Lists.{equal}

-- how many cells pass the test before one fails
unfoldable pub run : (ℤ → Bool) → List ℤ → ℕ
run f [] = 0
run f (z ∷ l) = cond (f z) (suc (run f l)) 0

-- how many stand before the first label, and before the first cell that is z
abbrev pub leading : List ℤ → ℕ
leading = run is_empty

abbrev pub position : ℤ → List ℤ → ℕ
position z = run (λ y. not (equal z y))
