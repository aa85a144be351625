-- Check 13 of a row, in the order in which the code looks: first the numbers, then the labels, cell by cell.
use Rattle.std.proofs.Math.Option.{Option, none, some}
use Rattle.std.specs.Prelude.{Bool, not, ◌&&◌, cond, List, [], ◌∷◌, ◌++◌, ℕ, ◌-◌, eqb, ℤ, pos, ◌+ℤ◌, length, get_or, drop}
use Rattle.std.specs.Int.Signed.{le_z}
use Rattle.calendar.specs.Meaning.{is_empty, empty}
use Rattle.calendar.specs.Lists.{all, first}
use Rattle.calendar.specs.Limits.{in_range}
use Rattle.calendar.specs.Sound.{labels_of, never_falls}

-- the last of the labels, or j where there is none, if they are not below j and never fall
unfoldable pub risen : ℤ → List ℤ → Option ℤ
risen j [] = some j
risen j (z ∷ l) = cond (is_empty z) (risen j l) (cond (le_z j z) (risen z l) none)

-- the same for the cells from i on, where j is the cell i itself, and where it is the cell before
abbrev pub risen_from : List ℤ → ℕ → Option ℤ
risen_from cells i = risen (get_or cells i empty) (drop i cells)

abbrev pub risen_behind : List ℤ → ℕ → Option ℤ
risen_behind cells i = risen (get_or cells (i - 1) empty) (drop i cells)

-- what check 13 asks of the labels of a row with the distance N
abbrev pub labels_sound : ℕ → List ℤ → Bool
labels_sound N cells =
    let l = labels_of cells in
    all in_range l && (not (eqb (length l) 0) && never_falls (l ++ ((first l +ℤ pos N) ∷ [])))
