-- A row that is handed in (document 01's rule 13), as a test that computes.
use Rattle.std.specs.Prelude.{Bool, true, not, ◌&&◌, List, [], ◌∷◌, ◌++◌, eqb, leb, ℤ, pos, ◌+ℤ◌, length}
use Rattle.std.specs.Int.Signed.{le_z}
use Rattle.calendar.specs.Limits.{pool_limit, in_range}
use Rattle.calendar.specs.Meaning.{Row, label_of}
use Rattle.calendar.specs.Lists.{all, keep, first, is_some}

-- the labels among the cells
abbrev pub labels_of : List ℤ → List ℤ
labels_of = keep (λ z. is_some (label_of z))

abbrev pub cells_in_range : Row → Bool
cells_in_range r = all in_range (labels_of r.cells)

-- no number is below the one before
abbrev pub never_falls : List ℤ → Bool
never_falls [] = true
never_falls (j ∷ []) = true
never_falls (j ∷ k ∷ l) = le_z j k && never_falls (k ∷ l)

-- check 13 passes: not "length not P, not 1 ≤ N ≤ P ≤ 4,194,304, a label outside ±1,000,000,000, all '.', or labels that fall
-- (the next turn of the row included)"
unfoldable pub sound : Row → Bool
sound r =
    let l = labels_of r.cells in
    eqb (length r.cells) r.period
    && (leb 1 r.distance && (leb r.distance r.period && (leb r.period pool_limit
    && (cells_in_range r
    && (not (eqb (length l) 0)
    && never_falls (l ++ ((first l +ℤ pos r.distance) ∷ [])))))))
