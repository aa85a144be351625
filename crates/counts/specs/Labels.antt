-- The labels of a row, as the code counts them.
use Rattle.std.specs.Prelude.{cond, List, [], ◌∷◌, ℕ, suc, ◌+◌, ◌-◌, ℤ, pos, get_or, drop}
use Rattle.std.specs.Int.Signed.{lt_z}
use Rattle.calendar.specs.Meaning.{empty}
use Rattle.calendar.specs.Lists.{equal}
use Rattle.counts.specs.declared.Labels.{Labels}

-- how often the labels rise, from j on
unfoldable pub rises : ℤ → List ℤ → ℕ
rises j [] = 0
rises j (z ∷ l) = cond (lt_z j z) (suc (rises z l)) (rises j l)

-- the greatest of these numbers and j
unfoldable pub greatest : ℤ → List ℤ → ℤ
greatest j [] = j
greatest j (z ∷ l) = cond (lt_z j z) (greatest z l) (greatest j l)

-- how many of these numbers are another than the one before, from j on
unfoldable pub differing : ℤ → List ℤ → ℕ
differing j [] = 0
differing j (z ∷ l) = cond (equal z j) (differing z l) (suc (differing z l))

-- the same for the cells from i on, where j is the cell before
abbrev pub differing_behind : List ℤ → ℕ → ℕ
differing_behind cells i = differing (get_or cells (i - 1) empty) (drop i cells)

-- the labels from j on: j and each that is greater than those before
unfoldable pub counted : ℤ → List ℤ → Labels
unfolding rises greatest
counted j l = record { count = pos (suc (rises j l)); last = greatest j l }

-- the same where n labels were counted before, the greatest of them j
unfoldable pub counted_on : ℕ → ℤ → List ℤ → Labels
unfolding rises greatest
counted_on n j l = record { count = pos (n + rises j l); last = greatest j l }
