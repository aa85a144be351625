-- A small example of each kind that the slots worked by hand leave out, or of a corner of one, by computation.
use mathlib.Core.Path.{◌≡◌, refl}
use mathlib.Core.List.{List, [], ◌∷◌, ◌++◌, map}
use lib.IntN.{ℤ, pos, negsuc}
use Rattle.calendar.specs.Meaning.{empty}
use Rattle.calendar.specs.Worked.{Case, case, row_of, row_with, entry, days, weeks, business_days, odd_and_even, labels, framed}

-- weeks, business days and pairs of days: entries 1, 2 and 3
abbrev pub pairs : List ℤ
pairs = business_days ++ entry 1 0 0 (pos 2) 0 (pos 0)

unfoldable pub kinds : List Case
unfolding row_of
kinds =
    -- shift: back by 2
    case (row_of (weeks ++ entry 2 1 0 (negsuc 1) 0 (pos 0)) 2) (row_with 7 1 (negsuc 1 ∷ negsuc 0 ∷ negsuc 0 ∷ negsuc 0 ∷ negsuc 0 ∷ negsuc 0 ∷ negsuc 0 ∷ []))
    -- select-up: the pairs that hold a whole business day
    ∷ case
    (row_of (pairs ++ entry 7 3 2 (pos 0) 0 (pos 0)) 4)
    (row_with 14 7 (empty ∷ labels (1 ∷ 1 ∷ 2 ∷ 2 ∷ 3 ∷ 3 ∷ 4 ∷ 4 ∷ 5 ∷ 5 ∷ 6 ∷ 6 ∷ []) ++ (empty ∷ [])))
    -- select-intersecting: the first and the last pair that meets each week
    ∷ case
    (row_of (pairs ++ entry 8 3 1 (pos 1) 1 (pos 0)) 4)
    (row_with 14 7 (empty ∷ pos 1 ∷ pos 1 ∷ empty ∷ empty ∷ empty ∷ empty ∷ pos 4 ∷ pos 4 ∷ empty ∷ empty ∷ empty ∷ empty ∷ empty ∷ []))
    ∷ case
    (row_of (pairs ++ entry 8 3 1 (negsuc 0) 1 (pos 0)) 4)
    (row_with 14 7 (pos 0 ∷ empty ∷ empty ∷ empty ∷ empty ∷ empty ∷ empty ∷ pos 4 ∷ pos 4 ∷ empty ∷ empty ∷ empty ∷ empty ∷ pos 7 ∷ []))
    -- select-down: the first pair inside each week, where the pair of 7 and 8 touches two
    ∷ case
    (row_of (pairs ++ entry 6 3 1 (pos 1) 1 (pos 0)) 4)
    (row_with 14 7 (empty ∷ pos 1 ∷ pos 1 ∷ empty ∷ empty ∷ empty ∷ empty ∷ empty ∷ empty ∷ pos 5 ∷ pos 5 ∷ empty ∷ empty ∷ empty ∷ []))
    -- select-down from the end: of 7 days, two from the eighth last on, of which only the first is there
    ∷ case (row_of (weeks ++ entry 6 0 1 (negsuc 7) 2 (pos 0)) 2) (row_with 7 7 (empty ∷ pos 1 ∷ empty ∷ empty ∷ empty ∷ empty ∷ empty ∷ []))
    -- intersection: the odd business days
    ∷ case
    (row_of (odd_and_even ++ entry 1 0 0 (pos 7) 0 (pos 0) ++ entry 6 0 4 (pos 1) 5 (pos 0) ++ entry 10 5 2 (pos 0) 0 (pos 0)) 6)
    (row_with 14 14 (empty ∷ pos 1 ∷ empty ∷ pos 3 ∷ empty ∷ pos 5 ∷ empty ∷ empty ∷ empty ∷ pos 9 ∷ empty ∷ pos 11 ∷ empty ∷ empty ∷ []))
    -- alter: a granule shrunk to one fine granule, and a coarse calendar with gaps
    ∷ case (row_of (days ++ entry 1 0 0 (pos 2) 0 (pos 0) ++ entry 3 0 1 (pos 3) 2 (negsuc 0)) 2) (row_with 5 3 (labels (0 ∷ 1 ∷ 1 ∷ 2 ∷ 3 ∷ [])))
    ∷ case
    (row_of (business_days ++ entry 12 2 0 (pos 1) 0 (pos 0) ++ entry 1 3 0 (pos 5) 0 (pos 0) ++ entry 3 3 4 (pos 2) 1 (negsuc 2)) 5)
    (row_with 49 10
    (framed (labels (1 ∷ 1 ∷ 2 ∷ 2 ∷ 2 ∷ [])) ++ framed (labels (2 ∷ 2 ∷ 3 ∷ 3 ∷ 4 ∷ [])) ++ framed (labels (4 ∷ 4 ∷ 4 ∷ 4 ∷ 5 ∷ [])) ++ framed (labels (5 ∷ 6 ∷ 6 ∷ 6 ∷ 6 ∷ [])) ++ framed (labels (6 ∷ 7 ∷ 7 ∷ 8 ∷ 8 ∷ [])) ++ framed (labels (8 ∷ 8 ∷ 8 ∷ 9 ∷ 9 ∷ [])) ++ framed (labels (10 ∷ 10 ∷ 10 ∷ 10 ∷ 10 ∷ []))))
    ∷ []

pub kinds-by-example : map (λ c. c.shown) kinds ≡ map (λ c. c.expected) kinds
unfolding kinds
kinds-by-example = refl
