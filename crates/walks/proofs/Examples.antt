-- Document 01's case 12 in steps, and what a caller may change, by computation.
-- Assumes nothing.
use mathlib.Core.Path.{◌≡◌, refl}
use mathlib.Core.List.{List, [], ◌∷◌, ◌++◌, map}
use Prim.Native.Nat.{ℕ}
use lib.IntN.{ℤ, pos}
use lib.ListN.{replicate, take, set}
use Rattle.calendar.specs.Meaning.{empty}
use Rattle.calendar.specs.Worked.{weeks}
use Rattle.walks.specs.Walk.{Progress, Walk, Left, start, call}
use Rattle.walks.specs.Walk.Progress.{due, done, refused_at}
use Rattle.walks.specs.Runs.{calls}

abbrev labels : List ℕ → List ℤ
labels = map pos

abbrev blank : ℕ → List ℤ
blank n = replicate n empty

abbrev zeros : ℕ → List ℕ
zeros n = replicate n 0

-- a walk of case 12's table, bottom and group 7, with two headings and 10 cells, of any content before
abbrev begun : Left
begun = start weeks (replicate 8 9) (replicate 10 (pos 5))

abbrev at : Progress → Walk
at p = record { lengths = record { table = 12; headings = 8; pool = 10 }; progress = p }

abbrev one : List ℕ
one = 0 ∷ 1 ∷ 1 ∷ 1 ∷ []

abbrev two : List ℕ
two = one ++ (1 ∷ 7 ∷ 1 ∷ 1 ∷ [])

abbrev week : List ℤ
week = labels (0 ∷ 0 ∷ 1 ∷ 1 ∷ 1 ∷ 1 ∷ 1 ∷ 1 ∷ [])

-- ---- one entry a call

pub case-12-steps :
    (begun ≡ record { walk = at (due 0); headings = zeros 8; pool = blank 10 })
    × (calls begun (replicate 1 weeks) ≡ record { walk = at (due 1); headings = one ++ zeros 4; pool = labels (0 ∷ []) ++ blank 9 })
    × (calls begun (replicate 2 weeks) ≡ record { walk = at done; headings = two; pool = week ++ blank 2 })
    × (calls begun (replicate 3 weeks) ≡ calls begun (replicate 2 weeks))
unfolding start calls
case-12-steps = (refl, refl, refl, refl)

-- ---- a call at entry 1 with other lists

abbrev second : List ℤ → List ℕ → List ℤ → Progress
second t headings pool = (call (at (due 1)) t headings pool).walk.progress

abbrev first : List ℤ
first = labels (0 ∷ []) ++ blank 9

-- 13: another length of the table, the headings or the pool; a start, a distance or a fourth number that is not the row's; a period that is not the least; a cell or a
-- number behind the rows; a row that is missing
pub refused-13 :
    (second (take 6 weeks) (one ++ zeros 4) first ≡ refused_at 13 1)
    × (second weeks (one ++ zeros 5) first ≡ refused_at 13 1)
    × (second weeks (one ++ zeros 4) (take 9 first) ≡ refused_at 13 1)
    × (second weeks (set (one ++ zeros 4) 0 1) first ≡ refused_at 13 1)
    × (second weeks (set (one ++ zeros 4) 2 2) first ≡ refused_at 13 1)
    × (second weeks (set (one ++ zeros 4) 3 2) first ≡ refused_at 13 1)
    × (second weeks (0 ∷ 2 ∷ 2 ∷ 2 ∷ zeros 4) (labels (0 ∷ 1 ∷ []) ++ blank 8) ≡ refused_at 13 1)
    × (second weeks (one ++ zeros 4) (set first 9 (pos 0)) ≡ refused_at 13 1)
    × (second weeks (set (one ++ zeros 4) 7 1) first ≡ refused_at 13 1)
    × (second weeks (zeros 8) (blank 10) ≡ refused_at 13 1)
unfolding call
refused-13 = (refl, refl, refl, refl, refl, refl, refl, refl, refl, refl)

-- a refusal empties the lists at the lengths that they have then, and stays
pub refusal-empties :
    call (at (due 1)) weeks (one ++ zeros 5) (take 9 first) ≡ record { walk = at (refused_at 13 1); headings = zeros 9; pool = blank 9 }
unfolding call
refusal-empties = refl

-- a row that passes the test counts as its calendar: bottom moved by 5, odd days for bottom; refusal 7 comes of the row as it stands
pub changed-rows :
    (call (at (due 1)) weeks (one ++ zeros 4) (set first 0 (pos 5))
    ≡ record { walk = at done; headings = two; pool = labels (5 ∷ 1 ∷ 1 ∷ 1 ∷ 2 ∷ 2 ∷ 2 ∷ 2 ∷ []) ++ blank 2 })
    × (second weeks (0 ∷ 2 ∷ 2 ∷ 1 ∷ zeros 4) (empty ∷ pos 1 ∷ blank 8) ≡ refused_at 7 1)
unfolding call
changed-rows = (refl, refl)

-- the entry as it stands at its own step: group 3, and a kind that is none
pub changed-tables :
    (call (at (due 1)) (set weeks 9 (pos 3)) (one ++ zeros 4) first
    ≡ record { walk = at done; headings = one ++ (1 ∷ 3 ∷ 1 ∷ 1 ∷ []); pool = labels (0 ∷ 0 ∷ 1 ∷ 1 ∷ []) ++ blank 6 })
    × (second (set weeks 0 (pos 13)) (one ++ zeros 4) first ≡ done)
    × (second (set weeks 6 (pos 13)) (one ++ zeros 4) first ≡ refused_at 4 1)
unfolding call
changed-tables = (refl, refl, refl)

-- states that no start and no call gives: an entry that the table does not have, lengths that checks 1 to 3 refuse
pub other-states :
    ((call (at (due 2)) weeks two (week ++ blank 2)).walk ≡ at (refused_at 13 2))
    × ((call (record { lengths = record { table = 0; headings = 0; pool = 0 }; progress = due 0 }) [] [] []).walk.progress ≡ refused_at 13 0)
    × ((call (at (refused_at 99 7)) weeks one week).walk ≡ at (refused_at 99 7))
unfolding call
other-states = (refl, refl, refl)
