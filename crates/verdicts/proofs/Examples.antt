-- Document 01's case 12 as finished lists, right and changed, by computation.
use mathlib.Core.Path.{◌≡◌, refl}
use mathlib.Core.List.{List, [], ◌∷◌, ◌++◌, map}
use Prim.Native.Nat.{ℕ}
use lib.IntN.{ℤ, pos}
use lib.ListN.{replicate, take, set}
use Rattle.calendar.specs.Meaning.{empty}
use Rattle.calendar.specs.Worked.{weeks}
use Rattle.verdicts.specs.Check.{check}
use Rattle.verdicts.specs.declared.Verdict.TheVariants.{Accepted, Refused, Wrong}

abbrev two : List ℕ
two = 0 ∷ 1 ∷ 1 ∷ 1 ∷ 1 ∷ 7 ∷ 1 ∷ 1 ∷ []

abbrev week : List ℤ
week = map pos (0 ∷ 0 ∷ 1 ∷ 1 ∷ 1 ∷ 1 ∷ 1 ∷ 1 ∷ [])

pub case-12-checked :
    (check weeks two (week ++ replicate 2 empty) ≡ Accepted)
    × (check weeks two week ≡ Accepted)
    -- the rest: a cell, a heading, a number that is left over
    × (check weeks two (week ++ (empty ∷ pos 0 ∷ [])) ≡ Wrong 2)
    × (check weeks (two ++ (0 ∷ 1 ∷ 0 ∷ 0 ∷ [])) week ≡ Wrong 2)
    × (check weeks (two ++ (0 ∷ 0 ∷ 1 ∷ [])) week ≡ Wrong 2)
    -- a start, a fourth number, a cell
    × (check weeks (set two 4 2) week ≡ Wrong 1)
    × (check weeks (set two 7 2) week ≡ Wrong 1)
    × (check weeks two (set week 7 (pos 2)) ≡ Wrong 1)
    -- a refusal comes before what is wrong at the same entry, and what is wrong at an earlier entry before a refusal
    × (check weeks (set two 4 2) (take 7 week) ≡ Refused 8 1)
    × (check weeks (set two 3 2) (take 7 week) ≡ Wrong 0)
    -- checks 1 to 3 come first
    × (check [] two week ≡ Refused 1 0)
    × (check weeks (take 7 two) (set week 0 (pos 1)) ≡ Refused 2 0)
unfolding check
case-12-checked = (refl, refl, refl, refl, refl, refl, refl, refl, refl, refl, refl, refl)
