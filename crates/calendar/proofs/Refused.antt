-- Each refusal of a conversion by a small example, and the order among them, by computation.
use mathlib.Core.Path.{◌≡◌, refl}
use mathlib.Core.List.{List, [], ◌∷◌, ◌++◌, map}
use Prim.Native.Nat.{ℕ, suc, ◌*◌}
use lib.IntN.{ℤ, pos, negsuc}
use lib.ListN.{replicate}
use Rattle.calendar.specs.Limits.{pool_limit, entry_limit}
use Rattle.calendar.specs.Outcome.{outcome}
use Rattle.calendar.specs.Outcome.Outcome.{refused_at}
use Rattle.calendar.specs.Worked.{Case, case, row_in, row_of, row_with, entry, days, grouped, weeks, business_days, renumbered_days, odd_and_even, labels, framed}
use Rattle.calendar.specs.Worked.Excerpt.{refusal}

-- ---- 1, 2 and 3, in this order

pub begin-refused :
    (outcome [] 0 (suc pool_limit) ≡ refused_at 1 0)
    × (outcome (days ++ (pos 0 ∷ [])) 9 10 ≡ refused_at 1 0)
    × (outcome (replicate (6 * suc entry_limit) (pos 0)) (suc entry_limit) 100 ≡ refused_at 1 0)
    × (outcome weeks 1 (suc pool_limit) ≡ refused_at 2 0)
    × (outcome weeks 2 (suc pool_limit) ≡ refused_at 3 0)
unfolding outcome
begin-refused = (refl, refl, refl, refl, refl)

-- ---- entry by entry

-- one entry behind `before`, in a pool of p cells, is refused
abbrev pub refuses : List ℤ → ℕ → List ℤ → ℕ → ℕ → Case
refuses before p e number k = case (row_in (before ++ e) p k) (refusal number k)

unfoldable pub refused : List Case
unfolding row_in row_of
refused =
    -- 4, before 5 and 6
    refuses days 100 (entry 13 9 0 (pos 0) 0 (pos 0)) 4 1
    ∷ case (row_of (negsuc 0 ∷ pos 0 ∷ pos 0 ∷ pos 0 ∷ pos 0 ∷ pos 0 ∷ []) 0) (refusal 4 0)
    -- 5, before 6: an operand is this entry itself, is below 0; the second one
    ∷ refuses [] 100 (entry 1 0 0 (pos 7) 0 (pos 0)) 5 0
    ∷ refuses days 100 (pos 2 ∷ negsuc 0 ∷ pos 0 ∷ pos 0 ∷ pos 1 ∷ pos 0 ∷ []) 5 1
    ∷ refuses days 100 (entry 9 0 1 (pos 0) 0 (pos 0)) 5 1
    -- 6: numbers that a kind does not name, and limits
    ∷ refuses [] 100 (entry 0 1 0 (pos 0) 0 (pos 0)) 6 0
    ∷ refuses days 100 (entry 1 0 1 (pos 7) 0 (pos 0)) 6 1
    ∷ refuses days 100 (entry 1 0 0 (pos 0) 0 (pos 0)) 6 1
    ∷ refuses days 100 (entry 1 0 0 (pos 1000001) 0 (pos 0)) 6 1
    ∷ refuses days 100 (entry 2 0 0 (pos 1000000001) 0 (pos 0)) 6 1
    ∷ refuses (grouped 2) 100 (entry 3 0 1 (pos 3) 4 (pos 0)) 6 2
    ∷ refuses (grouped 2) 100 (entry 3 0 1 (pos 3) 3 (pos 1000001)) 6 2
    ∷ refuses weeks 100 (entry 6 0 1 (pos 0) 1 (pos 0)) 6 2
    ∷ refuses weeks 100 (entry 8 0 1 (pos 1) 0 (pos 0)) 6 2
    ∷ refuses weeks 100 (entry 4 0 1 (pos 0) 0 (pos 1)) 6 2
    -- 7 before 8
    ∷ refuses business_days 15 (entry 1 2 0 (pos 5) 0 (pos 0)) 7 3
    ∷ refuses (odd_and_even ++ (entry 5 2 0 (pos 0) 0 (pos 0))) 100 [] 7 4
    -- 8 for the span, before 9: the room counts the least periods of earlier entries
    ∷ refuses weeks 14 (entry 2 1 0 (pos 0) 0 (pos 0)) 8 2
    ∷ case (row_in (weeks ++ entry 2 1 0 (pos 0) 0 (pos 0)) 15 2) (row_with 7 1 (labels (0 ∷ 1 ∷ 1 ∷ 1 ∷ 1 ∷ 1 ∷ 1 ∷ [])))
    ∷ refuses renumbered_days 28 (entry 9 2 3 (pos 0) 0 (pos 0)) 8 4
    ∷ refuses [] 0 days 8 0
    -- 9: a label that stands elsewhere, labels that fall only when joined, a part of a granule, another rise
    ∷ refuses (odd_and_even ++ entry 2 3 0 (pos 2) 0 (pos 0)) 100 (entry 9 2 4 (pos 0) 0 (pos 0)) 9 5
    ∷ refuses (business_days ++ entry 4 1 2 (pos 0) 0 (pos 0)) 100 (entry 10 1 3 (pos 0) 0 (pos 0)) 9 4
    ∷ refuses (business_days ++ entry 4 1 2 (pos 0) 0 (pos 0)) 100 (entry 5 1 3 (pos 0) 0 (pos 0)) 9 4
    ∷ refuses renumbered_days 100 (entry 5 0 3 (pos 0) 0 (pos 0)) 9 4
    ∷ refuses renumbered_days 100 (entry 3 0 3 (pos 2) 1 (pos 1)) 9 4
    -- 10 before 8 for the working period
    ∷ refuses (grouped 2) 5 (entry 3 0 1 (pos 3) 2 (negsuc 1)) 10 2
    -- 8 for the working period, though the least form would fit
    ∷ refuses (grouped 2) 9 (entry 3 0 1 (pos 3) 2 (pos 1)) 8 2
    ∷ case (row_in (grouped 2 ++ entry 3 0 1 (pos 3) 2 (pos 1)) 10 2) (row_with 7 3 (labels (0 ∷ 1 ∷ 1 ∷ 2 ∷ 2 ∷ 2 ∷ 3 ∷ [])))
    ∷ refuses (odd_and_even) 8 (entry 9 2 3 (pos 0) 0 (pos 0)) 8 4
    ∷ case (row_in (odd_and_even ++ entry 9 2 3 (pos 0) 0 (pos 0)) 9 4) (row_with 1 1 (pos 0 ∷ []))
    ∷ case (row_in (renumbered_days ++ entry 1 3 0 (pos 5) 0 (pos 0)) 29 4) (row_with 7 1 (framed (labels (1 ∷ 1 ∷ 1 ∷ 1 ∷ 1 ∷ []))))
    -- 11 looks at the working row, though the least form would fit
    ∷ refuses (days ++ entry 2 0 0 (pos 1000000000) 0 (pos 0)) 100 (entry 2 1 0 (pos 1) 0 (pos 0)) 11 2
    ∷ refuses (days ++ entry 2 0 0 (pos 1000000000) 0 (pos 0) ++ entry 1 0 0 (pos 2) 0 (pos 0)) 100 (entry 8 1 2 (pos 1) 2 (pos 0)) 11 3
    -- 12
    ∷ refuses weeks 100 (entry 6 0 1 (pos 8) 1 (pos 0)) 12 2
    ∷ []

pub refusals-by-example : map (λ c. c.shown) refused ≡ map (λ c. c.expected) refused
unfolding refused
refusals-by-example = refl
