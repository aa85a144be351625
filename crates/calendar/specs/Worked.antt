-- Document 01's "Slots worked by hand", as one list: what the definitions give, beside what is written there.
use Rattle.std.proofs.Math.Option.{Option, some}
use Rattle.std.specs.Prelude.{List, [], ◌∷◌, ◌++◌, map, ℕ, ◌/◌, ℤ, pos, negsuc, get_or}
use Rattle.calendar.specs.Limits.{entry_limit, heading_length}
use Rattle.calendar.specs.Meaning.{Row, meant, empty, bottom_row}
use Rattle.calendar.specs.Outcome.{outcome}
use Rattle.calendar.specs.Outcome.Outcome.{refused_at, rows}
use Rattle.calendar.specs.Stored.{headings_after, pool_after}

-- ---- what is shown of a conversion

pub data Excerpt : Type 0 where
  row : Row → Excerpt
  label : Option ℤ → Excerpt
  refusal : ℕ → ℕ → Excerpt
  lists : List ℕ → List ℤ → Excerpt

-- the row of entry k, with as many headings as a table has entries at most and a pool of p cells
unfoldable pub row_in : List ℤ → ℕ → ℕ → Excerpt
unfolding outcome
row_in t p k = elim (outcome t entry_limit p) [ refused_at m e ↦ refusal m e | rows l ↦ row (get_or l k bottom_row) ]

-- the same in a pool of 100 cells, which is enough for each table here
unfoldable pub row_of : List ℤ → ℕ → Excerpt
unfolding row_in
row_of t k = row_in t 100 k

-- the label of an instant in entry k
unfoldable pub label_in : List ℤ → ℕ → ℤ → Excerpt
unfolding outcome meant
label_in t k i = elim (outcome t entry_limit 100) [ refused_at m e ↦ refusal m e | rows l ↦ label (meant (get_or l k bottom_row) i) ]

-- the lists left behind: m heading numbers and p cells
unfoldable pub lists_left : List ℤ → ℕ → ℕ → Excerpt
unfolding outcome headings_after pool_after
lists_left t m p = let o = outcome t (m / heading_length) p in lists (headings_after m o) (pool_after p o)

-- ---- tables

abbrev pub entry : ℕ → ℕ → ℕ → ℤ → ℕ → ℤ → List ℤ
entry kind first second x y z = pos kind ∷ pos first ∷ pos second ∷ x ∷ pos y ∷ z ∷ []

abbrev pub days : List ℤ
days = entry 0 0 0 (pos 0) 0 (pos 0)

-- a table of days, with an entry that groups them by x
abbrev pub grouped : ℕ → List ℤ
grouped x = days ++ entry 1 0 0 (pos x) 0 (pos 0)

-- W, B and C: weeks, the first five days of each, and these renumbered at 1
abbrev pub weeks : List ℤ
weeks = grouped 7

abbrev pub business_days : List ℤ
business_days = weeks ++ entry 6 0 1 (pos 1) 5 (pos 0)

abbrev pub renumbered_days : List ℤ
renumbered_days = business_days ++ entry 12 2 0 (pos 1) 0 (pos 0)

-- odd days and even days: entries 2 and 3
abbrev pub odd_and_even : List ℤ
odd_and_even = grouped 2 ++ entry 6 0 1 (pos 1) 1 (pos 0) ++ entry 6 0 1 (pos 2) 1 (pos 0)

-- ---- the twelve cases

abbrev pub row_with : ℕ → ℕ → List ℤ → Excerpt
row_with period distance cells = row (record { period = period; distance = distance; cells = cells })

abbrev pub labels : List ℕ → List ℤ
labels = map pos

-- Monday to Friday between two empty cells
abbrev pub framed : List ℤ → List ℤ
framed l = empty ∷ l ++ (empty ∷ [])

abbrev pub one_to_five : List ℤ
one_to_five = labels (1 ∷ 2 ∷ 3 ∷ 4 ∷ 5 ∷ [])

pub record Case : Type 0 where
  pub shown : Excerpt
  pub expected : Excerpt

abbrev pub case : Excerpt → Excerpt → Case
case s e = record { shown = s; expected = e }

unfoldable pub cases : List Case
unfolding row_in row_of label_in lists_left
cases =
    -- 1. W, with the instants −6 and −7 of the easy slips
    case (row_of weeks 1) (row_with 7 1 (labels (0 ∷ 1 ∷ 1 ∷ 1 ∷ 1 ∷ 1 ∷ 1 ∷ [])))
    ∷ case (label_in weeks 1 (negsuc 5)) (label (some (pos 0)))
    ∷ case (label_in weeks 1 (negsuc 6)) (label (some (negsuc 0)))
    -- 2. B
    ∷ case (row_of business_days 2) (row_with 7 7 (framed one_to_five))
    -- 3. C, and instant 8 in both
    ∷ case (row_of renumbered_days 3) (row_with 7 5 (framed one_to_five))
    ∷ case (label_in renumbered_days 2 (pos 8)) (label (some (pos 8)))
    ∷ case (label_in renumbered_days 3 (pos 8)) (label (some (pos 6)))
    -- 4. B renumbered at 6
    ∷ case (row_of (business_days ++ entry 12 2 0 (pos 6) 0 (pos 0)) 3) (row_with 7 5 (framed (negsuc 3 ∷ negsuc 2 ∷ negsuc 1 ∷ negsuc 0 ∷ pos 0 ∷ [])))
    -- 5. C grouped by 5; B is not full
    ∷ case (row_of (renumbered_days ++ entry 1 3 0 (pos 5) 0 (pos 0)) 4) (row_with 7 1 (framed (labels (1 ∷ 1 ∷ 1 ∷ 1 ∷ 1 ∷ []))))
    ∷ case (row_of (business_days ++ entry 1 2 0 (pos 5) 0 (pos 0)) 3) (refusal 7 3)
    -- 6. C grouped by 3
    ∷ case
    (row_of (renumbered_days ++ entry 1 3 0 (pos 3) 0 (pos 0)) 4)
    (row_with 21 5
    (framed (labels (1 ∷ 1 ∷ 1 ∷ 2 ∷ 2 ∷ [])) ++ framed (labels (2 ∷ 3 ∷ 3 ∷ 3 ∷ 4 ∷ [])) ++ framed (labels (4 ∷ 4 ∷ 5 ∷ 5 ∷ 5 ∷ []))))
    -- 7. odd days, even days, and their union
    ∷ case (row_of odd_and_even 2) (row_with 2 2 (empty ∷ pos 1 ∷ []))
    ∷ case (row_of odd_and_even 3) (row_with 2 2 (pos 0 ∷ empty ∷ []))
    ∷ case (row_of (odd_and_even ++ entry 9 2 3 (pos 0) 0 (pos 0)) 4) (row_with 1 1 (pos 0 ∷ []))
    -- 8. days grouped by 2, altered: with z = 1, and with z = −2
    ∷ case (row_of (grouped 2 ++ entry 3 0 1 (pos 3) 2 (pos 1)) 2) (row_with 7 3 (labels (0 ∷ 1 ∷ 1 ∷ 2 ∷ 2 ∷ 2 ∷ 3 ∷ [])))
    ∷ case (row_of (grouped 2 ++ entry 3 0 1 (pos 3) 2 (negsuc 1)) 2) (refusal 10 2)
    -- 9. W combined with group 2
    ∷ case
    (row_of (weeks ++ entry 1 0 0 (pos 2) 0 (pos 0) ++ entry 4 1 2 (pos 0) 0 (pos 0)) 3)
    (row_with 14 2 (labels (0 ∷ 1 ∷ 1 ∷ 1 ∷ 1 ∷ 1 ∷ 1 ∷ []) ++ (empty ∷ empty ∷ labels (2 ∷ 2 ∷ 2 ∷ 2 ∷ 2 ∷ []))))
    -- 10. days anchored by odd days
    ∷ case (row_of (odd_and_even ++ entry 5 0 2 (pos 0) 0 (pos 0)) 4) (row_with 2 2 (negsuc 0 ∷ pos 1 ∷ []))
    -- 11. days − B, B ∪ C, B − B
    ∷ case
    (row_of (business_days ++ entry 11 0 2 (pos 0) 0 (pos 0)) 3)
    (row_with 7 7 (pos 0 ∷ empty ∷ empty ∷ empty ∷ empty ∷ empty ∷ pos 6 ∷ []))
    ∷ case (row_of (renumbered_days ++ entry 9 2 3 (pos 0) 0 (pos 0)) 4) (refusal 9 4)
    ∷ case (row_of (business_days ++ entry 11 2 2 (pos 0) 0 (pos 0)) 3) (refusal 12 3)
    -- 12. the lists left by W's table with a pool of 10; a pool of 8, and one of 7
    ∷ case
    (lists_left weeks 8 10)
    (lists (0 ∷ 1 ∷ 1 ∷ 1 ∷ 1 ∷ 7 ∷ 1 ∷ 1 ∷ []) (labels (0 ∷ 0 ∷ 1 ∷ 1 ∷ 1 ∷ 1 ∷ 1 ∷ 1 ∷ []) ++ (empty ∷ empty ∷ [])))
    ∷ case (lists_left weeks 8 8) (lists (0 ∷ 1 ∷ 1 ∷ 1 ∷ 1 ∷ 7 ∷ 1 ∷ 1 ∷ []) (labels (0 ∷ 0 ∷ 1 ∷ 1 ∷ 1 ∷ 1 ∷ 1 ∷ 1 ∷ [])))
    ∷ case (row_in weeks 7 1) (refusal 8 1)
    ∷ []
