-- The test of rows that stand, in the parts that the code takes.
use Rattle.std.specs.Prelude.{◌≡◌, Bool, true, ◌&&◌, List, [], ◌∷◌, ℕ, zero, suc, ◌+◌, ◌*◌, ◌≤◌, eqb, ℤ, length, drop}
use Rattle.calendar.specs.Meaning.{Row, empty}
use Rattle.calendar.specs.Limits.{heading_length}
use Rattle.calendar.specs.Lists.{equal}
use Rattle.calendar.specs.Granules.{granules}
use Rattle.conversion.specs.Shows.{start_at, period_at, granules_at, row_at}
use Rattle.standing.specs.Standing.{is_least}

-- ---- one row

-- the row is least, and has so many granules
unfoldable pub is_counted : Row → ℕ → Bool
unfolding is_least granules
is_counted r n = is_least r && eqb (granules r) n

-- the heading k starts at `used`, and its row is least, with the granules that it says
unfoldable pub row_stands : List ℕ → List ℤ → ℕ → ℕ → Bool
unfolding is_counted
row_stands headings pool k used = eqb (start_at headings k) used && is_counted (row_at headings pool k) (granules_at headings k)

-- where it does, `end` is the cell behind the row, which lies in the pool
pub record Ends (headings : List ℕ) (pool : List ℤ) (k used end : ℕ) : Type 0 where
  pub is-end : end ≡ used + period_at headings k
  pub fits : end ≤ length pool

-- ---- all rows

-- the cell behind the first n rows
abbrev pub end_of : List ℕ → ℕ → ℕ
end_of headings zero = 0
end_of headings (suc n) = end_of headings n + period_at headings n

-- the first n rows stand one behind the other
unfoldable pub rows_stand : List ℕ → List ℤ → ℕ → Bool
unfolding row_stands
rows_stand headings pool zero = true
rows_stand headings pool (suc n) = rows_stand headings pool n && row_stands headings pool n (end_of headings n)

-- where they do, `end` is the cell behind the last, which lies in the pool
pub record EndsAt (headings : List ℕ) (pool : List ℤ) (n end : ℕ) : Type 0 where
  pub is-end : end ≡ end_of headings n
  pub fits : end ≤ length pool

-- ---- what is behind

abbrev pub all_zero : List ℕ → Bool
all_zero [] = true
all_zero (n ∷ l) = eqb n 0 && all_zero l

abbrev pub all_empty : List ℤ → Bool
all_empty [] = true
all_empty (z ∷ l) = equal z empty && all_empty l

-- the whole test
unfoldable pub stands_by : ℕ → List ℕ → List ℤ → Bool
unfolding rows_stand
stands_by k headings pool =
    rows_stand headings pool k && (all_zero (drop (heading_length * k) headings) && all_empty (drop (end_of headings k) pool))
