-- The Gregorian calendar's own rule, from the leap year rule and the twelve month lengths alone, run backward without
-- end (document 02, Req 05).
use Rattle.std.specs.Prelude.{◌≡◌, Bool, not, ◌&&◌, ◌||◌, cond, List, [], ◌∷◌, ℕ, zero, suc, ◌+◌, ◌-◌, ◌≤◌, eqb, ltb, ℤ, pos, negsuc, ◌+ℤ◌, ◌-ℤ◌, ◌*ℤ◌, get_or}
use Rattle.std.proofs.Math.Option.{some}
use Rattle.integers.specs.Floor.{floor_mod}
use Rattle.calendar.specs.Meaning.{Calendar}

-- "the year there being the civil number (.. a year 0 stands before year 1)"; months and days count from 1
pub record Date : Type 0 where
  pub year : ℤ
  pub month : ℕ
  pub day : ℕ

abbrev pub date : ℤ → ℕ → ℕ → Date
date y m d = record { year = y; month = m; day = d }

-- ---- the two rules

abbrev pub multiple_of : ℕ → ℤ → Bool
multiple_of n y = eqb (floor_mod y n) 0

-- the rules of 4, 100 and 400 years
unfoldable pub leap : ℤ → Bool
unfolding floor_mod
leap y = multiple_of 4 y && (not (multiple_of 100 y) || multiple_of 400 y)

-- the twelve month lengths, of a year that is no leap year
abbrev pub common_lengths : List ℕ
common_lengths = 31 ∷ 28 ∷ 31 ∷ 30 ∷ 31 ∷ 30 ∷ 31 ∷ 31 ∷ 30 ∷ 31 ∷ 30 ∷ 31 ∷ []

-- the days of month m of the year y
unfoldable pub days_in : ℤ → ℕ → ℕ
unfolding leap
days_in y m = cond (eqb m 2 && leap y) 29 (get_or common_lengths (m - 1) 0)

-- ---- dates

pub record Exists (d : Date) : Type 0 where
  pub month : (1 ≤ d.month) × (d.month ≤ 12)
  pub day : (1 ≤ d.day) × (d.day ≤ days_in d.year d.month)

-- the day after the last day of a month is day 1 of the next month, and after December comes January of the next year
unfoldable pub next : Date → Date
unfolding days_in
next d =
    cond (ltb d.day (days_in d.year d.month)) (date d.year d.month (d.day + 1))
    (cond (ltb d.month 12) (date d.year (d.month + 1) 1) (date (d.year +ℤ pos 1) 1 1))

-- "Instant 1 is to be 1 January 2001"
abbrev pub origin : Date
origin = date (pos 2001) 1 1

-- the dates D of the instants follow the rule
pub record Follows (D : ℤ → Date) : Type 0 where
  pub starts : D (pos 1) ≡ origin
  pub exists : (t : ℤ) → Exists (D t)
  pub next : (t : ℤ) → D (t +ℤ pos 1) ≡ next (D t)

-- ---- the date of each instant, stepwise from there on and back. It is the only one that follows the rule (`Dates.follows-only`)

unfoldable pub previous : Date → Date
unfolding days_in
previous d =
    cond (ltb 1 d.day) (date d.year d.month (d.day - 1))
    (cond (ltb 1 d.month) (date d.year (d.month - 1) (days_in d.year (d.month - 1))) (date (d.year -ℤ pos 1) 12 31))

-- n steps from the origin
unfoldable pub steps : (Date → Date) → ℕ → Date
steps f zero = origin
steps f (suc n) = f (steps f n)

unfoldable pub date_of : ℤ → Date
unfolding steps next previous
date_of (pos zero) = steps previous 1
date_of (pos (suc n)) = steps next n
date_of (negsuc n) = steps previous (n + 2)

-- ---- the calendars of the rule

-- "month 1 is January 2001"
abbrev pub month_slot : ℤ → ℕ → ℤ
month_slot y m = pos 12 *ℤ (y -ℤ pos 2001) +ℤ pos m

-- "year 1 is 2001"
abbrev pub year_slot : ℤ → ℤ
year_slot y = y -ℤ pos 2000

unfoldable pub months : Calendar
unfolding date_of
months t = some (month_slot (date_of t).year (date_of t).month)

unfoldable pub years : Calendar
unfolding date_of
years t = some (year_slot (date_of t).year)
