-- The instant of a date by a formula, and the reply to a date as a definition that computes. It is the reply of `Asked`
-- (`proofs/Asked`).
use Rattle.std.specs.Prelude.{Bool, ◌&&◌, cond, List, [], ◌∷◌, ℕ, ◌+◌, ◌-◌, ltb, ℤ, pos, ◌+ℤ◌, ◌-ℤ◌, ◌*ℤ◌, take}
use Rattle.integers.specs.Parts.{up}
use Rattle.integers.specs.Floor.{floor_div}
use Rattle.calendar.specs.Limits.{between, in_range}
use Rattle.calendar.specs.Reply.{Reply, require}
use Rattle.calendar.specs.Reply.Reply.{answer}
use Rattle.civil.specs.Rule.{leap, common_lengths, days_in}

-- how many of the years 2001 to 2000 + q are leap years; below zero, how many of the years 2001 + q to 2000, negated
unfoldable pub leap_years : ℤ → ℤ
unfolding floor_div
leap_years q = floor_div q 4 -ℤ floor_div q 100 +ℤ floor_div q 400

-- the days from 1 January 2001 to 1 January of the year 2001 + q
unfoldable pub days_to_year : ℤ → ℤ
unfolding leap_years
days_to_year q = pos 365 *ℤ q +ℤ leap_years q

abbrev pub sum : List ℕ → ℕ
sum [] = 0
sum (n ∷ l) = n + sum l

-- the days of a year before its month m, in a leap year or not
unfoldable pub days_to_month : Bool → ℕ → ℕ
days_to_month l m = sum (take (m - 1) common_lengths) + cond (l && ltb 2 m) 1 0

-- the only instant whose date it is, if the date exists (`Instants.date-of-instant`)
unfoldable pub instant_of : ℤ → ℕ → ℕ → ℤ
unfolding days_to_year days_to_month leap
instant_of y m d = days_to_year (y -ℤ pos 2001) +ℤ pos (days_to_month (leap y) m) +ℤ pos d

-- ---- the reply

-- the numbers y, m and d are a date that exists
unfoldable pub exists : ℤ → ℤ → ℤ → Bool
unfolding days_in
exists y m d = between (pos 1) (pos 12) m && between (pos 1) (pos (days_in y (up m))) d

-- "a date that doesn't exist is refused under the new number 20; after that, one whose instant is outside
-- ±1,000,000,000 is 14"
unfoldable pub instant_reply : ℤ → ℤ → ℤ → Reply ℤ
unfolding exists instant_of
instant_reply y m d =
    let t = instant_of y (up m) (up d) in
    require 20 (exists y m d) (require 14 (in_range t) (answer t))
