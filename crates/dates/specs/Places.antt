-- What the steps of the change ask and give.
use Rattle.std.specs.Prelude.{Bool, true, false, cond, ℕ, suc, ◌≤◌, ◌<◌, leb, ltb, ℤ, pos, neg_ℤ, ◌+ℤ◌, ◌≤ℤ◌, ◌<ℤ◌}
use Rattle.civil.specs.Instants.{days_to_year, days_to_month}

-- years so near to 2001 that no sum wraps
abbrev pub Near : ℤ → Type 0
Near q = (neg_ℤ (pos 4000000) ≤ℤ q) × (q ≤ℤ pos 4000000)

-- instants within ±1,000,000,000, less 1
abbrev pub Around : ℤ → Type 0
Around x = (neg_ℤ (pos 1000000001) ≤ℤ x) × (x ≤ℤ pos 1000000000)

-- a month of a year that is near, and a day
pub record NearDate (y : ℤ) (m d : ℕ) : Type 0 where
  pub year : (neg_ℤ (pos 3000000) ≤ℤ y) × (y ≤ℤ pos 3000000)
  pub month : (1 ≤ m) × (m ≤ 12)
  pub day : d ≤ 31

-- the day that x days lie before is in the year 2001 + q
pub record InYear (x q : ℤ) : Type 0 where
  pub begun : days_to_year q ≤ℤ x
  pub not-over : x <ℤ days_to_year (q +ℤ pos 1)
  pub near : Near q

-- With a February of 30 days the month m would begin behind (367·m − 362)/12 days, and the day behind n days would be
-- in the month (12·n + 373)/367, both rounded down. A leap year has 1 day less from March on, and another year 2.
unfoldable pub too_many : Bool → ℕ → ℕ
too_many l m = cond (leb m 2) 0 (cond l 1 2)

unfoldable pub too_few : Bool → ℕ → ℕ
too_few true n = cond (ltb n 60) 0 1
too_few false n = cond (ltb n 59) 0 2

-- the day that n days of its year lie before is in the month m
pub record InMonth (l : Bool) (n m : ℕ) : Type 0 where
  pub month : (1 ≤ m) × (m ≤ 12)
  pub begun : days_to_month l m ≤ n
  pub not-over : n < days_to_month l (suc m)
