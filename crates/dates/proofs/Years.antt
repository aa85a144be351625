-- The year of a day. The days to the year 2001 + q are 146097·q/400, less at most 699/400 and more at most 396/400:
-- so the year is found by a division, or is the one behind.
use mathlib.Core.Bool.{Bool, true, false}
use Prim.Native.Nat.{ℕ, ◌<◌}
use mathlib.Core.Path.{◌≡◌}
use native.Mathlib.Omega.{arith}
use lib.IntN.{ℤ, pos, neg_ℤ, ◌+ℤ◌, ◌-ℤ◌, ◌*ℤ◌}
use lib.Signed.{◌≤ℤ◌, ◌<ℤ◌}
use mir.Syntax.{w64}
use mir.Val.{SFits}
use Rattle.integers.specs.Floor.{floor_div}
use Rattle.integers.proofs.Linear.{ints, ◌∴◌}
use Rattle.integers.proofs.Floor.{floor-eq, floor-lt}
use Rattle.civil.specs.Rule.{leap}
use Rattle.civil.specs.Instants.{leap_years, days_to_year, days_to_month}
use Rattle.civil.proofs.Lengths.{one, leap_years-next}
use Rattle.dates.specs.Places.{Near, Around, InYear}
use Rattle.dates.proofs.Months.{days-right}

pub days-bounds : (q : ℤ)
    → ((pos 146097 *ℤ q -ℤ pos 699) ≤ℤ (pos 400 *ℤ days_to_year q)) × ((pos 400 *ℤ days_to_year q) ≤ℤ (pos 146097 *ℤ q +ℤ pos 396))
unfolding days_to_year leap_years
days-bounds q =
    floor-eq 4 (omega arith) q ∴ floor-lt 4 (omega arith) q
    ∴ floor-eq 100 (omega arith) q ∴ floor-lt 100 (omega arith) q
    ∴ floor-eq 400 (omega arith) q ∴ floor-lt 400 (omega arith) q
    ∴ simp ints (omega arith)

-- ---- no sum wraps

module _ (q : ℤ) (near : Near q) where
  pub leap-fits : SFits w64 (floor_div q 4 -ℤ floor_div q 100) × SFits w64 (floor_div q 4 -ℤ floor_div q 100 +ℤ floor_div q 400)
  leap-fits =
      floor-eq 4 (omega arith) q ∴ floor-lt 4 (omega arith) q
      ∴ floor-eq 100 (omega arith) q ∴ floor-lt 100 (omega arith) q
      ∴ floor-eq 400 (omega arith) q ∴ floor-lt 400 (omega arith) q
      ∴ near ∴ simp ints (omega arith)

  pub year-fits : SFits w64 (pos 365 *ℤ q) × SFits w64 (pos 365 *ℤ q +ℤ leap_years q)
  unfolding days_to_year
  year-fits = days-bounds q ∴ near ∴ simp ints (omega arith)

-- ---- the year of a day

-- the estimate by the mean year
unfoldable pub estimate : ℤ → ℤ
estimate x = floor_div (pos 400 *ℤ x) 146097

module _ (x : ℤ) (around : Around x) where
  pub product-fits : SFits w64 (pos 400 *ℤ x)
  product-fits = around ∴ simp ints (omega arith)

  estimate-range : (neg_ℤ (pos 3000000) ≤ℤ estimate x) × (estimate x ≤ℤ pos 3000000)
  unfolding estimate
  estimate-range =
      floor-eq 146097 (omega arith) (pos 400 *ℤ x) ∴ floor-lt 146097 (omega arith) (pos 400 *ℤ x) ∴ around ∴ simp ints (omega arith)

  pub estimate-next : SFits w64 (estimate x +ℤ pos 1) × Near (estimate x +ℤ pos 1)
  estimate-next = estimate-range ∴ simp ints (omega arith)

  begun : days_to_year (estimate x) ≤ℤ x
  unfolding estimate
  begun =
      days-bounds (floor_div (pos 400 *ℤ x) 146097) ∴ floor-eq 146097 (omega arith) (pos 400 *ℤ x) ∴ simp ints (omega arith)

  not-over : x <ℤ days_to_year (estimate x +ℤ pos 1 +ℤ pos 1)
  unfolding estimate
  not-over =
      days-bounds (floor_div (pos 400 *ℤ x) 146097 +ℤ pos 1 +ℤ pos 1)
      ∴ floor-eq 146097 (omega arith) (pos 400 *ℤ x)
      ∴ floor-lt 146097 (omega arith) (pos 400 *ℤ x)
      ∴ simp ints (omega arith)

  -- the day is in the year estimated, or in the next
  pub in-this : x <ℤ days_to_year (estimate x +ℤ pos 1) → InYear x (estimate x)
  in-this h = record { begun = begun; not-over = h; near = estimate-range ∴ simp ints (omega arith) }

  pub in-next : days_to_year (estimate x +ℤ pos 1) ≤ℤ x → InYear x (estimate x +ℤ pos 1)
  in-next h = record { begun = h; not-over = not-over; near = estimate-next.1 }

-- ---- the day of a year

-- a year has 365 days, a leap year 366
pub year-step : (q : ℤ) → days_to_year (q +ℤ pos 1) ≡ days_to_year q +ℤ pos (days_to_month (leap (q +ℤ pos 2001)) 13)
unfolding days_to_year days_to_month
year-step q = by (leap (q +ℤ pos 2001)) (leap_years-next q)
  where
    by : (l : Bool) → leap_years (q +ℤ pos 1) ≡ leap_years q +ℤ one l
        → days_to_year (q +ℤ pos 1) ≡ days_to_year q +ℤ pos (days_to_month l 13)
    by true e = e ∴ simp ints (omega arith)
    by false e = e ∴ simp ints (omega arith)

module _ (x q : ℤ) (inside : InYear x q) where
  pub day-range : SFits w64 (x -ℤ days_to_year q) × (pos 0 ≤ℤ (x -ℤ days_to_year q)) × ((x -ℤ days_to_year q) ≤ℤ pos 366)
  day-range =
      inside.begun ∴ inside.not-over ∴ year-step q ∴ (days-right (leap (q +ℤ pos 2001)) 13 (omega arith) (omega arith)).small ∴ simp ints (omega arith)

  pub year-fits-64 : SFits w64 (q +ℤ pos 2001)
  year-fits-64 = inside.near ∴ simp ints (omega arith)

  pub day-below : (n : ℕ) → days_to_year q +ℤ pos n ≡ x → n < days_to_month (leap (q +ℤ pos 2001)) 13
  day-below n e = omega (arith, simp ints at (e), simp ints at inside.not-over, simp ints at (year-step q))
