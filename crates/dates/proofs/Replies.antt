-- The replies, by the tests in the code's order.
-- Assumes nothing.
use mathlib.Core.Path.{◌≡◌}
use mathlib.Core.Logic.{◌⊎◌, inl, inr}
use mathlib.Core.Bool.{true, false}
use Prim.Native.Nat.{ℕ, ◌≤◌}
use native.Mathlib.Omega.{arith}
use lib.IntN.{ℤ, pos, neg_ℤ, ◌+ℤ◌, ◌-ℤ◌, ◌*ℤ◌}
use lib.Signed.{◌≤ℤ◌, ◌<ℤ◌}
use mir.Syntax.{w64}
use mir.Val.{SFits}
use Rattle.integers.specs.Parts.{up}
use Rattle.integers.proofs.Linear.{ints, ◌∴◌}
use Rattle.integers.proofs.Order.{le-or-lt}
use Rattle.calendar.specs.Limits.{between, in_range}
use Rattle.calendar.specs.Reply.Reply.{refused, answer}
use Rattle.granules.proofs.Tests.{true≢false, true-or-false, between-iff}
use Rattle.civil.specs.Rule.{date, Exists, leap, days_in, date_of}
use Rattle.civil.specs.Instants.{days_to_year, days_to_month, exists, instant_of, instant_reply}
use Rattle.civil.specs.Asked.{date_reply}
use Rattle.civil.proofs.Replies.{exists-numbers, date-exists}
use Rattle.dates.specs.Places.{Around, NearDate}
use Rattle.dates.proofs.Years.{days-bounds}
use Rattle.dates.proofs.Months.{days-right, month-length}

-- ---- a number between two others

pub not-between : (a b z : ℤ) → between a b z ≡ false → ¬ ((a ≤ℤ z) × (z ≤ℤ b))
not-between a b z e h = true≢false ((between-iff a b z).1 h) e

-- ---- the date of an instant

pub date-refused : (t : ℤ) → in_range t ≡ false → refused 14 ≡ date_reply t
unfolding date_reply
date-refused t e = rw e

pub date-answered : (t : ℤ) → in_range t ≡ true → answer (date_of t) ≡ date_reply t
unfolding date_reply
date-answered t e = rw e

pub before-around : (t : ℤ) → in_range t ≡ true → SFits w64 (t -ℤ pos 1) × Around (t -ℤ pos 1)
before-around t e = (between-iff (neg_ℤ (pos 1000000000)) (pos 1000000000) t).0 e ∴ simp ints (omega arith)

-- ---- the instant of a date

-- a year that is not near holds no instant within the limits
far : (y D : ℤ) (k d : ℕ) → between (neg_ℤ (pos 3000000)) (pos 3000000) y ≡ false
    → ((pos 146097 *ℤ (y -ℤ pos 2001) -ℤ pos 699) ≤ℤ (pos 400 *ℤ D)) × ((pos 400 *ℤ D) ≤ℤ (pos 146097 *ℤ (y -ℤ pos 2001) +ℤ pos 396))
    → k ≤ 366 → d ≤ 31 → in_range (D +ℤ pos k +ℤ pos d) ≡ false
far y D k d e b s t = by (true-or-false (in_range i)) (le-or-lt (neg_ℤ (pos 3000000)) y) (le-or-lt y (pos 3000000))
  where
    i : ℤ
    i = D +ℤ pos k +ℤ pos d

    range : in_range i ≡ true → (neg_ℤ (pos 1000000000) ≤ℤ i) × (i ≤ℤ pos 1000000000)
    range = (between-iff (neg_ℤ (pos 1000000000)) (pos 1000000000) i).0

    by : (in_range i ≡ true) ⊎ (in_range i ≡ false) → (neg_ℤ (pos 3000000) ≤ℤ y) ⊎ (y <ℤ neg_ℤ (pos 3000000))
        → (y ≤ℤ pos 3000000) ⊎ (pos 3000000 <ℤ y) → in_range i ≡ false
    by (inr f) l h = f
    by (inl r) (inl l) (inl h) = absurd (not-between (neg_ℤ (pos 3000000)) (pos 3000000) y e (l, h))
    by (inl r) (inr l) h = absurd (range r ∴ b ∴ s ∴ t ∴ l ∴ simp ints (omega arith))
    by (inl r) (inl l) (inr h) = absurd (range r ∴ b ∴ h ∴ simp ints (omega arith))

module _ (y m d : ℤ) where
  pub no-date : exists y m d ≡ false → refused 20 ≡ instant_reply y m d
  unfolding instant_reply
  no-date e = rw e

  pub instant-outside : exists y m d ≡ true → in_range (instant_of y (up m) (up d)) ≡ false
      → refused 14 ≡ instant_reply y m d
  unfolding instant_reply
  instant-outside e f = rw (e, f)

  pub instant-answered : exists y m d ≡ true → in_range (instant_of y (up m) (up d)) ≡ true
      → answer (instant_of y (up m) (up d)) ≡ instant_reply y m d
  unfolding instant_reply
  instant-answered e f = rw (e, f)

  -- ---- the month first, then the day

  pub no-month : between (pos 1) (pos 12) m ≡ false → false ≡ exists y m d
  unfolding exists
  no-month e = rw e

  pub by-day : between (pos 1) (pos 12) m ≡ true → between (pos 1) (pos (days_in y (up m))) d ≡ exists y m d
  unfolding exists
  by-day e = rw e

  -- ---- the numbers of a date that exists

  module _ (known : exists y m d ≡ true) where
    -- 1 to 12, and 1 to 31
    pub month-numbers : (pos 1 ≤ℤ m) × (m ≤ℤ pos 12)
    month-numbers = ((exists-numbers y m d).0 known).0

    date-is : Exists (date y (up m) (up d))
    date-is = date-exists y m d known

    days-small : days_in y (up m) ≤ 31
    days-small = (month-length y (up m) date-is.month.0 date-is.month.1).1

    pub day-numbers : (pos 1 ≤ℤ d) × (d ≤ℤ pos 31)
    day-numbers =
        let s = days-small in let (l, h) = ((exists-numbers y m d).0 known).1 in (l, h ∴ s ∴ simp ints (omega arith))

    day-natural : up d ≤ 31
    day-natural = omega (arith, date-is.day.1, days-small)

    pub near-date : between (neg_ℤ (pos 3000000)) (pos 3000000) y ≡ true → NearDate y (up m) (up d)
    near-date e =
        record { year = (between-iff (neg_ℤ (pos 3000000)) (pos 3000000) y).0 e; month = date-is.month; day = day-natural }

    pub year-far : between (neg_ℤ (pos 3000000)) (pos 3000000) y ≡ false → in_range (instant_of y (up m) (up d)) ≡ false
    unfolding instant_of
    year-far e =
        let k = (days-right (leap y) (up m) date-is.month.0 (omega (arith, date-is.month.1))).small in
        far y (days_to_year (y -ℤ pos 2001)) (days_to_month (leap y) (up m)) (up d) e (days-bounds (y -ℤ pos 2001)) k day-natural
