-- The instant of a date by its formula: it is the inverse of `date_of`, on the dates that exist.
--     With q = y − 2001, the granule 12·q + m begins at s6(m) + 365·q and the leap days before it (`Lengths`).
use mathlib.Core.Path.{◌≡◌, refl, ◌∙◌, ap}
use mathlib.Core.Bool.{Bool, true, false, ◌&&◌, cond}
use Prim.Native.Nat.{ℕ, ◌-◌, ◌≤◌}
use native.Mathlib.Omega.{arith}
use lib.Dec.{ltb}
use lib.IntN.{ℤ, pos, ◌+ℤ◌, ◌-ℤ◌, ◌*ℤ◌}
use lib.ListN.{take}
use Rattle.integers.specs.Parts.{up}
use Rattle.integers.specs.Floor.{floor_div}
use Rattle.integers.proofs.Linear.{ints, ◌∴◌}
use Rattle.calendar.specs.Lists.{all, from, equal}
use Rattle.granules.proofs.Tests.{equal-iff}
use Rattle.granules.proofs.Lists.{all-iff, mem-from}
use Rattle.civil.specs.Rule.{Date, Exists, leap, common_lengths, month_slot, date_of}
use Rattle.civil.specs.Instants.{leap_years, days_to_year, sum, days_to_month, instant_of}
use Rattle.civil.proofs.Grouped.{grouped}
use Rattle.civil.proofs.Altered.{altered}
use Rattle.civil.proofs.Entries.{s6, s9}
use Rattle.civil.proofs.Lengths.{past, one, common-turns, leap_years-next, s9-is}
use Rattle.civil.proofs.Dates.{On, date-on, on-unique, one_place}

-- ---- where a month begins

common_days : ℕ → ℕ
common_days m = sum (take (m - 1) common_lengths)

abbrev begins : ℤ → Bool
begins m = equal (s6 m) (pos 1 +ℤ pos (common_days (up m)))

first-twelve : all begins (from (pos 1) 12) ≡ true
unfolding common_days floor_div grouped altered
first-twelve = refl

common-start : (q : ℤ) (m : ℕ) → 1 ≤ m → m ≤ 12
    → s6 (pos 12 *ℤ q +ℤ pos m) ≡ pos 1 +ℤ pos (common_days m) +ℤ pos 365 *ℤ q
common-start q m h k =
    let first = (equal-iff (s6 (pos m)) (pos 1 +ℤ pos (common_days m))).0
    ((all-iff begins (from (pos 1) 12)).0 first-twelve (pos m) ((mem-from (pos m) (pos 1) 12).1 (simp ints (omega arith)))) in
    common-turns q (pos m) (pos 12 *ℤ q +ℤ pos m) (simp ints (omega arith)) ∙ ap (λ (s : ℤ). s +ℤ pos 365 *ℤ q) first

leap-past : (q : ℤ) (m : ℕ)
    → leap_years (q +ℤ past m) ≡ leap_years q +ℤ pos (cond (leap (q +ℤ pos 2001) && ltb 2 m) 1 0)
leap-past q m = by (ltb 2 m) (leap (q +ℤ pos 2001)) refl
  where
    by : (b l : Bool) → leap (q +ℤ pos 2001) ≡ l → leap_years (q +ℤ one b) ≡ leap_years q +ℤ pos (cond (l && b) 1 0)
    by true true e = leap_years-next q ∙ ap (λ (b : Bool). leap_years q +ℤ one b) e
    by true false e = leap_years-next q ∙ ap (λ (b : Bool). leap_years q +ℤ one b) e
    by false true e = ap leap_years {x = q +ℤ pos 0} {y = q} (simp ints (omega arith)) ∴ simp ints (omega arith)
    by false false e = ap leap_years {x = q +ℤ pos 0} {y = q} (simp ints (omega arith)) ∴ simp ints (omega arith)

-- ---- the instant

-- the sums that make the instant
collect : (s c l u k q t : ℤ) (b d : ℕ) → s ≡ c +ℤ l → c ≡ pos 1 +ℤ k +ℤ pos 365 *ℤ q → l ≡ u +ℤ pos b
    → t ≡ pos 365 *ℤ q +ℤ u +ℤ (k +ℤ pos b) +ℤ pos d → s +ℤ pos d ≡ t +ℤ pos 1
collect s c l u k q t b d = simp ints (omega arith)

pub instant-on : {d : Date} → Exists d → On d (instant_of d.year d.month d.day)
unfolding instant_of days_to_year days_to_month common_days
instant-on {d} x =
    let y = d.year in
    let m = d.month in
    let q = y -ℤ pos 2001 in
    let (h, k) = x.month in
    let e : q +ℤ pos 2001 ≡ y = simp ints (omega arith) in
    let b : ℕ = cond (leap y && ltb 2 m) 1 0 in
    record {
      exists = x;
      at =
          collect (s9 (month_slot y m)) (s6 (month_slot y m)) (leap_years (q +ℤ past m)) (leap_years q) (pos (common_days m)) q (instant_of y m d.day) b d.day
          (s9-is q m h (omega arith)) (common-start q m h k) (leap-past q m ∙ ap (λ (z : ℤ). leap_years q +ℤ pos (cond (leap z && ltb 2 m) 1 0)) e) refl;
    }

-- a date that exists is that of its instant, and an instant that of its date
pub date-of-instant : {d : Date} → Exists d → date_of (instant_of d.year d.month d.day) ≡ d
date-of-instant {d} x = on-unique (date-on (instant_of d.year d.month d.day)) (instant-on x)

pub instant-of-date : (t : ℤ) → instant_of (date_of t).year (date_of t).month (date_of t).day ≡ t
instant-of-date t = one_place (instant-on (date-on t).exists) (date-on t)
