-- The two divisions that find the days before a month and the month of a day are right at each month and at each day
-- of a year: computed.
use mathlib.Core.Path.{◌≡◌, refl}
use mathlib.Core.Bool.{Bool, true, false, ◌&&◌, cond}
use Prim.Native.Nat.{ℕ, suc, ◌+◌, ◌-◌, ◌*◌, ◌/◌, ◌≤◌, ◌<◌}
use native.Mathlib.Omega.{arith}
use lib.Dec.{eqb, leb, ltb}
use lib.IntN.{ℤ, pos}
use lib.ListN.{get_or}
use borrow.Author.Tests.{le-leb, lt-leb}
use Rattle.integers.specs.Parts.{up}
use Rattle.integers.proofs.Linear.{ints}
use Rattle.calendar.specs.Lists.{all, from}
use Rattle.granules.proofs.Tests.{and-iff, eqb-iff, leb-iff, ltb_iff}
use Rattle.granules.proofs.Lists.{all-iff, mem-from}
use Rattle.civil.specs.Rule.{leap, common_lengths, days_in}
use Rattle.civil.specs.Instants.{days_to_month}
use Rattle.dates.specs.Places.{too_many, too_few, InMonth}

-- ---- the days before a month

abbrev estimated : ℕ → ℕ
estimated m = (367 * m - 362) / 12

abbrev right_days : Bool → ℤ → Bool
right_days l m =
    leb (too_many l (up m)) (estimated (up m)) && (eqb (estimated (up m) - too_many l (up m)) (days_to_month l (up m)) && leb (days_to_month l (up m)) 366)

all-days : (l : Bool) → all (right_days l) (from (pos 1) 13) ≡ true
unfolding too_many days_to_month
all-days true = refl
all-days false = refl

-- a year has 366 days at most
pub record Days (l : Bool) (m : ℕ) : Type 0 where
  pub begun : too_many l m ≤ estimated m
  pub right : estimated m - too_many l m ≡ days_to_month l m
  pub small : days_to_month l m ≤ 366

pub days-right : (l : Bool) (m : ℕ) → 1 ≤ m → m ≤ 13 → Days l m
days-right l m h k =
    let (a, b) = (and-iff (leb (too_many l m) (estimated m)) (eqb (estimated m - too_many l m) (days_to_month l m) && leb (days_to_month l m) 366)).0
    ((all-iff (right_days l) (from (pos 1) 13)).0 (all-days l) (pos m) ((mem-from (pos m) (pos 1) 13).1 (simp ints (omega arith)))) in
    let (e, s) = (and-iff (eqb (estimated m - too_many l m) (days_to_month l m)) (leb (days_to_month l m) 366)).0 b in
    record {
      begun = (leb-iff (too_many l m) (estimated m)).0 a;
      right = (eqb-iff (estimated m - too_many l m) (days_to_month l m)).0 e;
      small = (leb-iff (days_to_month l m) 366).0 s;
    }

-- ---- the month of a day

abbrev found : Bool → ℕ → ℕ
found l n = (12 * (n + too_few l n) + 373) / 367

abbrev right_month : Bool → ℤ → Bool
right_month l n =
    let m = found l (up n) in
    (leb 1 m && leb m 12) && (leb (days_to_month l m) (up n) && ltb (up n) (days_to_month l (suc m)))

all-months : (l : Bool) → all (right_month l) (from (pos 0) (days_to_month l 13)) ≡ true
unfolding too_few days_to_month
all-months true = refl
all-months false = refl

pub month-right : (l : Bool) (n : ℕ) → n < days_to_month l 13 → InMonth l n (found l n)
month-right l n h =
    let m = found l n in
    let t = (and-iff (leb 1 m && leb m 12) (leb (days_to_month l m) n && ltb n (days_to_month l (suc m)))).0
    ((all-iff (right_month l) (from (pos 0) (days_to_month l 13))).0 (all-months l) (pos n) ((mem-from (pos n) (pos 0) (days_to_month l 13)).1 (simp ints (omega arith)))) in
    let a = (and-iff (leb 1 m) (leb m 12)).0 t.0 in
    let b = (and-iff (leb (days_to_month l m) n) (ltb n (days_to_month l (suc m)))).0 t.1 in
    record {
      month = ((leb-iff 1 m).0 a.0, (leb-iff m 12).0 a.1);
      begun = (leb-iff (days_to_month l m) n).0 b.0;
      not-over = (ltb_iff n (days_to_month l (suc m))).0 b.1;
    }

-- ---- the days of a month

abbrev length_of : Bool → ℕ → ℕ
length_of l m = cond (eqb m 2 && l) 29 (get_or common_lengths (m - 1) 0)

abbrev right_length : Bool → ℤ → Bool
right_length l m =
    eqb (days_to_month l (up m) + length_of l (up m)) (days_to_month l (suc (up m))) && leb (length_of l (up m)) 31

all-lengths : (l : Bool) → all (right_length l) (from (pos 1) 12) ≡ true
unfolding days_to_month
all-lengths true = refl
all-lengths false = refl

pub month-length : (y : ℤ) (m : ℕ) → 1 ≤ m → m ≤ 12
    → (days_to_month (leap y) m + days_in y m ≡ days_to_month (leap y) (suc m)) × (days_in y m ≤ 31)
unfolding days_in
month-length y m h k =
    let l = leap y in
    let (e, s) = (and-iff (eqb (days_to_month l m + length_of l m) (days_to_month l (suc m))) (leb (length_of l m) 31)).0
    ((all-iff (right_length l) (from (pos 1) 12)).0 (all-lengths l) (pos m) ((mem-from (pos m) (pos 1) 12).1 (simp ints (omega arith)))) in
    ((eqb-iff (days_to_month l m + length_of l m) (days_to_month l (suc m))).0 e, (leb-iff (length_of l m) 31).0 s)

pub few-small : (l : Bool) (n : ℕ) → too_few l n ≤ 2
unfolding too_few
few-small true n = by (ltb n 60)
  where
    by : (b : Bool) → cond b 0 1 ≤ 2
    by true = omega arith
    by false = omega arith
few-small false n = by (ltb n 59)
  where
    by : (b : Bool) → cond b 0 2 ≤ 2
    by true = omega arith
    by false = omega arith

-- ---- by cases, as the code goes

module _ (l : Bool) (m : ℕ) where
  pub many-early : m ≤ 2 → 0 ≡ too_many l m
  unfolding too_many
  many-early h = rw (le-leb m 2 h)

  pub many-late : {k : Bool} → 2 < m → l ≡ k → cond k 1 2 ≡ too_many l m
  unfolding too_many
  many-late h e = rw (lt-leb m 2 h, e)

module _ {l : Bool} (n : ℕ) where
  pub few-leap : {k : Bool} → l ≡ true → ltb n 60 ≡ k → cond k 0 1 ≡ too_few l n
  unfolding too_few
  few-leap e h = rw (e, h)

  pub few-common : {k : Bool} → l ≡ false → ltb n 59 ≡ k → cond k 0 2 ≡ too_few l n
  unfolding too_few
  few-common e h = rw (e, h)
