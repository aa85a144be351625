-- The dates of the rule, one for each instant: a date lies day − 1 instants behind the first instant of its month's
-- granule. The next date lies one instant on, the previous one instant back, and no two dates that exist lie at one
-- instant.
use mathlib.Core.Path.{◌≡◌, refl, sym, ◌∙◌, ap, subst}
use mathlib.Core.Bool.{Bool, true, false, cond}
use Prim.Native.Nat.{ℕ, zero, suc, ◌+◌, ◌-◌, ◌≤◌}
use native.Mathlib.Omega.{arith}
use lib.Dec.{ltb}
use lib.IntN.{ℤ, pos, negsuc, ◌+ℤ◌, ◌-ℤ◌, ◌*ℤ◌}
use lib.Signed.{◌≤ℤ◌}
use Rattle.integers.specs.Floor.{floor_div}
use Rattle.integers.proofs.Linear.{ints, ◌∴◌}
use Rattle.granules.proofs.Tests.{ltb_iff, false-iff}
use Rattle.algebra.proofs.Tiles.{tiles-unique}
use Rattle.civil.specs.Rule.{Date, date, Exists, days_in, next, previous, Follows, steps, date_of, month_slot}
use Rattle.civil.proofs.Tilings.{ends, tiling}
use Rattle.civil.proofs.Grouped.{grouped}
use Rattle.civil.proofs.Altered.{altered}
use Rattle.civil.proofs.Entries.{s9, starts-9}
use Rattle.civil.proofs.Lengths.{month-step}

-- the date exists and lies at the instant t
pub record On (d : Date) (t : ℤ) : Type 0 where
  pub exists : Exists d
  pub at : s9 (month_slot d.year d.month) +ℤ pos d.day ≡ t +ℤ pos 1

pub date-ext : {d e : Date} → d.year ≡ e.year → d.month ≡ e.month → d.day ≡ e.day → d ≡ e
date-ext p q r = λ i. record { year = p i; month = q i; day = r i }

moved : {d : Date} {s t : ℤ} → On d s → s ≡ t → On d t
moved {d} o e = subst (On d) e o

-- ---- months in a row

long : (y : ℤ) (m : ℕ) → 1 ≤ m → m ≤ 12 → 1 ≤ days_in y m
long y m h k =
    let e = month-step y m h k in
    let l = starts-9.length (month_slot y m) in
    omega (arith, simp ints at e, simp ints at l)

december : (y : ℤ) → days_in y 12 ≡ 31
unfolding days_in
december y = refl

-- a date by its numbers
pub on : (y : ℤ) (m d : ℕ) {t : ℤ} → (1 ≤ m) × (m ≤ 12) → (1 ≤ d) × (d ≤ days_in y m)
    → s9 (month_slot y m) +ℤ pos d ≡ t +ℤ pos 1 → On (date y m d) t
on y m d h k e = record { exists = record { month = h; day = k }; at = e }

-- the month n of the year z begins behind the month m of the year y
follows : (y z : ℤ) (m n : ℕ) → (1 ≤ m) × (m ≤ 12) → month_slot z n ≡ month_slot y m +ℤ pos 1
    → s9 (month_slot z n) ≡ s9 (month_slot y m) +ℤ pos (days_in y m)
follows y z m n h e = ap s9 e ∙ month-step y m h.0 h.1

-- ---- one step on, one step back

-- with the first instants S and R of a month of n days and of the next
day-on : (S t : ℤ) (d : ℕ) → S +ℤ pos d ≡ t +ℤ pos 1 → S +ℤ pos (d + 1) ≡ t +ℤ pos 1 +ℤ pos 1
day-on S t d = simp ints (omega arith)

month-on : (S R t : ℤ) (d n : ℕ) → R ≡ S +ℤ pos n → d ≡ n → S +ℤ pos d ≡ t +ℤ pos 1 → R +ℤ pos 1 ≡ t +ℤ pos 1 +ℤ pos 1
month-on S R t d n = simp ints (omega arith)

day-back : (S t : ℤ) (d : ℕ) → 1 ≤ d → S +ℤ pos d ≡ t +ℤ pos 1 → S +ℤ pos (d - 1) ≡ t -ℤ pos 1 +ℤ pos 1
day-back S t d = simp ints (omega arith)

month-back : (S R t : ℤ) (d n : ℕ) → R ≡ S +ℤ pos n → d ≡ 1 → R +ℤ pos d ≡ t +ℤ pos 1
    → S +ℤ pos n ≡ t -ℤ pos 1 +ℤ pos 1
month-back S R t d n = simp ints (omega arith)

module _ (y t : ℤ) (m d : ℕ) (month : (1 ≤ m) × (m ≤ 12)) (day : (1 ≤ d) × (d ≤ days_in y m)) (at : s9 (month_slot y m) +ℤ pos d ≡ t +ℤ pos 1) where
  step-on : On (next (date y m d)) (t +ℤ pos 1)
  unfolding next
  step-on = by (ltb d (days_in y m)) (ltb m 12) refl refl
    where
      by : (a b : Bool) → ltb d (days_in y m) ≡ a → ltb m 12 ≡ b
          → On (cond a (date y m (d + 1)) (cond b (date y (m + 1) 1) (date (y +ℤ pos 1) 1 1))) (t +ℤ pos 1)
      by true b e f =
          let l = (ltb_iff d (days_in y m)).0 e in on y m (d + 1) month (omega arith) (day-on (s9 (month_slot y m)) t d at)
      by false true e f =
          let l = (false-iff (ltb_iff d (days_in y m))).0 e in
          let g = (ltb_iff m 12).0 f in
          on y (m + 1) 1 (omega arith) (omega (arith, long y (m + 1) (omega arith) (omega arith)))
          (month-on (s9 (month_slot y m)) (s9 (month_slot y (m + 1))) t d (days_in y m) (follows y y m (m + 1) month (simp ints (omega arith))) (omega arith) at)
      by false false e f =
          let l = (false-iff (ltb_iff d (days_in y m))).0 e in
          let g = (false-iff (ltb_iff m 12)).0 f in
          let twelve : m ≡ 12 = omega arith in
          on (y +ℤ pos 1) 1 1 (omega arith) (omega (arith, long (y +ℤ pos 1) 1 (omega arith) (omega arith)))
          (month-on (s9 (month_slot y m)) (s9 (month_slot (y +ℤ pos 1) 1)) t d (days_in y m) (follows y (y +ℤ pos 1) m 1 month (simp ints (omega arith))) (omega arith) at)

  step_back : On (previous (date y m d)) (t -ℤ pos 1)
  unfolding previous
  step_back = by (ltb 1 d) (ltb 1 m) refl refl
    where
      by : (a b : Bool) → ltb 1 d ≡ a → ltb 1 m ≡ b
          → On (cond a (date y m (d - 1)) (cond b (date y (m - 1) (days_in y (m - 1))) (date (y -ℤ pos 1) 12 31))) (t -ℤ pos 1)
      by true b e f =
          let l = (ltb_iff 1 d).0 e in on y m (d - 1) month (omega arith) (day-back (s9 (month_slot y m)) t d day.0 at)
      by false true e f =
          let l = (false-iff (ltb_iff 1 d)).0 e in
          let g = (ltb_iff 1 m).0 f in
          on y (m - 1) (days_in y (m - 1)) (omega arith) (omega (arith, long y (m - 1) (omega arith) (omega arith)))
          (month-back (s9 (month_slot y (m - 1))) (s9 (month_slot y m)) t d (days_in y (m - 1)) (follows y y (m - 1) m (omega arith) (simp ints (omega arith))) (omega arith) at)
      by false false e f =
          let l = (false-iff (ltb_iff 1 d)).0 e in
          let g = (false-iff (ltb_iff 1 m)).0 f in
          let one : m ≡ 1 = omega arith in
          on (y -ℤ pos 1) 12 31 (omega arith) (omega (arith, december (y -ℤ pos 1)))
          (month-back (s9 (month_slot (y -ℤ pos 1) 12)) (s9 (month_slot y m)) t d 31
          (rw (december (y -ℤ pos 1)) at (follows (y -ℤ pos 1) y 12 m (omega arith) (simp ints (omega arith)))) (omega arith) at)

pub next-on : {d : Date} {t : ℤ} → On d t → On (next d) (t +ℤ pos 1)
next-on {d} {t} o = step-on d.year t d.month d.day o.exists.month o.exists.day o.at

pub previous-on : {d : Date} {t : ℤ} → On d t → On (previous d) (t -ℤ pos 1)
previous-on {d} {t} o = step_back d.year t d.month d.day o.exists.month o.exists.day o.at

-- ---- all instants

ahead : (n : ℕ) → On (steps next n) (pos (suc n))
unfolding steps floor_div grouped altered days_in
ahead zero = on (pos 2001) 1 1 (omega arith) (omega arith) refl
ahead (suc n) = moved (next-on (ahead n)) (simp ints (omega arith))

behind : (n : ℕ) → On (steps previous n) (pos 1 -ℤ pos n)
unfolding steps
behind zero = ahead zero
behind (suc n) = moved (previous-on (behind n)) (simp ints (omega arith))

-- the date of an instant exists and lies there
pub date-on : (t : ℤ) → On (date_of t) t
unfolding date_of
date-on (pos zero) = behind 1
date-on (pos (suc n)) = ahead n
date-on (negsuc n) = moved (behind (n + 2)) (simp ints (omega arith))

-- ---- one date for an instant

between : (S R t : ℤ) (d n : ℕ) → R ≡ S +ℤ pos n → 1 ≤ d → d ≤ n → S +ℤ pos d ≡ t +ℤ pos 1
    → (S ≤ℤ t) × (t ≤ℤ (R -ℤ pos 1))
between S R t d n e h k at = (h ∴ at ∴ simp ints (omega arith), e ∴ k ∴ at ∴ simp ints (omega arith))

-- the instant of a date is in the granule of its month
pub on-inside : {d : Date} {t : ℤ} → On d t
    → (s9 (month_slot d.year d.month) ≤ℤ t) × (t ≤ℤ ends s9 (month_slot d.year d.month))
on-inside {d} {t} o =
    let i = month_slot d.year d.month in
    let (h, k) = o.exists.month in
    between (s9 i) (s9 (i +ℤ pos 1)) t d.day (days_in d.year d.month) (month-step d.year d.month h k) o.exists.day.0 o.exists.day.1 o.at

-- the month and the year are known by the granule
same-month : (y z : ℤ) (m n : ℕ) → (1 ≤ m) × (m ≤ 12) → (1 ≤ n) × (n ≤ 12) → month_slot y m ≡ month_slot z n
    → (y ≡ z) × (m ≡ n)
same-month y z m n h k e = (years e, months e (ap (λ (x : ℤ). pos 12 *ℤ x) (years e)))
  where
    years : month_slot y m ≡ month_slot z n → y ≡ z
    years = h ∴ k ∴ simp ints (omega arith)

    months : month_slot y m ≡ month_slot z n → pos 12 *ℤ y ≡ pos 12 *ℤ z → m ≡ n
    months = simp ints (omega arith)

same-day : (S R t : ℤ) (d e : ℕ) → S ≡ R → S +ℤ pos d ≡ t +ℤ pos 1 → R +ℤ pos e ≡ t +ℤ pos 1 → d ≡ e
same-day S R t d e = simp ints (omega arith)

pub on-unique : {d e : Date} {t : ℤ} → On d t → On e t → d ≡ e
on-unique {d} {e} {t} o p =
    let i = month_slot d.year d.month in
    let j = month_slot e.year e.month in
    let (h, k) = on-inside o in
    let (l, u) = on-inside p in
    let same = tiles-unique (tiling starts-9) i j t h k l u in
    let (y, m) = same-month d.year e.year d.month e.month o.exists.month p.exists.month same in
    date-ext y m (same-day (s9 i) (s9 j) t d.day e.day (ap s9 same) o.at p.at)

-- ---- the rule at every instant, and only there

pub date-follows : Follows date_of
unfolding date_of steps
date-follows =
    record { starts = refl; exists = λ t. (date-on t).exists; next = λ t. on-unique (date-on (t +ℤ pos 1)) (next-on (date-on t)) }

pub date-previous : (t : ℤ) → date_of (t -ℤ pos 1) ≡ previous (date_of t)
date-previous t = on-unique (date-on (t -ℤ pos 1)) (previous-on (date-on t))

-- a date that exists lies at one instant
placed : {d : Date} → Exists d → (t : ℤ) × On d t
placed {d} x = let S = s9 (month_slot d.year d.month) in (S +ℤ pos d.day -ℤ pos 1, record { exists = x; at = plain (S +ℤ pos d.day) })
  where
    plain : (z : ℤ) → z ≡ z -ℤ pos 1 +ℤ pos 1
    plain z = simp ints (omega arith)

pub one_place : {d : Date} {s t : ℤ} → On d s → On d t → s ≡ t
one_place {s} {t} o p = plain (sym o.at ∙ p.at)
  where
    plain : s +ℤ pos 1 ≡ t +ℤ pos 1 → s ≡ t
    plain = simp ints (omega arith)

module _ {D : ℤ → Date} (rule : Follows D) where
  follows-ahead : (n : ℕ) → On (D (pos 1 +ℤ pos n)) (pos 1 +ℤ pos n)
  unfolding steps
  follows-ahead zero = subst (λ (d : Date). On d (pos 1)) (sym rule.starts) (ahead zero)
  follows-ahead (suc n) =
      let e : pos 1 +ℤ pos n +ℤ pos 1 ≡ pos 1 +ℤ pos (suc n) = simp ints (omega arith) in
      subst (λ (t : ℤ). On (D t) t) e (subst (λ (d : Date). On d (pos 1 +ℤ pos n +ℤ pos 1)) (sym (rule.next (pos 1 +ℤ pos n))) (next-on (follows-ahead n)))

  -- the day before: where it lies, the next day lies one instant on
  follows-behind : (n : ℕ) → On (D (pos 1 -ℤ pos n)) (pos 1 -ℤ pos n)
  follows-behind zero = follows-ahead zero
  follows-behind (suc n) =
      let u = pos 1 -ℤ pos (suc n) in
      let (t, o) = placed (rule.exists u) in
      let e : u +ℤ pos 1 ≡ pos 1 -ℤ pos n = simp ints (omega arith) in
      let after : On (D (pos 1 -ℤ pos n)) (t +ℤ pos 1) = subst (λ (d : Date). On d (t +ℤ pos 1)) (sym (rule.next u) ∙ ap D e) (next-on o) in
      moved o (one_place after (follows-behind n) ∴ simp ints (omega arith))

  pub follows-only : (t : ℤ) → D t ≡ date_of t
  follows-only t = on-unique (here t) (date-on t)
    where
      here : (t : ℤ) → On (D t) t
      here (pos zero) = follows-behind 1
      here (pos (suc n)) =
          subst (λ (t : ℤ). On (D t) t) {x = pos 1 +ℤ pos n} (simp ints (omega arith)) (follows-ahead n)
      here (negsuc n) =
          subst (λ (t : ℤ). On (D t) t) {x = pos 1 -ℤ pos (n + 2)} (simp ints (omega arith)) (follows-behind (n + 2))
