-- The change from instants to dates and back: what is answered one way is answered back the other way.
use mathlib.Core.Path.{◌≡◌, refl, subst}
use mathlib.Core.Logic.{◌↔◌}
use mathlib.Core.Bool.{Bool, true, false}
use Prim.Native.Nat.{ℕ, ◌≤◌}
use native.Mathlib.Omega.{arith}
use lib.IntN.{ℤ, pos, negsuc}
use lib.Signed.{◌≤ℤ◌}
use Rattle.integers.specs.Parts.{up}
use Rattle.integers.proofs.Linear.{ints, ◌∴◌}
use Rattle.calendar.specs.Limits.{in_range}
use Rattle.calendar.specs.Reply.{require}
use Rattle.calendar.specs.Reply.Reply.{answer}
use Rattle.granules.proofs.Tests.{both_iff, between-iff}
use Rattle.civil.specs.Rule.{Date, date, Exists, days_in, date_of}
use Rattle.civil.specs.Instants.{exists, instant_of, instant_reply}
use Rattle.civil.specs.Asked.{date_reply}
use Rattle.civil.proofs.Dates.{date-on}
use Rattle.civil.proofs.Instants.{date-of-instant, instant-of-date}

-- ---- the test of a date

naturals : (z : ℤ) (n : ℕ) → (pos 1 ≤ℤ z) × (z ≤ℤ pos n) → (1 ≤ up z) × (up z ≤ n)
naturals (pos k) n h = h ∴ simp ints (omega arith)
naturals (negsuc k) n (h, l) = absurd h.le

pub exists-numbers : (y m d : ℤ)
    → (exists y m d ≡ true) ↔ (((pos 1 ≤ℤ m) × (m ≤ℤ pos 12)) × ((pos 1 ≤ℤ d) × (d ≤ℤ pos (days_in y (up m)))))
unfolding exists
exists-numbers y m d =
    both_iff (between-iff (pos 1) (pos 12) m) (between-iff (pos 1) (pos (days_in y (up m))) d)

pub date-exists : (y m d : ℤ) → exists y m d ≡ true → Exists (date y (up m) (up d))
date-exists y m d e =
    let (a, b) = (exists-numbers y m d).0 e in
    record { month = naturals m 12 a; day = naturals d (days_in y (up m)) b }

pub exists-date : (y : ℤ) (m d : ℕ) → Exists (date y m d) → exists y (pos m) (pos d) ≡ true
exists-date y m d x =
    let (a, b) = x.month in
    let (l, h) = x.day in
    (exists-numbers y (pos m) (pos d)).1 ((a ∴ simp ints (omega arith), b ∴ simp ints (omega arith)), (l ∴ simp ints (omega arith), h ∴ simp ints (omega arith)))

-- ---- there and back

-- the date that an instant is answered with is answered with the instant
pub instant-again : (t : ℤ) (d : Date) → date_reply t ≡ answer d
    → instant_reply d.year (pos d.month) (pos d.day) ≡ answer t
unfolding instant_reply date_reply
instant-again t d = by (in_range t) refl
  where
    back : in_range t ≡ true → instant_reply (date_of t).year (pos (date_of t).month) (pos (date_of t).day) ≡ answer t
    back e =
        let d = date_of t in rw (exists-date d.year d.month d.day (date-on t).exists, instant-of-date t, e)

    by : (b : Bool) → in_range t ≡ b → require 14 b (answer (date_of t)) ≡ answer d
        → instant_reply d.year (pos d.month) (pos d.day) ≡ answer t
    by true e h =
        let same : date_of t ≡ d = cc in
        subst (λ (d : Date). instant_reply d.year (pos d.month) (pos d.day) ≡ answer t) same (back e)
    by false e h = let z : ◌≡◌ {A = ℕ} 0 1 = cc in absurd (omega arith)

-- and the instant that a date is answered with is answered with the date
pub date-again : (y m d t : ℤ) → instant_reply y m d ≡ answer t → date_reply t ≡ answer (date y (up m) (up d))
unfolding instant_reply date_reply
date-again y m d t = by (exists y m d) (in_range i) refl refl
  where
    i : ℤ
    i = instant_of y (up m) (up d)

    by : (a b : Bool) → exists y m d ≡ a → in_range i ≡ b → require 20 a (require 14 b (answer i)) ≡ answer t
        → require 14 (in_range t) (answer (date_of t)) ≡ answer (date y (up m) (up d))
    by true true e f h =
        let same : i ≡ t = cc in
        subst (λ (s : ℤ). require 14 (in_range s) (answer (date_of s)) ≡ answer (date y (up m) (up d))) same (rw (f, date-of-instant (date-exists y m d e)))
    by true false e f h = let z : ◌≡◌ {A = ℕ} 0 1 = cc in absurd (omega arith)
    by false b e f h = let z : ◌≡◌ {A = ℕ} 0 1 = cc in absurd (omega arith)
