-- The reply to a date, computed, is the one that the rule gives, and there is no other.
use mathlib.Core.Path.{◌≡◌, refl, sym, ◌∙◌, ap}
use mathlib.Core.Bool.{Bool, true, false}
use native.Mathlib.Omega.{arith}
use lib.IntN.{ℤ, pos}
use Rattle.integers.specs.Parts.{up}
use Rattle.integers.proofs.Linear.{ints, ◌∴◌}
use Rattle.integers.proofs.Order.{pos-up}
use Rattle.calendar.specs.Limits.{in_range}
use Rattle.calendar.specs.Reply.{Reply, require}
use Rattle.calendar.specs.Reply.Reply.{answer}
use Rattle.granules.proofs.Tests.{true≢false}
use Rattle.civil.specs.Rule.{Date, date_of}
use Rattle.civil.specs.Instants.{exists, instant_of, instant_reply}
use Rattle.civil.specs.Asked.{IsDate, InstantReplied}
use Rattle.civil.specs.Asked.InstantReplied.{no-date, outside, found}
use Rattle.civil.proofs.Dates.{date-ext, date-on}
use Rattle.civil.proofs.Instants.{date-of-instant, instant-of-date}
use Rattle.civil.proofs.Replies.{exists-numbers, date-exists, exists-date}

module _ {y m d : ℤ} where
  -- the instant by the formula has the date
  has-date : exists y m d ≡ true → IsDate y m d (instant_of y (up m) (up d))
  has-date e =
      let at = date-of-instant (date-exists y m d e) in
      let (a, b) = (exists-numbers y m d).0 e in
      record {
        year = ap (λ (x : Date). x.year) at;
        month = ap (λ (x : Date). pos x.month) at ∙ pos-up {z = m} (a.0 ∴ simp ints (omega arith));
        day = ap (λ (x : Date). pos x.day) at ∙ pos-up {z = d} (b.0 ∴ simp ints (omega arith));
      }

  -- the date of an instant exists
  passes : (t : ℤ) → IsDate y m d t → exists y m d ≡ true
  passes t x =
      rw (x.year, x.month, x.day) at (exists-date (date_of t).year (date_of t).month (date_of t).day (date-on t).exists)

  one-instant : (t u : ℤ) → IsDate y m d t → IsDate y m d u → t ≡ u
  one-instant t u x w =
      let months : (date_of t).month ≡ (date_of u).month = cc in
      let days : (date_of t).day ≡ (date_of u).day = cc in
      let same = date-ext (x.year ∙ sym w.year) months days in
      sym (instant-of-date t) ∙ ap (λ (d : Date). instant_of d.year d.month d.day) same ∙ instant-of-date u

pub instant-replied : (y m d : ℤ) → InstantReplied y m d (instant_reply y m d)
unfolding instant_reply
instant-replied y m d = by (exists y m d) (in_range i) refl refl
  where
    i : ℤ
    i = instant_of y (up m) (up d)

    by : (a b : Bool) → exists y m d ≡ a → in_range i ≡ b → InstantReplied y m d (require 20 a (require 14 b (answer i)))
    by false b e f = no-date (λ t x. true≢false (passes t x) e)
    by true false e f = outside i (has-date e) f
    by true true e f = found i (has-date e) f

pub replied-unique : {y m d : ℤ} {r s : Reply ℤ} → InstantReplied y m d r → InstantReplied y m d s → r ≡ s
replied-unique (no-date f) (no-date g) = refl
replied-unique (no-date f) (outside u w g) = absurd (f u w)
replied-unique (no-date f) (found u w g) = absurd (f u w)
replied-unique (outside t x e) (no-date g) = absurd (g t x)
replied-unique (outside t x e) (outside u w g) = refl
replied-unique (outside t x e) (found u w g) = absurd (true≢false g (ap in_range (sym (one-instant t u x w)) ∙ e))
replied-unique (found t x e) (no-date g) = absurd (g t x)
replied-unique (found t x e) (outside u w g) = absurd (true≢false e (ap in_range (one-instant t u x w) ∙ g))
replied-unique (found t x e) (found u w g) = ap (λ (i : ℤ). answer i) (one-instant t u x w)
