-- The date of an instant and the instant of a date, by the rule alone: "A change from day to year, month and day and
-- back goes with it" (document 02, Req 05).
use Rattle.std.specs.Prelude.{◌≡◌, true, false, ℤ, pos}
use Rattle.calendar.specs.Limits.{in_range}
use Rattle.calendar.specs.Reply.{Reply, require}
use Rattle.calendar.specs.Reply.Reply.{refused, answer}
use Rattle.civil.specs.Rule.{Date, date_of}

unfoldable pub date_reply : ℤ → Reply Date
unfolding date_of
date_reply t = require 14 (in_range t) (answer (date_of t))

-- the numbers y, m and d are the date of the instant t
pub record IsDate (y m d t : ℤ) : Type 0 where
  pub year : (date_of t).year ≡ y
  pub month : pos (date_of t).month ≡ m
  pub day : pos (date_of t).day ≡ d

-- "a date that doesn't exist is refused under the new number 20; after that, one whose instant is outside
-- ±1,000,000,000 is 14": a date exists if an instant has it
pub data InstantReplied (y m d : ℤ) : Reply ℤ → Type 0 where
  no-date : ((t : ℤ) → ¬ (IsDate y m d t)) → InstantReplied y m d (refused 20)
  outside : (t : ℤ) → IsDate y m d t → in_range t ≡ false → InstantReplied y m d (refused 14)
  found : (t : ℤ) → IsDate y m d t → in_range t ≡ true → InstantReplied y m d (answer t)
