-- The civil calendar as numbers for C: a refusal is its number below zero, and whatever else there is to say is zero
-- then.
use Rattle.std.specs.Prelude.{◌≡◌, cond, List, ◌++◌, ℕ, ◌-◌, leb, ℤ, pos, negsuc, replicate}
use Rattle.calendar.specs.Reply.{Reply}
use Rattle.calendar.specs.Reply.Reply.{refused, answer}
use Rattle.codes.specs.Codes.{refusal_code}
use Rattle.civil.specs.Rule.{Date, date}
use Rattle.civil.specs.Table.{civil_table}

-- ---- the table in a list of n numbers: its length, or −1 where the list is shorter

abbrev pub table_code : ℕ → ℤ
table_code n = cond (leb 66 n) (pos 66) (negsuc 0)

-- the table with zeros behind it, or zeros alone
abbrev pub table_left : ℕ → List ℤ
table_left n = cond (leb 66 n) (civil_table ++ replicate (n - 66) (pos 0)) (replicate n (pos 0))

-- ---- dates and instants: 0, or a refusal

abbrev pub date_code : Reply Date → ℤ
date_code (refused n) = refusal_code n
date_code (answer d) = pos 0

abbrev pub date_left : Reply Date → Date
date_left (refused n) = date (pos 0) 0 0
date_left (answer d) = d

-- the code, and the three numbers that are left
pub record DateLeft (r : Reply Date) (c y m d : ℤ) : Type 0 where
  pub code : c ≡ date_code r
  pub year : y ≡ (date_left r).year
  pub month : m ≡ pos (date_left r).month
  pub day : d ≡ pos (date_left r).day

abbrev pub instant_code : Reply ℤ → ℤ
instant_code (refused n) = refusal_code n
instant_code (answer t) = pos 0

abbrev pub instant_left : Reply ℤ → ℤ
instant_left (refused n) = pos 0
instant_left (answer t) = t
