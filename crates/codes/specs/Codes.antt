-- Replies as numbers for C: a refusal is its number below zero, and what else there is to say is zero then.
use Rattle.std.specs.Prelude.{ℕ, ℤ, pos, neg_ℤ}
use Rattle.calendar.specs.Reply.{Reply}
use Rattle.calendar.specs.Reply.Reply.{refused, answer}

abbrev pub refusal_code : ℕ → ℤ
refusal_code n = neg_ℤ (pos n)

-- ---- a number that is not below zero: it is the code itself
abbrev pub count_code : Reply ℤ → ℤ
count_code (refused n) = refusal_code n
count_code (answer z) = z

-- ---- a number that is left: the code is 0
abbrev pub value_code : Reply ℤ → ℤ
value_code (refused n) = refusal_code n
value_code (answer z) = pos 0

abbrev pub value_left : Reply ℤ → ℤ
value_left (refused n) = pos 0
value_left (answer z) = z
