-- The answers of the code, in document 01's numbers and values.
use Rattle.std.specs.Prelude.{ℤ, Result, Ok, Err}
use Rattle.calendar.specs.Reply.{Reply}
use Rattle.calendar.specs.Reply.Reply.{refused, answer}
use Rattle.calendar.specs.Refusals.{number_of}
use Rattle.calendar.specs.declared.Refusal.{Refusal}

abbrev pub number_reply : Result ℤ Refusal → Reply ℤ
number_reply (Ok z) = answer z
number_reply (Err x) = refused (number_of x)

abbrev pub instant_reply : Result ℤ Refusal → Reply ℤ
instant_reply (Ok t) = answer t
instant_reply (Err x) = refused (number_of x)
