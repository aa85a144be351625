-- The answer of the code, in document 01's numbers and values.
use Rattle.std.specs.Prelude.{ℤ, Option, Some, None, Result, Ok, Err}
use Rattle.std.proofs.Math.Option as Math
use Rattle.std.proofs.Math.Option.{none, some}
use Rattle.calendar.specs.Reply.{Reply}
use Rattle.calendar.specs.Reply.Reply.{refused, answer}
use Rattle.calendar.specs.Refusals.{number_of}
use Rattle.calendar.specs.declared.Refusal.{Refusal}

abbrev pub step_reply : Result (Option ℤ) Refusal → Reply (Math.Option ℤ)
step_reply (Ok (Some t)) = answer (some t)
step_reply (Ok None) = answer none
step_reply (Err x) = refused (number_of x)
