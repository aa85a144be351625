-- Steps along open instants as numbers for C: 1 with an instant, 0 with none.
use Rattle.std.proofs.Math.Option.{Option, none, some}
use Rattle.std.specs.Prelude.{ℤ, pos}
use Rattle.calendar.specs.Reply.{Reply}
use Rattle.calendar.specs.Reply.Reply.{refused, answer}
use Rattle.codes.specs.Codes.{refusal_code}

abbrev pub step_code : Reply (Option ℤ) → ℤ
step_code (refused n) = refusal_code n
step_code (answer none) = pos 0
step_code (answer (some t)) = pos 1

-- the instant, or 0
abbrev pub step_left : Reply (Option ℤ) → ℤ
step_left (refused n) = pos 0
step_left (answer none) = pos 0
step_left (answer (some t)) = t
