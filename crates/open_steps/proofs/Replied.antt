-- An instant that is found, or none, is the answer.
-- Assumes nothing.
use Rattle.std.specs.Prelude.{Option, Some, None, Ok}
use mathlib.Core.Path.{◌≡◌, refl}
use lib.IntN.{ℤ}
use Rattle.calendar.specs.Reply.Reply.{answer}
use Rattle.cursors.specs.Found.{found}
use Rattle.open_steps.specs.Answers.{step_reply}

pub step-replied : (x : Option ℤ) → step_reply (Ok x) ≡ answer (found x)
step-replied (Some t) = refl
step-replied None = refl
