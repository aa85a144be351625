-- `batches::lateness::answer_all` meets its contract. The loop's invariant: the front of the list has the answers to the
-- first i slots.
use mathlib.Core.Path.{◌≡◌}
use lib.IntN.{ℤ}
use lib.ListN.{take}
use Rattle.calendar.specs.Meaning.{Row}
use Rattle.calendar.specs.Questions.{given}
use Rattle.floats.specs.declared.Allowance.{Allowance}
use Rattle.questions.specs.Answers.{may_be_late}
use Rattle.questions_api.specs.Codes.{late_code}
use Rattle.batches.specs.Front.{front}
use Rattle.batches.proofs.lateness.answer_all.Given as goal

abbrev pub code : Row → ℤ → Allowance → ℤ → ℤ
code r d a z = late_code (may_be_late r z d a)

abbrev pub invariant-loop-i : goal.invariant-loop-i
invariant-loop-i l =
    let r = given l.period l.distance l.cells in
    l.answers ≡ front (code r l.d l.allowance) (take l.i l.zs) l.initial.answers
