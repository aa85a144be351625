-- `batches::instants::answer_all` meets its contract. The loop's invariant: the front of each list has the answers to the
-- first i instants.
use mathlib.Core.Path.{◌≡◌}
use lib.IntN.{ℤ}
use lib.ListN.{take}
use Rattle.calendar.specs.Meaning.{Row}
use Rattle.calendar.specs.Questions.{given, up_from_instant}
use Rattle.questions_api.specs.Codes.{placed_code, placed_label, placed_place}
use Rattle.batches.specs.Front.{front}
use Rattle.batches.proofs.instants.answer_all.Given as goal

abbrev pub code : Row → ℤ → ℤ
code r t = placed_code (up_from_instant r t)

abbrev pub label : Row → ℤ → ℤ
label r t = placed_label (up_from_instant r t)

abbrev pub place : Row → ℤ → ℤ
place r t = placed_place (up_from_instant r t)

abbrev pub invariant-loop-i : goal.invariant-loop-i
invariant-loop-i l =
    let r = given l.period l.distance l.cells in
    (l.answers ≡ front (code r) (take l.i l.ts) l.initial.answers) ×
    (l.labels ≡ front (label r) (take l.i l.ts) l.initial.labels) ×
    (l.places ≡ front (place r) (take l.i l.ts) l.initial.places)
