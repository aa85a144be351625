-- `batches::slots::answer_all` meets its contract. The loop's invariant: the front of each list has the answers to the
-- first i slots.
use mathlib.Core.Path.{◌≡◌}
use lib.IntN.{ℤ}
use lib.ListN.{take}
use Rattle.calendar.specs.Meaning.{Row}
use Rattle.calendar.specs.Questions.{given, up_from_granule}
use Rattle.questions_api.specs.Codes.{up_code, up_label}
use Rattle.batches.specs.Front.{front}
use Rattle.batches.proofs.slots.answer_all.Given as goal

abbrev pub code : Row → Row → ℤ → ℤ
code g h z = up_code (up_from_granule g h z)

abbrev pub label : Row → Row → ℤ → ℤ
label g h z = up_label (up_from_granule g h z)

abbrev pub invariant-loop-i : goal.invariant-loop-i
invariant-loop-i l =
    let g = given l.g_period l.g_distance l.g_cells in
    let h = given l.h_period l.h_distance l.h_cells in
    (l.answers ≡ front (code g h) (take l.i l.zs) l.initial.answers) ×
    (l.labels ≡ front (label g h) (take l.i l.zs) l.initial.labels)
