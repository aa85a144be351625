-- The row of an operation that is answered: sound, and no longer than its room.
use mathlib.Core.Path.{◌≡◌, sym, ◌∙◌, subst}
use mathlib.Core.Bool.{true, not}
use Prim.Native.Nat.{ℕ, ◌*◌, ◌≤◌}
use native.Mathlib.Nat.{mul-le-mul_right, le_of_mul-le-mul_left}
use native.Mathlib.Omega.{arith}
use lib.Dec.{leb}
use lib.IntN.{pos}
use Rattle.integers.proofs.Linear.{ints}
use Rattle.calendar.specs.Meaning.{Row, IsCalendar, LeastRow}
use Rattle.calendar.specs.Operation.{Operation, map_operation}
use Rattle.calendar.specs.Size.{turn, span}
use Rattle.calendar.specs.Distance.{size}
use Rattle.calendar.specs.Compute.{result, working}
use Rattle.calendar.specs.Checks.{full_operands, aligned, emptied, unlabelled, labels_in_range}
use Rattle.calendar.specs.Limits.{in_range, pool_limit}
use Rattle.calendar.specs.Sound.{labels_of, cells_in_range, sound}
use Rattle.calendar.specs.Least.{least}
use Rattle.calendar.specs.Reply.Reply.{answer}
use Rattle.calendar.specs.Outcome.{converted}
use Rattle.granules.specs.Valid.{Valid}
use Rattle.granules.proofs.Tests.{not_iff, leb-iff, false-iff}
use Rattle.granules.proofs.Lists.{all-iff}
use Rattle.granules.proofs.Calendars.{periods-proportional}
use Rattle.granules.proofs.Rows.{valid-of-least, labels-mem, label-index, cell-meant}
use Rattle.granules.proofs.Least.{least-shorter, least-repeats}
use Rattle.granules.proofs.Sound.{sound-valid, sound-limits, valid-sound}
use Rattle.granules.proofs.Replies.{require-answer}
use Rattle.algebra.specs.Ready.{Operands, meaning, Ready}
use Rattle.algebra.specs.Factor.{Factor}
use Rattle.algebra.specs.TableMeaning.{Labelled}
use Rattle.algebra.proofs.Operations.{operands-weaken}
use Rattle.algebra.proofs.OperandChecks.{full_operands-iff, aligned-iff}
use Rattle.algebra.proofs.EmptiedCheck.{emptied-iff}
use Rattle.algebra.proofs.Right.{right, size-dense}
use Rattle.algebra.proofs.Working.{in_range-iff, labelled-some, labels-in-range, result-calendar, working-valid}
use Rattle.algebra.proofs.Converted.{converted-checks, answer-row}

-- an operation that has passed every check, and its row
record Answered (o : Operation Row) (room : ℕ) (r : Row) : Type 0 where
  ready : Ready o
  fits : (size o).period ≤ room
  labelled : Labelled (meaning o)
  range : labels_in_range o ≡ true
  is : least (working o) ≡ r

answered : (o : Operation Row) (room : ℕ) (r : Row) → Operands Valid o → Factor o → converted o room ≡ answer r → Answered o room r
answered o room r valid factor h =
    let r₇ = require-answer 7 (full_operands o) _ (sym (converted-checks o room) ∙ h) in
    let r₈ = require-answer 8 (leb (span (map_operation turn o)) room) _ r₇.1 in
    let r₉ = require-answer 9 (aligned o) _ r₈.1 in
    let r₁₀ = require-answer 10 (not (emptied o)) _ r₉.1 in
    let period = require-answer 8 (leb (size o).period room) _ r₁₀.1 in
    let r₁₂ = require-answer 12 (not (unlabelled o)) _ period.1 in
    let r₁₁ = require-answer 11 (labels_in_range o) _ r₁₂.1 in
    let full = (full_operands-iff o valid).0 r₇.0 in
    let alike = (aligned-iff o valid).0 r₉.0 in
    let ready : Ready o = record {
      valid = valid;
      factor = factor;
      full = full;
      aligned = alike;
      kept = (false-iff (emptied-iff o valid factor full alike)).0 ((not_iff (emptied o)).0 r₁₀.0);
    } in
    record {
      ready = ready;
      fits = (leb-iff (size o).period room).0 period.0;
      labelled = labelled-some o (right o ready) ((not_iff (unlabelled o)).0 r₁₂.0);
      range = r₁₁.0;
      is = cc r₁₁.1;
    }

-- a distance in proportion to one that is at most its period is so too
dense : (P N Q M : ℕ) → 1 ≤ P → N ≤ P → N * Q ≡ M * P → M ≤ Q
dense P N Q M p h e = le_of_mul-le-mul_left {k = P} (omega (arith, mul-le-mul_right Q h)) p

abbrev answer_row : Operation Row → Row
answer_row o = least (working o)

module _ (o : Operation Row) (ready : Ready o) (labelled : Labelled (meaning o)) (range : labels_in_range o ≡ true) where
  least-answer : LeastRow (result o) (answer_row o)
  least-answer = answer-row o (right o ready) labelled range

  answer-calendar : IsCalendar (result o)
  answer-calendar = result-calendar o (right o ready) labelled

  answer-shorter : (answer_row o).period ≤ (size o).period
  unfolding working
  answer-shorter = least-shorter (working o) (working-valid o (right o ready) range labelled)

  answer-dense : Operands (λ s. s.distance ≤ s.period) o → (answer_row o).distance ≤ (answer_row o).period
  answer-dense h =
      let d = right o ready in
      dense (size o).period (size o).distance (answer_row o).period (answer_row o).distance d.positive.0 (size-dense o ready h)
      (periods-proportional (result o) (size o).period (size o).distance (answer_row o).period (answer_row o).distance d.repeats
      (least-repeats (result o) (answer_row o) least-answer) answer-calendar.label answer-calendar.labelled)

  answer-range : cells_in_range (answer_row o) ≡ true
  answer-range =
      (all-iff in_range (labels_of (answer_row o).cells)).1 (λ j h.
      let m = labels-mem (answer_row o).cells j h in
      let l = label-index (answer_row o).cells m.0 j m.1 in
      (in_range-iff j).1 (labels-in-range o range (pos m.0) (simp ints (omega arith)) (simp ints (omega (arith, l, least-answer.whole, answer-shorter))) j
      (sym (least-answer.means (pos m.0)) ∙ cell-meant (answer_row o) least-answer.whole m.0 j m.1)))

  answer-sound : Operands (λ s. s.distance ≤ s.period) o → (size o).period ≤ pool_limit → sound (answer_row o) ≡ true
  answer-sound h fits =
      valid-sound (answer_row o) (valid-of-least (answer_row o) (result o) answer-calendar least-answer) (answer-dense h) (omega (arith, answer-shorter)) answer-range

-- where its operands are sound, so is the row; and it fits
pub converted-sound : (o : Operation Row) (room : ℕ) (r : Row) → Operands (λ s. sound s ≡ true) o → Factor o → room ≤ pool_limit
    → converted o room ≡ answer r → (sound r ≡ true) × (r.period ≤ room)
converted-sound o room r h factor limit e =
    let a = answered o room r (operands-weaken sound-valid o h) factor e in
    let short = answer-shorter o a.ready a.labelled a.range in
    let fits : (answer_row o).period ≤ room = omega arith in
    let dense = operands-weaken (λ s k. (sound-limits s k).0) o h in
    subst (λ (r : Row). (sound r ≡ true) × (r.period ≤ room)) a.is (answer-sound o a.ready a.labelled a.range dense (omega arith), fits)
