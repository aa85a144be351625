-- `table_text::number::read_digits` meets its contract. The loop's invariant: what is left is to be read behind the digits that make `value`.
-- Assumes nothing.
use mathlib.Core.Path.{◌≡◌, sym, ap, ◌∙◌}
use Prim.Native.Nat.{ℕ, ◌+◌, ◌*◌}
use native.Mathlib.Omega.{arith}
use lib.ListN.{drop, drop_of_length-le}
use Rattle.table_text.specs.Answers.{digits_answer}
use Rattle.table_text.proofs.Scanning.{digits-end, digits-large, place-other, place-digit}
use Rattle.table_text.proofs.number.read_digits.Goals as goal
use Rattle.table_text.proofs.number.read_digits.Goals.{After-from, At-loop-b}

pub returns-then-not-is_ascii_digit : goal.returns-then-not-is_ascii_digit
returns-then-not-is_ascii_digit c =
    let l = (goal.at.returns-then-not-is_ascii_digit c).At-loop-b in
    sym (l.loop-b.invariant.1
    ∙ place-other l.args.word.now l.loop-b.value l.loop-b.b-index (omega arith) (sym c.is_ascii_digit.ensures.value ∙ c.if-not-is_ascii_digit.true))

-- one digit more
digit : (c : After-from)
    → let l = (goal.at.After-from c).At-loop-b in let w = l.args.word.now in
    digits_answer l.loop-b.value (drop l.loop-b.b-index w)
    ≡ digits_answer (10 * l.loop-b.value + c.from.result) (drop (l.loop-b.b-index + 1) w)
digit c =
    let l = (goal.at.After-from c).At-loop-b in
    let w = l.args.word.now in
    place-digit w l.loop-b.value l.loop-b.b-index (omega arith) (sym c.is_ascii_digit.ensures.value ∙ c.if-not-is_ascii_digit.false)
    ∙ ap (λ (d : ℕ). digits_answer (10 * l.loop-b.value + d) (drop (l.loop-b.b-index + 1) w)) (sym c.from.ensures)

pub returns-then-value-gt-BOUND : goal.returns-then-value-gt-BOUND
returns-then-value-gt-BOUND c =
    let l = (goal.at.returns-then-value-gt-BOUND c).At-loop-b in
    let w = l.args.word.now in
    sym (l.loop-b.invariant.1 ∙ digit (goal.at.returns-then-value-gt-BOUND c).After-from
    ∙ digits-large (drop (l.loop-b.b-index + 1) w) c.if-value-gt-BOUND.true)

pub loop-b-preserved : goal.loop-b-preserved
loop-b-preserved c =
    let l = (goal.at.loop-b-preserved c).At-loop-b in
    (omega arith, l.loop-b.invariant.1 ∙ digit (goal.at.loop-b-preserved c).After-from)

pub returns : goal.returns
returns c =
    let l = (goal.at.returns c).At-loop-b in
    sym (l.loop-b.invariant.1
    ∙ ap (digits_answer l.loop-b.value) (drop_of_length-le l.args.word.now {i = l.loop-b.b-index} (omega arith))
    ∙ digits-end l.loop-b.invariant.0)
