-- `table_text::number::read_digits` meets its contract. The loop's invariant: what is left is to be read behind the digits that make `value`.
-- Assumes nothing.
use mathlib.Core.Path.{◌≡◌}
use Prim.Native.Nat.{◌≤◌}
use lib.ListN.{drop}
use Rattle.table_text.specs.Answers.{digits_answer}
use Rattle.table_text.proofs.number.read_digits.Given as goal

abbrev pub invariant-loop-b : goal.invariant-loop-b
invariant-loop-b l = (l.value ≤ 2147483648) × (digits_answer 0 l.word ≡ digits_answer l.value (drop l.b-index l.word))
