-- `table_text::number::read_number` meets its contract, case by case.
-- Assumes nothing.
use mathlib.Core.Path.{◌≡◌, sym, ap, ◌∙◌}
use mathlib.Core.List.{List}
use Prim.Native.Nat.{ℕ}
use lib.ListN.{drop}
use Rattle.table_text.specs.Answers.{natural_answer, number_answer}
use Rattle.table_text.proofs.Scanning.{number-none, number-signed, number-unsigned, signed-value, signed-bad, unsigned-value, unsigned-bad, tail-part}
use Rattle.table_text.specs.Parse.{natural, number, non_negative, negative}
use Rattle.table_text.proofs.number.read_number.Goals as goal
use Rattle.table_text.proofs.number.read_number.Goals.{After-read_natural, After-read_natural-else-word-eq45}

pub returns-then-word-eq0 : goal.returns-then-word-eq0
returns-then-word-eq0 c = sym (ap number_answer (number-none c.args.word.now c.if-word-eq0.true))

-- the word, and the case of its sign
abbrev word : After-read_natural → List ℕ
word r = r.args.word.now

minus : (r : After-read_natural) → number_answer (number (word r)) ≡ number_answer (negative (natural (drop 1 (word r))))
minus r = ap number_answer (number-signed (word r) r.if-word-eq0.false r.if-word-eq45.true)

read-part : (r : After-read_natural) → r.read_natural.result ≡ natural_answer (natural (drop 1 (word r)))
read-part r = r.read_natural.ensures ∙ ap (λ (w : List ℕ). natural_answer (natural w)) (tail-part (word r) 1)

abbrev word2 : After-read_natural-else-word-eq45 → List ℕ
word2 r = r.args.word.now

plus : (r : After-read_natural-else-word-eq45) → number_answer (number (word2 r)) ≡ number_answer (non_negative (natural (word2 r)))
plus r = ap number_answer (number-unsigned (word2 r) r.if-word-eq0.false r.if-word-eq45.false)

pub returns-in_ok-size : goal.returns-in_ok-size
returns-in_ok-size c =
    let r = (goal.at.returns-in_ok-size c).After-read_natural in
    c.negated.ensures ∙ sym (minus r ∙ signed-value (natural (drop 1 (word r))) _ (sym (read-part r) ∙ c.in_ok-size.was))

pub returns-in_err-size : goal.returns-in_err-size
returns-in_err-size c =
    let r = (goal.at.returns-in_err-size c).After-read_natural in
    c.from_residual.ensures ∙ sym (minus r ∙ signed-bad (natural (drop 1 (word r))) (sym (read-part r) ∙ c.in_err-size.was))

pub returns-in_ok-value : goal.returns-in_ok-value
returns-in_ok-value c =
    let r = (goal.at.returns-in_ok-value c).After-read_natural-else-word-eq45 in
    c.unsigned.ensures ∙ sym (plus r ∙ unsigned-value (natural (word2 r)) _ (sym r.read_natural-else-word-eq45.ensures ∙ c.in_ok-value.was))

pub returns-in_err-value : goal.returns-in_err-value
returns-in_err-value c =
    let r = (goal.at.returns-in_err-value c).After-read_natural-else-word-eq45 in
    c.from_residual-in_err-value.ensures ∙ sym (plus r ∙ unsigned-bad (natural (word2 r)) (sym r.read_natural-else-word-eq45.ensures ∙ c.in_err-value.was))
