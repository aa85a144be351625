-- `table_text::number::read_natural` meets its contract, case by case.
-- Assumes nothing.
use mathlib.Core.Path.{sym, ◌∙◌}
use Rattle.table_text.proofs.Scanning.{natural-none, natural-one, natural-zero, natural-several}
use Rattle.table_text.proofs.number.read_natural.Goals as goal

pub returns-then-word-eq0 : goal.returns-then-word-eq0
returns-then-word-eq0 c = sym (natural-none c.args.word.now c.if-word-eq0.true)

pub returns-then-word-eq1 : goal.returns-then-word-eq1
returns-then-word-eq1 c = c.read_digits.ensures ∙ sym (natural-one c.args.word.now c.if-word-eq1.true)

pub returns-then-word-eq48 : goal.returns-then-word-eq48
returns-then-word-eq48 c = sym (natural-zero c.args.word.now c.if-word-eq0.false c.if-word-eq1.false c.if-word-eq48.true)

pub returns : goal.returns
returns c = c.read_digits-2.ensures ∙ sym (natural-several c.args.word.now c.if-word-eq0.false c.if-word-eq1.false c.if-word-eq48.false)
