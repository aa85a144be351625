-- `journal::records::recorded` meets its contract, answer by answer.
-- Assumes nothing.
use mathlib.Core.Path.{sym, ◌∙◌}
use native.Mathlib.Omega.{arith}
use Rattle.journal.proofs.Laying.{recorded-nothing, recorded-bad, recorded-short, recorded-whole}
use Rattle.journal.proofs.records.recorded.Goals as goal

pub returns-then-text-eq0 : goal.returns-then-text-eq0
returns-then-text-eq0 c = recorded-nothing _ _ c.if-text-eq0.true

pub returns-in-Err : goal.returns-in-Err
returns-in-Err c = recorded-bad _ c.if-text-eq0.false _ _ (sym c.in-Err.is ∙ c.read.ensures)

pub returns-then-room-n : goal.returns-then-room-n
returns-then-room-n c = recorded-short _ c.if-text-eq0.false _ _ (sym c.in_default.is ∙ c.read.ensures) c.if-room-n.true

pub returns : goal.returns
returns c = recorded-whole _ c.if-text-eq0.false _ _ (sym c.in_default.is ∙ c.read.ensures) (omega (arith, c.if-room-n.false))
