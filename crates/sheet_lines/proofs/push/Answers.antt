-- `sheet_lines::push` meets its contract.
-- Assumes nothing.
use Rattle.sheet_lines.proofs.Laying.{byte_fits, byte-lost}
use Rattle.sheet_lines.proofs.push.Goals as goal

pub returns-then-at-out : goal.returns-then-at-out
returns-then-at-out c = λ t o h. byte_fits h _ c.if-at-out.true

pub returns : goal.returns
returns c = λ t o h. byte-lost h _ c.if-at-out.false
