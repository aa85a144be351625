-- `sheet_lines::write_refusal` meets its contract, word by word.
-- Assumes nothing.
use Rattle.sheet_lines.proofs.Laying.{relay}
use Rattle.sheet_lines.proofs.Lines.{refusal-line}
use Rattle.sheet_lines.proofs.write_refusal.Goals as goal

pub returns : goal.returns
returns c =
    let a = c.args in
    λ u o h. relay (refusal-line a.number a.entry u)
    (c.push.ensures _ o (c.write_decimal-end.ensures _ o (c.write_word-c.ensures _ o (c.write_decimal-b.ensures _ o (c.write_word-a.ensures u o h)))))
