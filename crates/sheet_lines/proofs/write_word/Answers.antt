-- `sheet_lines::write_word` meets its contract. The loop's invariant: the first i bytes have been written.
-- Assumes nothing.
use mathlib.Core.Path.{sym, ap}
use mathlib.Core.List.{List, ◌++◌, append-nil}
use Prim.Native.Nat.{ℕ}
use lib.Seq.{take_all}
use Rattle.sheet_lines.proofs.Laying.{relay}
use Rattle.sheet_lines.proofs.Lines.{word_more}
use Rattle.sheet_lines.proofs.write_word.Goals as goal

pub loop-b-init : goal.loop-b-init
loop-b-init c = λ t o h. relay (sym (append-nil t)) h

pub loop-b-preserved : goal.loop-b-preserved
loop-b-preserved c =
    λ t o h. relay (word_more c.args.word.now c.loop-b.b-index c.loop-b-test.true t)
    (c.push-place.ensures _ o (c.loop-b.invariant t o h))

pub returns : goal.returns
returns c =
    let all = take_all c.loop-b.b-index c.args.word.now c.loop-b-test.false in
    λ t o h. relay (ap (λ (w : List ℕ). t ++ w) all) (c.loop-b.invariant t o h)
