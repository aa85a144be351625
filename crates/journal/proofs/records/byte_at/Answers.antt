-- `journal::records::byte_at` meets its contract: a byte of the body, of the trailer, or behind both.
-- Assumes nothing.
use mathlib.Core.Path.{ap, ◌∙◌}
use mathlib.Core.List.{List}
use Prim.Native.Nat.{ℕ, ◌-◌}
use lib.ListN.{length, get_or}
use Rattle.journal.proofs.Laying.{byte-body, byte-trailer, byte-behind}
use Rattle.journal.proofs.records.byte_at.Goals as goal

pub returns-then-i-n : goal.returns-then-i-n
returns-then-i-n c = let a = c.args in byte-body a.text.now a.i c.if-i-n.true

pub returns-then-k-lt-TRAILER_LENGTH : goal.returns-then-k-lt-TRAILER_LENGTH
returns-then-k-lt-TRAILER_LENGTH c =
    let s = c.args in
    ap (λ (l : List ℕ). get_or l (s.i - length s.text.now) 0) c.trailer-bytes.ensures
    ∙ byte-trailer s.text.now s.i c.if-i-n.false

pub returns : goal.returns
returns c = let a = c.args in byte-behind a.text.now a.i c.if-i-n.false c.if-k-lt-TRAILER_LENGTH.false
