-- `journal_store::window::look` meets its contract: what the step over the window says.
-- Assumes nothing.
use Prim.Native.Nat.{◌≤◌}
use native.Mathlib.Omega.{arith}
use lib.ListN.{length}
use lib.Seq.{length-take-le}
use borrow.Author.Rules.{rules}
use Rattle.journal_store.proofs.Steps.{step_seen}
use Rattle.journal_store.proofs.window.look.Goals as goal

pub returns : goal.returns
returns g c =
    let k : c.in_ok-k.k ≤ c.args.n = c.in_ok-k.ensures in
    let w : c.in_ok-k.k ≤ length c.fill_at.new.bytes = search rules in
    step_seen _ _ _ _ c.step_back.ensures (omega (arith, length-take-le c.in_ok-k.k c.fill_at.new.bytes w, k))
