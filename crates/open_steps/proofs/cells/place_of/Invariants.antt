-- `open_steps::cells::place_of` meets its contract. The loop's invariant: at `start` at most k set bits are passed,
-- at `start + size` more than k.
-- Assumes nothing.
use Prim.Native.Nat.{ℕ, ◌+◌, ◌≤◌, ◌<◌}
use Rattle.words.specs.Bits.{bit, tally}
use Rattle.open_steps.proofs.cells.place_of.Given as goal

pub record Halved (w k start size : ℕ) : Type 0 where
  pub some : 1 ≤ size
  pub within : start + size ≤ 64
  pub passed : tally (bit w) start ≤ k
  pub ahead : k < tally (bit w) (start + size)

abbrev pub invariant-loop-size : goal.invariant-loop-size
invariant-loop-size l = Halved l.w l.k l.start l.size

abbrev pub decreases-loop-size : goal.decreases-loop-size
decreases-loop-size l = l.size
