-- `fill_pointwise::fill_pieces` meets its contract: each turn of the loop writes the cells of one piece.
-- Assumes nothing.
use Prim.Native.Nat.{ℕ, ◌+◌, ◌-◌}
use lib.IntN.{ℤ, pos}
use Rattle.fill_shared.proofs.Filling.{Lent}
use Rattle.fill_pointwise.proofs.Joined.{Pieced}
use Rattle.fill_pointwise.proofs.fill_pieces.Given as goal

-- the row as the loop holds it
abbrev pub lent_by : ℕ → ℕ → ℤ → Lent
lent_by start period distance = record { start = start; end = start + period; period = pos period; distance = distance }

abbrev pub invariant-loop-t : goal.invariant-loop-t
invariant-loop-t l =
    Pieced l.set (lent_by l.a_start l.a_period l.a_distance) (lent_by l.b_start l.b_period l.b_distance) l.at l.period l.initial.pool l.pool l.x l.y l.labelled l.outside l.t

abbrev pub decreases-loop-t : goal.decreases-loop-t
decreases-loop-t l = l.period - l.t
