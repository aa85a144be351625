-- `fill_by_granule::picking::fill_instants` meets its contract: each turn of the loop fills the instants of one granule of b.
--     Begun        before the loop: its invariant, and that it holds there
-- Assumes nothing.
use Prim.Native.Nat.{◌+◌}
use lib.IntN.{pos, ◌-ℤ◌}
use Rattle.integers.specs.Parts.{up}
use Rattle.fill_shared.proofs.Filling.{lent_as}
use Rattle.fill_by_granule.proofs.Rounds.{Round}
use Rattle.fill_by_granule.proofs.OneRow.{one_lent}
use Rattle.fill_by_granule.proofs.picking.fill_instants.Given as goal

abbrev pub invariant-loop-t : goal.invariant-loop-t
invariant-loop-t l =
    Round l.by (one_lent l.a_start) (lent_as l.b_start l.b_end l.b_period l.b_distance) l.at l.period l.initial.pool l.pool l.v l.cursor l.count l.t

abbrev pub decreases-loop-t : goal.decreases-loop-t
decreases-loop-t l =
    up (pos (l.period + l.period) -ℤ l.v)
