-- `row_maps::fill` meets its contract. The loop's invariant: the words before i are those of the map.
-- Assumes nothing.
use native.Mathlib.Omega.{arith}
use Rattle.row_maps.specs.Making.{word_of, map_of}
use Rattle.row_maps.proofs.Written.{all-written}
use Rattle.row_maps.proofs.fill.Goals as goal
use Rattle.row_maps.proofs.fill.Goals.{Start}

pub returns : goal.returns
unfolding map_of
returns c =
    let s = (goal.at.returns c).Start in
    all-written (word_of s.args.cells.now) _ _ (omega arith) (λ k h. c.loop-i.invariant k (omega arith))
