-- `open_row::labels::nth_cell` meets its contract: the loop counts the labels of the blocks that it passes.
-- Assumes nothing.
use mathlib.Core.Path.{◌≡◌, ap, subst}
use Prim.Native.Nat.{ℕ}
use native.Mathlib.Omega.{arith}
use lib.ListN.{length}
use Rattle.open_steps.specs.Ranked.{Nth}
use Rattle.words.proofs.Tally.{tally-zero}
use Rattle.row_maps.specs.Making.{labelled}
use Rattle.open_row.specs.Shown.{labelled_before}
use Rattle.open_row.proofs.labels.nth_cell.Goals as goal
use Rattle.open_row.proofs.labels.nth_cell.Goals.{At-loop-i}

pub loop-i-init : goal.loop-i-init
loop-i-init c = record { within = omega arith; rank = omega (arith, tally-zero (labelled c.args.cells.now)) }

pub nth_from-requires : goal.nth_from-requires
nth_from-requires c =
    let k = (goal.at.nth_from-requires c).At-loop-i in
    record { start_in_bounds = omega arith; k_bound = omega (arith, k.loop-i.invariant.rank, k.requires) }

pub returns-then-left-here : goal.returns-then-left-here
returns-then-left-here c =
    let k = (goal.at.returns-then-left-here c).At-loop-i in
    let l = k.args.cells.now in
    subst (λ (m : ℕ). Nth (labelled l) m c.nth_from.result) k.loop-i.invariant.rank c.nth_from.ensures

pub loop-i-preserved : goal.loop-i-preserved
loop-i-preserved c = record { within = omega arith; rank = omega arith }

pub returns : goal.returns
returns c =
    let k = c.loop-i in
    let l = c.args.cells.now in
    let e : k.i ≡ length l = omega arith in
    absurd (omega (arith, k.invariant.rank, ap (labelled_before l) e, c.requires))
