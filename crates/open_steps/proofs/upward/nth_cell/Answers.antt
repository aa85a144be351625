-- `open_steps::upward::nth_cell` meets its contract: there are enough set cells.
-- Assumes nothing.
use mathlib.Core.Path.{subst}
use Prim.Native.Nat.{ℕ, zero, suc, ◌*◌, ◌<◌}
use native.Mathlib.Omega.{arith}
use mathlib.Core.List.{List}
use lib.ListN.{length}
use Rattle.words.specs.Bits.{cell, tally}
use Rattle.words.proofs.Tally.{tally-zero}
use Rattle.open_steps.specs.Ranked.{NthFrom}
use Rattle.open_steps.proofs.upward.nth_cell.Goals as goal
use Rattle.open_steps.proofs.upward.nth_cell.Goals.{After-nth_from-found, Start}

-- where a cell is set, there is one
some-cell : (words : List ℕ) (n k : ℕ) → k < tally (cell words) (64 * n) → 0 < n
some-cell words zero k h = absurd (omega (arith, tally-zero (cell words)))
some-cell words (suc n) k h = omega arith

pub nth_from-found-requires : goal.nth_from-found-requires
nth_from-found-requires c =
    let s = (goal.at.nth_from-found-requires c).Start in
    let l = s.args.words.now in
    (s.requires.0, omega (arith, some-cell l (length l) s.args.k s.requires.2), s.requires.1)

pub returns-in-Ok : goal.returns-in-Ok
returns-in-Ok c =
    let f = (goal.at.returns-in-Ok c).After-nth_from-found in
    let s = (goal.at.After-nth_from-found f).Start in
    let l = s.args.words.now in
    let n = subst (NthFrom l 0 s.args.k) c.in-Ok.is f.nth_from-found.ensures in
    record { set = n.set; rank = omega (arith, n.rank, tally-zero (cell l)) }

pub returns-in-Err : goal.returns-in-Err
returns-in-Err c =
    let f = (goal.at.returns-in-Err c).After-nth_from-found in
    let s = (goal.at.After-nth_from-found f).Start in
    let l = s.args.words.now in
    let n = subst (NthFrom l 0 s.args.k) c.in-Err.is f.nth_from-found.ensures in
    absurd (omega (arith, n, s.requires.2, tally-zero (cell l)))
