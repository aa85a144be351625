-- `row_maps::word_of` meets its contract: cell by cell, or of two halves.
-- Assumes nothing.
use mathlib.Core.Path.{◌≡◌, ap}
use Prim.Native.Nat.{ℕ, ◌+◌, ◌*◌, ◌^◌, ◌<◌}
use native.Mathlib.Omega.{arith}
use Rattle.row_maps.specs.Making.{labelled, word_of}
use Rattle.row_maps.proofs.Packed.{two-halves}
use Rattle.row_maps.proofs.word_of.Goals as goal
use Rattle.row_maps.proofs.word_of.Goals.{Start}

pub returns : goal.returns
unfolding word_of
returns c =
    let s = (goal.at.returns c).Start in
    let l = s.args.cells.now in
    let i = s.args.i in
    let p : (k : ℕ) → 64 * i + 32 + k ≡ 64 * i + (32 + k) = λ k. omega arith in
    let b : c.half_of-high.result < 2 ^ 32 = c.half_of-high.type_inv in
    two-halves (λ k. labelled l (64 * i + k)) (λ k. labelled l (64 * i + 32 + k)) (λ k. ap (labelled l) (p k)) c.half_of-low.result c.half_of-high.result b c.half_of-low.ensures
    c.half_of-high.ensures
