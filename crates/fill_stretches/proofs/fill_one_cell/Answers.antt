-- `fill_stretches::fill_one_cell` meets its contract: the labels are known, and so is the end.
-- Assumes nothing.
use mathlib.Core.Path.{◌≡◌}
use mathlib.Core.Bool.{true}
use Prim.Native.Nat.{◌^◌, ◌<◌}
use native.Mathlib.Omega.{arith}
use lib.IntN.{ℤ, pos}
use lib.ListN.{get_or}
use mir.Syntax.{w32}
use mir.Val.{SFits}
use Rattle.integers.proofs.Machine.{plain, widened}
use Rattle.calendar.specs.Limits.{in_range}
use Rattle.fill_shared.proofs.Working.{range-fits}
use Rattle.fill_stretches.proofs.OneCell.{first-index, first_range, one-stretched}
use Rattle.fill_stretches.proofs.fill_one_cell.Goals as goal
use Rattle.fill_stretches.proofs.fill_one_cell.Goals.{After-stretch_end-t, Start}

abbrev first : Start → ℤ
first s = get_or s.args.pool.now s.args.start (pos 0)

first_small : (s : Start) → in_range (first s) ≡ true
first_small s = first_range _ _ _ _ _ _ _ s.requires.room s.requires.period_value

first_fits : (s : Start) → SFits w32 (first s)
first_fits s = range-fits (first s) (first_small s)

pub slice_copy_out-first : goal.slice_copy_out-first
slice_copy_out-first c = first-index _ _ _ _ _ _ _ c.requires.room c.requires.period_value

pub overflow_cast-first : goal.overflow_cast-first
overflow_cast-first c = let f = first_fits (goal.at.overflow_cast-first c).Start in simp plain (widened f)

pub stretch_end-t-requires : goal.stretch_end-t-requires
stretch_end-t-requires c =
    let s = (goal.at.stretch_end-t-requires c).Start in
    let f = first_fits s in
    let r = s.requires.room in
    simp plain
    (record { label = first_small s; in-room = s.requires.follows.in-room; few = omega (arith, r.room, r.few) })

pub returns : goal.returns
returns c =
    let e = (goal.at.returns c).After-stretch_end-t in
    let s = (goal.at.After-stretch_end-t e).Start in
    let f = first_fits s in
    let g = s.ranges.cell in
    let h = s.ranges.high in
    let x = simp plain at e.stretch_end-t.ensures in
    let r = s.requires.room in
    let t : e.stretch_end-t.result < 2 ^ 63 = omega (arith, x.in-room, r.room, r.few) in
    let w = simp plain at c.fill_cells.ensures in
    simp plain
    (one-stretched _ _ _ _ _ _ _ r s.requires.period_value _ _ s.args.from e.stretch_end-t.result _ x w)
