-- `least_form::is_repeated` meets its contract: the test of the two cells that were read.
-- Assumes nothing.
use borrow.Author.Rules.{sfits_of}
use Prim.Native.Nat.{◌+◌}
use native.Mathlib.Omega.{arith}
use lib.IntN.{pos}
use lib.ListN.{get_or}
use lib.Signed.{◌≤ℤ◌}
use mir.Facts.{to_z-of_z}
use mir.Syntax.{w32}
use mir.Val.{SFits}
use Rattle.calendar.specs.Limits.{label_limit}
use Rattle.calendar.specs.Meaning.{empty}
use Rattle.granules.proofs.Lists.{get_d_any}
use Rattle.least_form.proofs.Cells.{cell-test}
use Rattle.least_form.proofs.is_repeated.Goals as goal
use Rattle.least_form.proofs.is_repeated.Goals.{Start}

pub is_raised-requires : goal.is_raised-requires
is_raised-requires c =
    let s = (goal.at.is_raised-requires c).Start in
    let l = s.args.cells.now in
    let t = s.args.t in
    let fa : SFits w32 (get_or l t (pos 0)) = sfits_of c.is_raised-arg-1.given in
    let low : get_or l t (pos 0) ≤ℤ label_limit = rw (get_d_any l t (pos 0) empty (omega arith)) (s.requires.rise.1 t) in
    rw (to_z-of_z s.ranges.rise, to_z-of_z fa) (s.requires.rise.0, low)

pub returns : goal.returns
returns c =
    let s = (goal.at.returns c).Start in
    let l = s.args.cells.now in
    let t = s.args.t in
    let q = s.args.q in
    let fa : SFits w32 (get_or l t (pos 0)) = sfits_of c.is_raised-arg-1.given in
    let fb : SFits w32 (get_or l (t + q) (pos 0)) = sfits_of c.is_raised-arg-2-1.given in
    cell-test l t q s.args.rise c.is_raised.result s.requires.q_in_bounds
    (rw (to_z-of_z s.ranges.rise, to_z-of_z fa, to_z-of_z fb) at c.is_raised.ensures)
