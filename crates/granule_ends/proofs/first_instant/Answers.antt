-- `granule_ends::first_instant` meets its contract: it is the end on the way back.
-- Assumes nothing.
use borrow.Author.Rules.{sfits_of}
use mir.Syntax.{w64}
use mir.Val.{SFits}
use Rattle.integers.proofs.Machine.{plain}
use Rattle.granule_ends.proofs.first_instant.Goals as goal
use Rattle.granule_ends.proofs.first_instant.Goals.{Start}

pub returns : goal.returns
returns c =
    let s = (goal.at.returns c).Start in
    let p = s.ranges.period in
    let d = s.ranges.distance in
    let t = s.ranges.t in
    let f : SFits w64 c.end_instant.result = sfits_of c.end_instant.type_inv in
    simp plain (simp plain at c.end_instant.ensures)
