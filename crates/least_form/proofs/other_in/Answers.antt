-- `least_form::other_in` meets its contract. The loop keeps that each cell it has passed is repeated.
-- Assumes nothing.
use Rattle.std.specs.Prelude.{true, false}
use native.Mathlib.Omega.{arith}
use mir.Facts.{to_z-of_z}
use Rattle.granules.proofs.Tests.{true≢false}
use Rattle.least_form.proofs.other_in.Goals as goal

pub returns-then-not-is_repeated : goal.returns-then-not-is_repeated
returns-then-not-is_repeated c =
    let r = to_z-of_z c.ranges.rise in
    record {
      within = omega arith;
      before = rw r at c.loop-t.invariant;
      other = λ l h. true≢false (c.is_repeated.ensures.1 (rw r h)) c.if-not-is_repeated.true;
    }

pub returns : goal.returns
returns c =
    let r = to_z-of_z c.ranges.rise in
    record { within = omega arith; before = λ t h. rw r at (c.loop-t.invariant t (omega arith)); other = λ l h. absurd (omega arith) }
