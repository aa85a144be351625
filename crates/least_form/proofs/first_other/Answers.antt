-- `least_form::first_other` meets its contract. The loop keeps that each cell of the blocks passed is repeated; the first block
-- with one that is not ends it, and the cell is found there.
-- Assumes nothing.
use Prim.Native.Nat.{ℕ}
use native.Mathlib.Omega.{arith}
use mir.Facts.{to_z-of_z}
use mir.Syntax.{w32}
use mir.Val.{of_z, to_z}
use Rattle.least_form.specs.Cells.{RepeatsAt}
use Rattle.least_form.proofs.Cells.{joined, first-less}
use Rattle.least_form.proofs.first_other.Goals as goal
use Rattle.least_form.proofs.first_other.Goals.{After-others_in, At-loop-t, Start}

-- the cell t is repeated
abbrev At : Start → ℕ → Type 0
At s = RepeatsAt s.args.cells.now s.args.q (to_z w32 (of_z w32 s.args.rise))

pub loop-t-init : goal.loop-t-init
loop-t-init c = record { whole = omega arith; within = omega arith; passed = λ k h. absurd (omega arith) }

pub others_in-requires : goal.others_in-requires
others_in-requires c =
    let s = (goal.at.others_in-requires c).Start in
    record { start_le_end = omega arith; rise = rw (to_z-of_z s.ranges.rise) s.requires.rise }

pub other_in-requires : goal.other_in-requires
other_in-requires c =
    let s = (goal.at.other_in-requires c).Start in
    record { start_le_end = omega arith; rise = rw (to_z-of_z s.ranges.rise) s.requires.rise }

pub returns-then-others_in-ne0 : goal.returns-then-others_in-ne0
returns-then-others_in-ne0 c =
    let b = (goal.at.returns-then-others_in-ne0 c).After-others_in in
    let a = (goal.at.After-others_in b).At-loop-t in
    let s = (goal.at.At-loop-t a).Start in
    let r = to_z-of_z s.ranges.rise in
    let first = c.other_in.ensures in
    let less = first-less _ _ _ _ _ _ first (λ h. c.if-others_in-ne0.true (b.others_in.ensures.1 h)) in
    record {
      within = omega arith;
      before = λ k h l. rw r at (joined (At s) a.loop-t.t _ a.loop-t.invariant.passed first.before k h);
      other = λ l h. first.other less (rw r h);
    }

pub loop-t-preserved : goal.loop-t-preserved
loop-t-preserved c =
    let b = (goal.at.loop-t-preserved c).After-others_in in
    let a = (goal.at.After-others_in b).At-loop-t in
    record {
      whole = omega arith;
      within = omega arith;
      passed = joined (At (goal.at.At-loop-t a).Start) a.loop-t.t _ a.loop-t.invariant.passed (b.others_in.ensures.0 c.if-others_in-ne0.false);
    }

pub returns : goal.returns
returns c =
    let k = c.loop-t in
    let r = to_z-of_z c.ranges.rise in
    record {
      within = omega arith;
      before = λ t h l. rw r at (k.invariant.passed t h);
      other = λ l h. absurd (omega arith);
    }
