-- `alignment::partitions` meets its contract: by the changes of b where every instant has a label, and else by the pass over all instants.
-- Assumes nothing.
use mir.Syntax.{w64}
use mir.Val.{to_z, of_z}
use Rattle.integers.proofs.Machine.{plain}
use Rattle.calendar.specs.Operation.Alignment.{partition}
use Rattle.calendar.specs.Questions.{given}
use Rattle.cursors.specs.Found.{Sound}
use Rattle.alignment.specs.Pass.{Spanned}
use mathlib.Core.Path.{◌∙◌}
use Rattle.alignment.proofs.Read.{aligned-read}
use Rattle.alignment.proofs.partitions.Goals as goal
use Rattle.alignment.proofs.partitions.Goals.{After-is_whole, After-is_whole-then-is_whole, Start}

-- the rows and the span as the machine has them
as_read : (s : Start) → let a = s.args in
    Sound (to_z w64 (of_z w64 a.a_period)) (to_z w64 (of_z w64 a.a_distance)) a.a_cells.now
    × Sound (to_z w64 (of_z w64 a.b_period)) (to_z w64 (of_z w64 a.b_distance)) a.b_cells.now
    × Spanned (given (to_z w64 (of_z w64 a.a_period)) (to_z w64 (of_z w64 a.a_distance)) a.a_cells.now)
    (given (to_z w64 (of_z w64 a.b_period)) (to_z w64 (of_z w64 a.b_distance)) a.b_cells.now) (to_z w64 (of_z w64 a.span))
as_read s =
    let p = s.ranges.a_period in
    let n = s.ranges.a_distance in
    let q = s.ranges.b_period in
    let m = s.ranges.b_distance in
    let t = s.ranges.span in
    simp plain (s.requires.sound, s.requires.sound_2, s.requires.spanned)

pub is_whole-requires : goal.is_whole-requires
is_whole-requires s = (as_read s).0

pub is_whole-requires-then-is_whole : goal.is_whole-requires-then-is_whole
is_whole-requires-then-is_whole c = (as_read (goal.at.is_whole-requires-then-is_whole c).Start).1

pub changes_with-requires : goal.changes_with-requires
changes_with-requires c =
    let b = (goal.at.changes_with-requires c).After-is_whole-then-is_whole in
    let a = (goal.at.After-is_whole-then-is_whole b).After-is_whole in
    let h = as_read (goal.at.After-is_whole a).Start in
    record { sound = h.0; sound_2 = h.1; spanned = h.2; whole = a.is_whole.ensures b.if-is_whole.true; whole_2 = b.is_whole-then-is_whole.ensures c.if-is_whole-2.true }

pub returns-then-is_whole-2 : goal.returns-then-is_whole-2
returns-then-is_whole-2 c =
    let s = (goal.at.returns-then-is_whole-2 c).Start in
    let p = s.ranges.a_period in
    let n = s.ranges.a_distance in
    let q = s.ranges.b_period in
    let m = s.ranges.b_distance in
    c.changes_with.ensures ∙ aligned-read partition s.args.a_period s.args.a_distance s.args.b_period s.args.b_distance s.args.a_cells.now s.args.b_cells.now p n q m

pub pass-requires : goal.pass-requires
pass-requires c =
    let h = as_read (goal.at.pass-requires c).Start in
    record { sound = h.0; sound_2 = h.1; spanned = h.2; rise_alike = tt }

pub returns : goal.returns
returns c =
    let s = (goal.at.returns c).Start in
    let p = s.ranges.a_period in
    let n = s.ranges.a_distance in
    let q = s.ranges.b_period in
    let m = s.ranges.b_distance in
    c.pass.ensures ∙ aligned-read partition s.args.a_period s.args.a_distance s.args.b_period s.args.b_distance s.args.a_cells.now s.args.b_cells.now p n q m
