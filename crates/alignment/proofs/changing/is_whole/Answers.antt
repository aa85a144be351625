-- `alignment::changing::is_whole` meets its contract: there are as many labels as cells.
-- Assumes nothing.
use mathlib.Core.Path.{◌≡◌}
use native.Mathlib.Omega.{arith}
use borrow.Author.Rules.{sfits_of}
use lib.ListN.{length}
use mir.Syntax.{w64}
use mir.Val.{of_z}
use Rattle.integers.specs.Parts.{up}
use Rattle.integers.proofs.Linear.{ints, ◌∴◌}
use Rattle.integers.proofs.Machine.{test-eq}
use Rattle.calendar.specs.Questions.{given}
use Rattle.calendar.specs.Sound.{labels_of}
use Rattle.granules.proofs.Tests.{eqb-iff}
use Rattle.cursors.proofs.Numbers.{numbers, valid}
use Rattle.alignment.proofs.Changes.{all_whole}
use Rattle.alignment.proofs.changing.is_whole.Goals as goal
use Rattle.alignment.proofs.changing.is_whole.Goals.{Start}

pub returns : goal.returns
returns c h =
    let s = (goal.at.returns c).Start in
    let p = s.args.period in
    let l = s.args.cells.now in
    let r = c.labelled_instants.result in
    let e : r ≡ p = (test-eq w64 r p (sfits_of c.labelled_instants.type_inv) s.ranges.period).0 ((eqb-iff (of_z w64 r) (of_z w64 p)).0 h) in
    let n = numbers p s.args.distance l s.requires in
    let m : length (labels_of l) ≡ up p = c.labelled_instants.ensures ∴ e ∴ n.period-is ∴ simp ints (omega arith) in
    all_whole (given p s.args.distance l) (valid p s.args.distance l s.requires) m
