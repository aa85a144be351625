-- `alignment::labelled_instant` meets its contract: it is the first instant that has a label.
-- Assumes nothing.
use mathlib.Core.Path.{sym, ◌∙◌, ap, subst}
use Prim.Native.Nat.{◌^◌, ◌<◌}
use native.Mathlib.Omega.{arith}
use lib.IntN.{pos}
use mir.Facts.{to_z_pos}
use mir.Syntax.{w64}
use Rattle.integers.proofs.Linear.{ints, ◌∴◌}
use Rattle.calendar.specs.Questions.{given}
use Rattle.cursors.proofs.Numbers.{numbers}
use Rattle.row_check.proofs.Instants.{has-label}
use Rattle.row_check.proofs.Leading.{leading-label}
use Rattle.alignment.specs.Pass.{Starts}
use Rattle.alignment.proofs.labelled_instant.Goals as goal
use Rattle.alignment.proofs.labelled_instant.Goals.{After-leading, Start}

few : (c : After-leading) → c.leading.result < 2 ^ 63
few c =
    let s = (goal.at.After-leading c).Start in
    let n = numbers s.args.period s.args.distance s.args.cells.now s.requires in
    omega (arith, has-label s.args.period s.args.distance s.args.cells.now s.requires, n.whole, n.high, c.leading.ensures)

pub overflow_cast-result : goal.overflow_cast-result
overflow_cast-result c = few c ∴ simp ints (omega arith)

pub returns : goal.returns
returns c =
    let s = (goal.at.returns c).Start in
    let l = s.args.cells.now in
    let n = numbers s.args.period s.args.distance l s.requires in
    let e = to_z_pos w64 (few c) ∙ ap pos c.leading.ensures in
    subst (Starts (given s.args.period s.args.distance l)) (sym e) (record {
      low = simp ints (omega arith);
      high = has-label s.args.period s.args.distance l s.requires ∴ n.whole ∴ simp ints (omega arith);
      labelled = (_, leading-label s.args.period s.args.distance l s.requires);
    })
