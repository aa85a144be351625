-- `fill_by_granule::selecting::kept` meets its contract.
-- Assumes nothing.
use mathlib.Core.Path.{sym, ap}
use lib.IntN.{pos}
use mir.Facts.{sfits_lit}
use mir.Syntax.{w64}
use Rattle.integers.proofs.Machine.{plain, test-eq}
use Rattle.calendar.specs.Lists.{only}
use Rattle.granules.proofs.Tests.{equal-iff, false-iff}
use Rattle.fill_by_granule.proofs.selecting.kept.Goals as goal
use Rattle.fill_by_granule.proofs.selecting.kept.Goals.{Start}

pub returns-then-holds-eq1 : goal.returns-then-holds-eq1
returns-then-holds-eq1 c =
    let s = (goal.at.returns-then-holds-eq1 c).Start in
    let j = s.ranges.j in
    let e = (test-eq w64 s.args.holds (pos 1) s.ranges.holds (sfits_lit tt)).0 c.if-holds-eq1.true in
    simp plain (ap (only s.args.j) (sym ((equal-iff s.args.holds (pos 1)).1 e)))

pub returns-else-holds-eq1 : goal.returns-else-holds-eq1
returns-else-holds-eq1 c =
    let s = (goal.at.returns-else-holds-eq1 c).Start in
    let e = (false-iff (equal-iff s.args.holds (pos 1))).1 (λ z. c.if-holds-eq1.false ((test-eq w64 s.args.holds (pos 1) s.ranges.holds (sfits_lit tt)).1 z)) in
    ap (only s.args.j) (sym e)
