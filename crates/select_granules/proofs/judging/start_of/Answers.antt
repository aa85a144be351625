-- `select_granules::judging::start_of` meets its contract: it is t, or what `began` finds.
-- Assumes nothing.
use mathlib.Core.Path.{◌≡◌, sym, subst}
use mathlib.Core.Bool.{Bool}
use lib.IntN.{ℤ}
use Rattle.integers.proofs.Machine.{plain}
use Rattle.calendar.specs.Meaning.{Row}
use Rattle.calendar.specs.Questions.{given}
use Rattle.select_granules.specs.Meeting.{StartsAt}
use Rattle.select_granules.proofs.judging.start_of.Goals as goal
use Rattle.select_granules.proofs.judging.start_of.Goals.{Start}

abbrev a-row : Start → Row
a-row s = given s.args.a_period s.args.a_distance s.args.a_cells.now

started : (s : Start) (w : Bool) (u : ℤ) → s.args.whole ≡ w → StartsAt w (a-row s) s.args.j s.args.t u → StartsAt s.args.whole (a-row s) s.args.j s.args.t u
started s w u e h = subst (λ (z : Bool). StartsAt z (a-row s) s.args.j s.args.t u) (sym e) h

pub returns-clause-at : goal.returns-clause-at
returns-clause-at c =
    let s = (goal.at.returns-clause-at c).Start in
    let p = s.ranges.a_period in
    let n = s.ranges.a_distance in
    let j = s.ranges.j in
    started s _ _ c.if-whole.false (simp plain at c.began.ensures.at)
