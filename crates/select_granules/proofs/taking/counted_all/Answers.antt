-- `select_granules::taking::counted_all` meets its contract: a tally up to one more than there can be
-- has counted all, and its greatest is the last.
-- Assumes nothing.
use mathlib.Core.Path.{refl, ◌∙◌}
use mathlib.Core.List.{List}
use native.Mathlib.Omega.{arith}
use lib.IntN.{ℤ, pos, ◌+ℤ◌}
use mir.Syntax.{w64}
use mir.Val.{SFits}
use Rattle.integers.proofs.Linear.{ints, ◌∴◌}
use Rattle.integers.proofs.Machine.{plain}
use Rattle.calendar.specs.Questions.{given}
use Rattle.cursors.proofs.Numbers.{Numbers, numbers}
use Rattle.candidates.specs.Tallies.{candidates, tally_of}
use Rattle.candidates.proofs.Tallying.{tally-fields}
use Rattle.select_granules.proofs.Starts.{all-last}
use Rattle.select_granules.proofs.taking.counted_all.Goals as goal
use Rattle.select_granules.proofs.taking.counted_all.Goals.{Start}

-- the granules in question
abbrev asked : Start → List ℤ
asked s =
    candidates s.args.whole (given s.args.a_period s.args.a_distance s.args.a_cells.now)
    (given s.args.b_period s.args.b_distance s.args.b_cells.now) s.args.i

b-numbers : (s : Start) → Numbers s.args.b_period s.args.b_distance s.args.b_cells.now
b-numbers s = numbers s.args.b_period s.args.b_distance s.args.b_cells.now s.requires.sound_2

-- one more than there can be
abbrev more : Start → ℤ
more s = s.args.b_period +ℤ pos 1

more-fits : (s : Start) → SFits w64 (more s)
more-fits s = let n = b-numbers s in n.period-is ∴ n.high ∴ simp ints (omega arith)

pub overflow_add-b_period : goal.overflow_add-b_period
overflow_add-b_period c =
    let s = (goal.at.overflow_add-b_period c).Start in
    let q = s.ranges.b_period in
    simp plain (more-fits s)

pub returns : goal.returns
returns c =
    let s = (goal.at.returns c).Start in
    let p = s.ranges.a_period in
    let n = s.ranges.a_distance in
    let q = s.ranges.b_period in
    let m = s.ranges.b_distance in
    let i = s.ranges.i in
    let o = more-fits s in
    let e = simp plain at c.tallied.ensures in
    let few = e.few.1 in
    let count = e.count (few ∴ simp ints (omega arith)) in
    let f = tally-fields (pos 1) (more s) (asked s) (tally_of (pos 1) (more s) (asked s)) refl in
    record { count = count; last = e.high ∙ f.high_is ∙ all-last (more s) (asked s) (count ∴ few ∴ simp ints (omega arith)); few = few }
