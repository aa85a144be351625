-- `alter_granules::start` meets its contract: the walk starts at the first labelled instant, and the instant behind at 0.
-- Assumes nothing.
use borrow.Author.Rules.{sfits_of}
use mathlib.Core.Path.{◌≡◌, sym, subst}
use native.Mathlib.Omega.{arith}
use lib.IntN.{ℤ}
use lib.Signed.{◌≤ℤ◌, ◌<ℤ◌}
use mir.Syntax.{w64}
use mir.Val.{SFits}
use Rattle.integers.proofs.Linear.{ints, ◌∴◌}
use Rattle.integers.proofs.Machine.{plain}
use Rattle.calendar.specs.Meaning.{Row}
use Rattle.calendar.specs.Questions.{given}
use Rattle.alter_granules.specs.declared.ahead.Walk.{Walk}
use Rattle.alter_granules.specs.declared.origin.Labelled.{Labelled}
use Rattle.alter_granules.specs.Follows.{begins, Holds, CoarseWalk, Opens, Starts}
use Rattle.alter_granules.proofs.Followed.{opens-same, start-before, start-on, passed_start, follows-start}
use Rattle.alter_granules.proofs.start.Goals as goal
use Rattle.alter_granules.proofs.start.Goals.{After-advance_to-walk, After-struct_told-1, Start}

abbrev a-row : Start → Row
a-row s = given s.args.a_period s.args.a_distance s.args.a_cells.now

abbrev b-row : Start → Row
b-row s = given s.args.b_period s.args.b_distance s.args.b_cells.now

-- the walk, and the first label
abbrev Told : Type 0
Told = After-struct_told-1

abbrev begun : Told → Start
begun c = (goal.at.After-struct_told-1 c).Start

abbrev walk : Told → Walk
walk c = c.start_walk-start.result

abbrev first : Told → Labelled
first c = c.first_labelled.result

starts : (c : Told) → let s = begun c in Starts s.args.by (a-row s) (b-row s) (walk c)
starts c =
    let s = begun c in
    let p = s.ranges.a_period in
    let n = s.ranges.a_distance in
    let q = s.ranges.b_period in
    let m = s.ranges.b_distance in
    simp plain at c.start_walk-start.ensures

opens : (c : Told) → Opens (a-row (begun c)) (first c)
opens c =
    let s = begun c in
    let p = s.ranges.a_period in
    let n = s.ranges.a_distance in
    simp plain at c.first_labelled.ensures

same : (c : Told) → (starts c).first.j ≡ (first c).j
same c = opens-same (a-row (begun c)) (starts c).first (first c) (starts c).opens (opens c)

j-fits : (c : Told) → SFits w64 (first c).j
j-fits c = sfits_of c.struct_told-1.given.1.0.1

pub advance_to-walk-requires : goal.advance_to-walk-requires
advance_to-walk-requires c =
    let s = begun c in
    let h = starts c in
    let g = s.requires.alterable in
    let p = s.ranges.a_period in
    let n = s.ranges.a_distance in
    let q = s.ranges.b_period in
    let m = s.ranges.b_distance in
    let j = j-fits c in
    let low : begins s.args.by (a-row s) (b-row s) (walk c).label ≤ℤ (first c).j = h.reached ∴ same c ∴ simp ints (omega arith) in
    let high : (first c).j <ℤ (walk c).end = same c ∴ start-before s.args.by s.args.repeat (a-row s) (b-row s) g (walk c) h ∴ simp ints (omega arith) in
    record {
      sound = simp plain s.requires.sound;
      sound_2 = simp plain s.requires.sound_2;
      altering = simp plain (s.args.repeat, g);
      coarse_walk = simp plain h.walk;
      label_bound = simp plain (low, high);
    }

pub returns : goal.returns
returns c =
    let w = (goal.at.returns c).After-advance_to-walk in
    let d = (goal.at.After-advance_to-walk w).After-struct_told-1 in
    let s = begun d in
    let p = s.ranges.a_period in
    let n = s.ranges.a_distance in
    let q = s.ranges.b_period in
    let m = s.ranges.b_distance in
    let j = j-fits d in
    let v = w.advance_to-walk.result in
    let r = w.advance_to-walk.ensures in
    let walks : CoarseWalk s.args.by (a-row s) (b-row s) v = simp plain at r.walks in
    let holds : Holds s.args.by (a-row s) (b-row s) (first d).j v.label = simp plain at r.has in
    let has = subst (λ (i : ℤ). Holds s.args.by (a-row s) (b-row s) i v.label) (sym (same d)) holds in
    let on = start-on s.args.by s.args.repeat (a-row s) (b-row s) s.requires.alterable (walk d) v (starts d) walks has r.end in
    record {
      follows = follows-start s.args.by s.args.repeat (a-row s) (b-row s) s.requires.alterable v c.cursor_at.result on (simp plain at c.cursor_at.ensures);
      passed = passed_start s.args.by s.args.repeat (a-row s) (b-row s) s.requires.alterable (walk d) v (starts d) walks has;
    }
