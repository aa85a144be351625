-- `alter_granules::ahead::advance` meets its contract: the walk stays where j is before the next altered granule, and else takes that one.
-- Assumes nothing.
use borrow.Author.Rules.{sfits_of}
use mathlib.Core.Path.{refl, ap}
use native.Mathlib.Omega.{arith}
use lib.IntN.{ℤ, pos, ◌+ℤ◌}
use lib.Signed.{◌≤ℤ◌, ◌<ℤ◌}
use mir.Syntax.{w64}
use mir.Val.{SFits}
use Rattle.integers.proofs.Linear.{ints, ◌∴◌}
use Rattle.integers.proofs.Machine.{plain}
use Rattle.calendar.specs.Meaning.{Row}
use Rattle.calendar.specs.Questions.{given}
use Rattle.alter_granules.specs.CoarseBegins.{CoarseBegins}
use Rattle.alter_granules.specs.Follows.{Altering, begins, CoarseWalk, Steps}
use Rattle.alter_granules.proofs.Tiled.{begins-rise}
use Rattle.alter_granules.proofs.Walking as walking
use Rattle.alter_granules.proofs.ahead.advance.Goals as goal
use Rattle.alter_granules.proofs.ahead.advance.Goals.{After-following-begin, After-struct_told-1, Else-j-from, Start}

abbrev a-row : Start → Row
a-row s = given s.args.a_period s.args.a_distance s.args.a_cells.now

abbrev b-row : Start → Row
b-row s = given s.args.b_period s.args.b_distance s.args.b_cells.now

altering : (s : Start) → Altering s.args.by (a-row s) (b-row s)
altering s = s.requires.altering

walks : (s : Start) → CoarseWalk s.args.by (a-row s) (b-row s) s.args.from
walks s = s.requires.coarse_walk

low : (s : Start) → begins s.args.by (a-row s) (b-row s) s.args.from.label ≤ℤ s.args.j
low s = s.requires.label_bound.0

before-end : (s : Start) → s.args.j <ℤ s.args.from.end
before-end s = s.requires.label_bound.1

at-most : (s : Start) → s.args.j ≤ℤ s.args.from.next
at-most s = s.requires.j_le_next

next_fits : (c : After-struct_told-1) → SFits w64 c.args.from.next
next_fits c = sfits_of c.struct_told-1.given.1.0.1

-- ---- j is before the next one
pub returns-then-j-from : goal.returns-then-j-from
returns-then-j-from c =
    let s = (goal.at.returns-then-j-from c).Start in
    let w = walks s in
    let n = next_fits (goal.at.returns-then-j-from c).After-struct_told-1 in
    let j = s.ranges.j in
    let h : s.args.j <ℤ s.args.from.next = simp plain at c.if-j-from.true in
    record {
      walks = w;
      has = (low s, w.next ∴ h ∴ simp ints (omega arith));
      end = refl;
    }

-- ---- it is the first of the next one
abbrev start : Else-j-from → Start
start c = (goal.at.Else-j-from c).Start

next_low : (c : Else-j-from) → (start c).args.from.next ≤ℤ (start c).args.j
next_low c =
    let n = next_fits (goal.at.Else-j-from c).After-struct_told-1 in
    let j = (start c).ranges.j in
    simp plain at c.if-j-from.false

pub following-begin-requires : goal.following-begin-requires
following-begin-requires c =
    let s = (goal.at.following-begin-requires c).Start in
    let p = s.ranges.a_period in
    let n = s.ranges.a_distance in
    let q = s.ranges.b_period in
    let m = s.ranges.b_distance in
    let r = (altering s).1.ready in
    let near =
    walking.place s.args.by s.args.a_period s.args.a_distance s.args.b_period s.args.b_distance s.args.a_cells.now s.args.b_cells.now s.requires.sound s.requires.sound_2 (altering s) s.args.from (walks s) in
    record {
      sound = simp plain s.requires.sound;
      sound_2 = simp plain s.requires.sound_2;
      full = simp plain r.full;
      partition = simp plain r.aligned;
      coarse_begins = simp plain ((walks s).begin);
      within = simp plain near;
    }

steps : (c : After-following-begin) → let s = start (goal.at.After-following-begin c).Else-j-from in Steps s.args.by (a-row s) (b-row s) s.args.from c.following-begin.result
steps c =
    let s = start (goal.at.After-following-begin c).Else-j-from in
    let p = s.ranges.a_period in
    let n = s.ranges.a_distance in
    let q = s.ranges.b_period in
    let m = s.ranges.b_distance in
    let k : CoarseBegins (a-row s) (b-row s) c.following-begin.result = simp plain at c.following-begin.ensures.begins in
    walking.steps s.args.by s.args.a_period s.args.a_distance s.args.b_period s.args.b_distance s.args.a_cells.now s.args.b_cells.now s.requires.sound s.requires.sound_2 (altering s)
    s.args.from c.following-begin.result (walks s) (next_low (goal.at.After-following-begin c).Else-j-from ∴ before-end s ∴ simp ints (omega arith)) k c.following-begin.ensures.of

pub stepped-requires : goal.stepped-requires
stepped-requires c = let s = start (goal.at.stepped-requires c).Else-j-from in (a-row s, b-row s, steps c)

pub returns : goal.returns
returns c =
    let f = (goal.at.returns c).After-following-begin in
    let s = start (goal.at.After-following-begin f).Else-j-from in
    let w = walks s in
    let t = c.stepped.ensures (a-row s) (b-row s) (steps f) in
    let e = ap (begins s.args.by (a-row s) (b-row s)) t.label in
    let d = ap (λ (l : ℤ). begins s.args.by (a-row s) (b-row s) (l +ℤ pos 1)) t.label in
    let r = begins-rise s.args.by (a-row s) (b-row s) (altering s) (s.args.from.label +ℤ pos 1) in
    record {
      walks = t.walk;
      has = (e ∴ w.next ∴ next_low (goal.at.After-following-begin f).Else-j-from ∴ simp ints (omega arith), d ∴ w.next ∴ at-most s ∴ r ∴ simp ints (omega arith));
      end = t.end;
    }
