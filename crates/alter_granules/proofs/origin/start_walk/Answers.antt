-- `alter_granules::origin::start_walk` meets its contract: the first labelled instant, b's granule there and the next one are what the walk starts from.
-- Assumes nothing.
use mathlib.Core.Path.{◌≡◌}
use mathlib.Core.Option.{some}
use native.Mathlib.Omega.{arith}
use lib.IntN.{pos, ◌+ℤ◌, ◌-ℤ◌}
use lib.Signed.{◌≤ℤ◌, ◌<ℤ◌}
use mir.Syntax.{w64}
use mir.Val.{SFits}
use Rattle.integers.proofs.Linear.{ints, ◌∴◌}
use Rattle.integers.proofs.Machine.{plain}
use Rattle.calendar.specs.Meaning.{Row, meant}
use Rattle.calendar.specs.Questions.{given}
use Rattle.cursors.proofs.Numbers.{Numbers, numbers}
use Rattle.alter_granules.specs.declared.coarse.Begin.{Begin}
use Rattle.alter_granules.specs.declared.origin.Labelled.{Labelled}
use Rattle.alter_granules.specs.Given.{Alterable}
use Rattle.alter_granules.specs.CoarseBegins.{at, CoarseBegins}
use Rattle.alter_granules.specs.Follows.{Opens, Opened}
use Rattle.alter_granules.proofs.Started.{opened}
use Rattle.alter_granules.proofs.origin.start_walk.Goals as goal
use Rattle.alter_granules.proofs.origin.start_walk.Goals.{After-begin_at-from, After-first_labelled-first, After-following-begin, Start}

abbrev a-row : Start → Row
a-row s = given s.args.a_period s.args.a_distance s.args.a_cells.now

abbrev b-row : Start → Row
b-row s = given s.args.b_period s.args.b_distance s.args.b_cells.now

alterable : (s : Start) → Alterable s.args.by s.args.repeat (a-row s) (b-row s)
alterable s = s.requires.alterable

a-numbers : (s : Start) → Numbers s.args.a_period s.args.a_distance s.args.a_cells.now
a-numbers s = numbers s.args.a_period s.args.a_distance s.args.a_cells.now s.requires.sound

b-numbers : (s : Start) → Numbers s.args.b_period s.args.b_distance s.args.b_cells.now
b-numbers s = numbers s.args.b_period s.args.b_distance s.args.b_cells.now s.requires.sound_2

-- the first labelled instant
abbrev first : After-first_labelled-first → Labelled
first c = c.first_labelled-first.result

opens : (c : After-first_labelled-first) → Opens (a-row (goal.at.After-first_labelled-first c).Start) (first c)
opens c =
    let s = (goal.at.After-first_labelled-first c).Start in
    let p = s.ranges.a_period in
    let n = s.ranges.a_distance in
    simp plain at c.first_labelled-first.ensures

first_fits : (c : After-first_labelled-first) → SFits w64 (first c).t
first_fits c = (opens c).low ∴ (opens c).high ∴ (a-numbers (goal.at.After-first_labelled-first c).Start).high ∴ simp ints (omega arith)

pub begin_at-from-requires : goal.begin_at-from-requires
begin_at-from-requires c =
    let f = (goal.at.begin_at-from-requires c).After-first_labelled-first in
    let s = (goal.at.After-first_labelled-first f).Start in
    let p = s.ranges.a_period in
    let n = s.ranges.a_distance in
    let q = s.ranges.b_period in
    let m = s.ranges.b_distance in
    let t = first_fits f in
    let r = (alterable s).ready in
    let o = opens f in
    let h = (a-numbers s).high in
    record {
      sound = simp plain s.requires.sound;
      sound_2 = simp plain s.requires.sound_2;
      full = simp plain r.full;
      partition = simp plain r.aligned;
      within = simp plain (o.low ∴ simp ints (omega arith), o.high ∴ h ∴ simp ints (omega arith));
      t_value = simp plain ((r.aligned.labelled (first f).t).0 ((first f).j, o.label));
    }

-- where b's granule of that instant begins
abbrev told : After-begin_at-from → After-first_labelled-first
told c = (goal.at.After-begin_at-from c).After-first_labelled-first

abbrev from : After-begin_at-from → Begin
from c = c.begin_at-from.result

abbrev From : Start → Labelled → Begin → Type 0
From s f c =
    CoarseBegins (a-row s) (b-row s) c
    × ((meant (b-row s) f.t ≡ some c.i) × (((f.t -ℤ s.args.b_period) ≤ℤ at (b-row s) c) × (at (b-row s) c ≤ℤ f.t)))

from_is : (c : After-begin_at-from) → From (told c).before (first (told c)) (from c)
from_is c =
    let s = (told c).before in
    let p = s.ranges.a_period in
    let n = s.ranges.a_distance in
    let q = s.ranges.b_period in
    let m = s.ranges.b_distance in
    let t = first_fits (told c) in
    let e = c.begin_at-from.ensures in
    (simp plain at e.begins, (simp plain at e.of, simp plain at e.near))

pub following-begin-requires : goal.following-begin-requires
following-begin-requires c =
    let f = told c in
    let s = (goal.at.After-first_labelled-first f).Start in
    let p = s.ranges.a_period in
    let n = s.ranges.a_distance in
    let q = s.ranges.b_period in
    let m = s.ranges.b_distance in
    let r = (alterable s).ready in
    let o = opens f in
    let k = from_is c in
    let h = (a-numbers s).high in
    let l = b-numbers s in
    record {
      sound = simp plain s.requires.sound;
      sound_2 = simp plain s.requires.sound_2;
      full = simp plain r.full;
      partition = simp plain r.aligned;
      coarse_begins = simp plain k.0;
      within = simp plain (k.1.1.0 ∴ o.low ∴ l.period-is ∴ l.high ∴ simp ints (omega arith), k.1.1.1 ∴ o.high ∴ h ∴ simp ints (omega arith));
    }

-- where the next one does
abbrev begin : After-following-begin → Begin
begin c = c.following-begin.result

abbrev Next : Start → Begin → Begin → Type 0
Next s k c =
    CoarseBegins (a-row s) (b-row s) c
    × ((c.i ≡ k.i +ℤ pos 1) × ((at (b-row s) k <ℤ at (b-row s) c) × (at (b-row s) c ≤ℤ (at (b-row s) k +ℤ s.args.b_period))))

begin-is : (c : After-following-begin) → Next (told (goal.at.After-following-begin c).After-begin_at-from).before (from (goal.at.After-following-begin c).After-begin_at-from) (begin c)
begin-is c =
    let s = (told (goal.at.After-following-begin c).After-begin_at-from).before in
    let p = s.ranges.a_period in
    let n = s.ranges.a_distance in
    let q = s.ranges.b_period in
    let m = s.ranges.b_distance in
    let e = c.following-begin.ensures in
    (simp plain at e.begins, (e.of, simp plain at e.near))

all : (c : After-following-begin) → let f = told (goal.at.After-following-begin c).After-begin_at-from in
    let s = (goal.at.After-first_labelled-first f).Start in
    Opened s.args.by s.args.repeat (a-row s) (b-row s) (first f) (from (goal.at.After-following-begin c).After-begin_at-from) (begin c)
all c =
    let d = (goal.at.After-following-begin c).After-begin_at-from in
    let f = told d in
    let s = (goal.at.After-first_labelled-first f).Start in
    let k = from_is d in
    let l = begin-is c in
    opened s.args.by s.args.repeat s.args.a_period s.args.a_distance s.args.b_period s.args.b_distance s.args.a_cells.now s.args.b_cells.now
    s.requires.sound s.requires.sound_2 (alterable s) (first f) (from d) (begin c) (opens f) k.0 k.1.0 k.1.1 l.0 l.1.0 l.1.1

pub walk_at-requires : goal.walk_at-requires
walk_at-requires c = let s = (told (goal.at.walk_at-requires c).After-begin_at-from).before in (a-row s, b-row s, all c)

pub returns : goal.returns
returns c = let s = (told (goal.at.returns c).After-begin_at-from).before in c.walk_at.ensures (a-row s) (b-row s) (all (goal.at.returns c).After-following-begin)
