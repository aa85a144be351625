-- `containment::inside` meets its contract: t's place is looked at.
-- Assumes nothing.
use borrow.Author.Rules.{sfits_of}
use mathlib.Core.Path.{◌≡◌, sym, ◌∙◌, ap₂}
use mathlib.Core.Option.{some}
use native.Mathlib.Omega.{arith}
use lib.IntN.{ℤ}
use mir.Syntax.{w64}
use mir.Val.{SFits}
use Rattle.integers.proofs.Linear.{ints, ◌∴◌}
use Rattle.integers.proofs.Machine.{plain}
use Rattle.calendar.specs.Meaning.{Row, meant}
use Rattle.calendar.specs.Granules.{inside}
use Rattle.calendar.specs.Questions.{given}
use Rattle.granules.specs.Valid.{Valid}
use Rattle.granules.proofs.Tests.{some_inj}
use Rattle.cursors.specs.Found.{Near}
use Rattle.cursors.specs.Cursor.{cursor_at}
use Rattle.cursors.proofs.Numbers.{valid}
use Rattle.containment.specs.declared.CursorPair.{CursorPair}
use Rattle.containment.specs.Sides.{Overlaps}
use Rattle.containment.proofs.Places.{overlaps}
use Rattle.containment.proofs.inside.Goals as goal
use Rattle.containment.proofs.inside.Goals.{After-cursor_at-a, After-inside_at, After-label_of-i, Start}

abbrev b-row : Start → Row
b-row s = given s.args.b_period s.args.b_distance s.args.b_cells.now

abbrev a-row : Start → Row
a-row s = given s.args.a_period s.args.a_distance s.args.a_cells.now

near : (s : Start) → Near s.args.t
near s = let l = s.requires.labelled in l.1.0 ∴ l.1.1 ∴ simp ints (omega arith)

-- the cursors of t
b-cursor : (c : After-cursor_at-a) → let s = (goal.at.After-cursor_at-a c).Start in c.cursor_at-b.result ≡ cursor_at (b-row s) s.args.t
b-cursor c =
    let s = (goal.at.After-cursor_at-a c).Start in
    let p = s.ranges.b_period in
    let n = s.ranges.b_distance in
    let t = s.ranges.t in
    simp plain at c.cursor_at-b.ensures

a-cursor : (c : After-cursor_at-a) → let s = (goal.at.After-cursor_at-a c).Start in c.cursor_at-a.result ≡ cursor_at (a-row s) s.args.t
a-cursor c =
    let s = (goal.at.After-cursor_at-a c).Start in
    let p = s.ranges.a_period in
    let n = s.ranges.a_distance in
    let t = s.ranges.t in
    simp plain at c.cursor_at-a.ensures

pub label_of-k-requires : goal.label_of-k-requires
label_of-k-requires c =
    let s = (goal.at.label_of-k-requires c).Start in
    let p = s.ranges.b_period in
    let n = s.ranges.b_distance in
    record { sound = simp plain s.requires.sound; shown = simp plain (s.args.t, near s, b-cursor c, s.requires.labelled.0) }

pub label_of-i-requires : goal.label_of-i-requires
label_of-i-requires c =
    let d = (goal.at.label_of-i-requires c).After-cursor_at-a in
    let s = (goal.at.After-cursor_at-a d).Start in
    let p = s.ranges.a_period in
    let n = s.ranges.a_distance in
    record { sound = simp plain s.requires.sound_2; shown = simp plain (s.args.t, near s, a-cursor d, s.requires.labelled_2.0) }

-- the place of t
abbrev begun : After-label_of-i → Start
begun c = (goal.at.After-label_of-i c).Start

abbrev place : After-label_of-i → CursorPair
place c = let d = (goal.at.After-label_of-i c).After-cursor_at-a in record { b = d.cursor_at-b.result; k = c.label_of-k.result; a = d.cursor_at-a.result; i = c.label_of-i.result }

b-label : (c : After-label_of-i) → meant (b-row (begun c)) (begun c).args.t ≡ some (place c).k
b-label c =
    let s = begun c in
    let p = s.ranges.b_period in
    let n = s.ranges.b_distance in
    (simp plain at c.label_of-k.ensures) s.args.t (b-cursor (goal.at.After-label_of-i c).After-cursor_at-a)

a-label : (c : After-label_of-i) → meant (a-row (begun c)) (begun c).args.t ≡ some (place c).i
a-label c =
    let s = begun c in
    let p = s.ranges.a_period in
    let n = s.ranges.a_distance in
    (simp plain at c.label_of-i.ensures) s.args.t (a-cursor (goal.at.After-label_of-i c).After-cursor_at-a)

k-fits : (c : After-label_of-i) → SFits w64 (place c).k
k-fits c = sfits_of c.label_of-k.type_inv

i-fits : (c : After-label_of-i) → SFits w64 (place c).i
i-fits c = sfits_of c.label_of-i.type_inv

rules : (s : Start) → Valid (b-row s)
rules s = valid s.args.b_period s.args.b_distance s.args.b_cells.now s.requires.sound

placed : (c : After-label_of-i) → Overlaps (b-row (begun c)) (a-row (begun c)) (place c)
placed c =
    let s = begun c in
    let l = s.requires.labelled in
    let d = (goal.at.After-label_of-i c).After-cursor_at-a in
    overlaps (b-row s) (a-row s) (rules s) (place c) s.args.t l.1.0 l.1.1 (b-cursor d) (b-label c) (a-cursor d) (a-label c)

pub inside_at-requires : goal.inside_at-requires
inside_at-requires c =
    let s = begun c in
    let p = s.ranges.b_period in
    let n = s.ranges.b_distance in
    let q = s.ranges.a_period in
    let m = s.ranges.a_distance in
    let k = k-fits c in
    let i = i-fits c in
    record { sound = simp plain s.requires.sound; sound_2 = simp plain s.requires.sound_2; overlaps = simp plain (placed c) }

inside_is : (c : After-inside_at) → let s = begun (goal.at.After-inside_at c).After-label_of-i in c.inside_at.result ≡ inside (b-row s) (place (goal.at.After-inside_at c).After-label_of-i).k (a-row s) (place (goal.at.After-inside_at c).After-label_of-i).i
inside_is c =
    let d = (goal.at.After-inside_at c).After-label_of-i in
    let s = begun d in
    let p = s.ranges.b_period in
    let n = s.ranges.b_distance in
    let q = s.ranges.a_period in
    let m = s.ranges.a_distance in
    let k = k-fits d in
    let i = i-fits d in
    simp plain at c.inside_at.ensures

pub returns : goal.returns
returns c k i e f =
    let d = (goal.at.returns c).After-label_of-i in
    let s = begun d in
    inside_is c ∙ ap₂ (λ (x y : ℤ). inside (b-row s) x (a-row s) y) (some_inj (sym (b-label d) ∙ e)) (some_inj (sym (a-label d) ∙ f))
