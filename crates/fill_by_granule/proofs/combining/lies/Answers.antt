-- `fill_by_granule::combining::lies` meets its contract: where a has a label at t, the walk from there says whether the granule lies in a's.
-- Assumes nothing.
use borrow.Author.Rules.{rules}
use mathlib.Core.Path.{◌≡◌, sym, ◌∙◌, ap}
use mathlib.Core.Bool.{Bool, true}
use mathlib.Core.Option.{some}
use native.Mathlib.Omega.{arith}
use lib.IntN.{ℤ}
use mir.Syntax.{w64}
use mir.Val.{SFits}
use Rattle.integers.proofs.Linear.{ints, ◌∴◌}
use Rattle.integers.proofs.Machine.{plain}
use Rattle.calendar.specs.Meaning.{Row, meant}
use Rattle.calendar.specs.Lists.{first}
use Rattle.calendar.specs.Granules.{granule, inside}
use Rattle.calendar.specs.Questions.{given}
use Rattle.granules.specs.Valid.{Valid}
use Rattle.cursors.specs.Found.{found}
use Rattle.cursors.proofs.Numbers.{valid}
use Rattle.containment.specs.declared.CursorPair.{CursorPair}
use Rattle.containment.specs.Places.{at}
use Rattle.containment.specs.Sides.{Overlaps}
use Rattle.containment.proofs.Places.{instant-is, overlaps}
use Rattle.fill_by_granule.specs.Lying.{lies_in, lies_at}
use Rattle.fill_by_granule.proofs.combining.lies.Goals as goal
use Rattle.fill_by_granule.proofs.combining.lies.Goals.{After-cursor_label-outer, In-Some, Start}

abbrev a-row : Start → Row
a-row s = given s.args.a_period s.args.a_distance s.args.a_cells.now

abbrev b-row : Start → Row
b-row s = given s.args.b_period s.args.b_distance s.args.b_cells.now

b-valid : (s : Start) → Valid (b-row s)
b-valid s = valid s.args.b_period s.args.b_distance s.args.b_cells.now s.requires.sound_2

-- ---- the label of t in a
pub cursor_label-outer-requires : goal.cursor_label-outer-requires
cursor_label-outer-requires s =
    let p = s.ranges.a_period in
    let n = s.ranges.a_distance in
    let w = s.requires.within in
    record { sound = simp plain s.requires.sound; standing = simp plain ((s.args.t, (w.0 ∴ simp ints (omega arith), w.1 ∴ simp ints (omega arith)), s.requires.a_value)) }

label_is : (c : After-cursor_label-outer) → let s = (goal.at.After-cursor_label-outer c).Start in meant (a-row s) s.args.t ≡ found c.cursor_label-outer.result
label_is c =
    let s = (goal.at.After-cursor_label-outer c).Start in
    let p = s.ranges.a_period in
    let n = s.ranges.a_distance in
    sym ((simp plain at c.cursor_label-outer.ensures) s.args.t s.requires.a_value)

pub returns-in_default : goal.returns-in_default
returns-in_default c =
    let d = (goal.at.returns-in_default c).After-cursor_label-outer in
    let s = (goal.at.After-cursor_label-outer d).Start in
    sym (ap (lies_in (a-row s) (b-row s) s.args.k) (label_is d ∙ ap found c.in_default.is))

-- ---- there is one
abbrev Shown : Type 0
Shown = In-Some

abbrev start : Shown → Start
start c = (goal.at.In-Some c).Start

abbrev label : Shown → ℤ
label c = c.in-Some.i

label-fits : (c : Shown) → SFits w64 (label c)
label-fits c = search rules

label-some : (c : Shown) → meant (a-row (start c)) (start c).args.t ≡ some (label c)
label-some c = label_is (goal.at.In-Some c).After-cursor_label-outer ∙ ap found c.in-Some.is

abbrev place : Shown → CursorPair
place c = let s = start c in record { b = s.args.b; k = s.args.k; a = s.args.a; i = label c }

placed : (c : Shown) → Overlaps (b-row (start c)) (a-row (start c)) (place c)
placed c =
    let s = start c in
    let h = s.requires.within in
    overlaps (b-row s) (a-row s) (b-valid s) (place c) s.args.t h.0 h.1 s.requires.b_value s.requires.t_value s.requires.a_value (label-some c)

is-first : (c : Shown) → let s = start c in s.args.fresh ≡ true → at (b-row s) (place c) ≡ first (granule (b-row s) s.args.k)
is-first c e = let s = start c in instant-is (b-row s) (b-valid s) s.args.b s.args.t s.requires.b_value ∙ s.requires.t_value_2 e

pub inside_from_first-requires : goal.inside_from_first-requires
inside_from_first-requires c =
    let d = (goal.at.inside_from_first-requires c).In-Some in
    let s = start d in
    let p = s.ranges.a_period in
    let n = s.ranges.a_distance in
    let q = s.ranges.b_period in
    let m = s.ranges.b_distance in
    let k = s.ranges.k in
    let i = label-fits d in
    record { sound = simp plain s.requires.sound_2; sound_2 = simp plain s.requires.sound; overlaps = simp plain (placed d); from_value = simp plain (is-first d c.if-fresh.true) }

pub inside_at-requires : goal.inside_at-requires
inside_at-requires c =
    let d = (goal.at.inside_at-requires c).In-Some in
    let s = start d in
    let p = s.ranges.a_period in
    let n = s.ranges.a_distance in
    let q = s.ranges.b_period in
    let m = s.ranges.b_distance in
    let k = s.ranges.k in
    let i = label-fits d in
    record { sound = simp plain s.requires.sound_2; sound_2 = simp plain s.requires.sound; overlaps = simp plain (placed d) }

-- what a walk says is what the label of t says
abbrev Says : Shown → Bool → Type 0
Says c r = let s = start c in r ≡ inside (b-row s) s.args.k (a-row s) (label c)

said : (c : Shown) (r : Bool) → Says c r → let s = start c in r ≡ lies_at (a-row s) (b-row s) s.args.k s.args.t
said c r e = let s = start c in e ∙ sym (ap (lies_in (a-row s) (b-row s) s.args.k) (label-some c))

pub returns-then-fresh : goal.returns-then-fresh
returns-then-fresh c =
    let d = (goal.at.returns-then-fresh c).In-Some in
    let s = start d in
    let p = s.ranges.a_period in
    let n = s.ranges.a_distance in
    let q = s.ranges.b_period in
    let m = s.ranges.b_distance in
    let k = s.ranges.k in
    let i = label-fits d in
    let e = simp plain at c.inside_from_first.ensures in
    said d _ e.whole

pub returns-else-fresh : goal.returns-else-fresh
returns-else-fresh c =
    let d = (goal.at.returns-else-fresh c).In-Some in
    let s = start d in
    let p = s.ranges.a_period in
    let n = s.ranges.a_distance in
    let q = s.ranges.b_period in
    let m = s.ranges.b_distance in
    let k = s.ranges.k in
    let i = label-fits d in
    said d _ (simp plain at c.inside_at.ensures)
