-- `containment::seen::seen_at` meets its contract: the label of t in a is looked at, then that in b.
-- Assumes nothing.
use borrow.Author.Rules.{rules}
use mathlib.Core.Path.{◌≡◌, sym, ◌∙◌, ap}
use mathlib.Core.Option.{some}
use native.Mathlib.Omega.{arith}
use lib.IntN.{ℤ}
use mir.Syntax.{w64}
use mir.Val.{SFits}
use Rattle.integers.proofs.Linear.{ints, ◌∴◌}
use Rattle.integers.proofs.Machine.{plain, test-eq}
use Rattle.calendar.specs.Meaning.{Row, meant}
use Rattle.calendar.specs.Questions.{given}
use Rattle.cursors.specs.Found.{Near, found}
use Rattle.containment.proofs.seen.seen_at.Goals as goal
use Rattle.containment.proofs.seen.seen_at.Goals.{After-cursor_label-label, After-cursor_label-own, Else-k-j, In-Some, Start}

abbrev a-row : Start → Row
a-row s = given s.args.a_period s.args.a_distance s.args.a_cells.now

abbrev b-row : Start → Row
b-row s = given s.args.b_period s.args.b_distance s.args.b_cells.now

near : (s : Start) → Near s.args.t
near s = let l = s.requires.within in l.0 ∴ l.1 ∴ simp ints (omega arith)

-- ---- the label of t in a
pub cursor_label-own-requires : goal.cursor_label-own-requires
cursor_label-own-requires s =
    let p = s.ranges.a_period in
    let n = s.ranges.a_distance in
    record { sound = simp plain s.requires.sound; standing = simp plain (s.args.t, near s, s.requires.a_value) }

own_is : (c : After-cursor_label-own) → let s = (goal.at.After-cursor_label-own c).Start in meant (a-row s) s.args.t ≡ found c.cursor_label-own.result
own_is c =
    let s = (goal.at.After-cursor_label-own c).Start in
    let p = s.ranges.a_period in
    let n = s.ranges.a_distance in
    sym ((simp plain at c.cursor_label-own.ensures) s.args.t s.requires.a_value)

abbrev begun : In-Some → Start
begun c = (goal.at.In-Some c).Start

abbrev own : In-Some → ℤ
own c = c.in-Some.k

own-fits : (c : In-Some) → SFits w64 (own c)
own-fits c = search rules

own-some : (c : In-Some) → meant (a-row (begun c)) (begun c).args.t ≡ some (own c)
own-some c = own_is (goal.at.In-Some c).After-cursor_label-own ∙ ap found c.in-Some.is

pub returns-then-k-j : goal.returns-then-k-j
returns-then-k-j c =
    let d = (goal.at.returns-then-k-j c).In-Some in
    (own d, own-some d, λ e. c.if-k-j.true ((test-eq w64 _ _ (own-fits d) (begun d).ranges.j).1 e))

in-granule : (c : Else-k-j) → let s = begun (goal.at.Else-k-j c).In-Some in meant (a-row s) s.args.t ≡ some s.args.j
in-granule c = let d = (goal.at.Else-k-j c).In-Some in own-some d ∙ ap some ((test-eq w64 _ _ (own-fits d) (begun d).ranges.j).0 c.if-k-j.false)

-- ---- its label in b
pub cursor_label-label-requires : goal.cursor_label-label-requires
cursor_label-label-requires c =
    let s = begun (goal.at.cursor_label-label-requires c).In-Some in
    let p = s.ranges.b_period in
    let n = s.ranges.b_distance in
    record { sound = simp plain s.requires.sound_2; standing = simp plain (s.args.t, near s, s.requires.b_value) }

label_is : (c : After-cursor_label-label) → let s = begun (goal.at.After-cursor_label-label c).In-Some in meant (b-row s) s.args.t ≡ found c.cursor_label-label.result
label_is c =
    let s = begun (goal.at.After-cursor_label-label c).In-Some in
    let p = s.ranges.b_period in
    let n = s.ranges.b_distance in
    sym ((simp plain at c.cursor_label-label.ensures) s.args.t s.requires.b_value)

pub returns-in_default-label : goal.returns-in_default-label
returns-in_default-label c =
    let d = (goal.at.returns-in_default-label c).After-cursor_label-label in
    (in-granule (goal.at.After-cursor_label-label d).Else-k-j, label_is d ∙ ap found c.in_default-label.is)

pub returns : goal.returns
returns c =
    let d = (goal.at.returns c).After-cursor_label-label in
    let k : SFits w64 c.in-Some-label.i = search rules in
    (in-granule (goal.at.After-cursor_label-label d).Else-k-j, simp plain (label_is d ∙ ap found c.in-Some-label.is))
