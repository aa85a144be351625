-- `containment::step_at` meets its contract: each return is one of the answers.
-- Assumes nothing.
use borrow.Author.Rules.{rules}
use mathlib.Core.Path.{◌≡◌, sym, ◌∙◌, ap}
use mathlib.Core.Option.{some}
use mir.Syntax.{w64}
use mir.Val.{SFits, of_z}
use Rattle.integers.proofs.Machine.{plain, test-eq}
use Rattle.calendar.specs.Meaning.{Row, meant}
use Rattle.calendar.specs.Lists.{is}
use Rattle.calendar.specs.Questions.{given}
use Rattle.granules.proofs.Tests.{is-iff, false-iff}
use Rattle.cursors.specs.Found.{found}
use Rattle.containment.specs.Places.{at}
use Rattle.containment.proofs.Steps.{step-iff}
use Rattle.containment.proofs.Steps.Says.{past, within, behind, outside}
use Rattle.containment.proofs.step_at.Goals as goal
use Rattle.containment.proofs.step_at.Goals.{Start, After-cursor_label-label, After-shows, Else-k-p, Else-k-p, In-Some, Start}

abbrev b-row : Start → Row
b-row s = given s.args.b_period s.args.b_distance s.args.b_cells.now

abbrev a-row : Start → Row
a-row s = given s.args.a_period s.args.a_distance s.args.a_cells.now

-- the label of the place in b
b-label : (c : After-cursor_label-label) → let s = (goal.at.After-cursor_label-label c).Start in meant (b-row s) (at (b-row s) s.args.p) ≡ found c.cursor_label-label.result
b-label c =
    let s = (goal.at.After-cursor_label-label c).Start in
    let p = s.ranges.b_period in
    let n = s.ranges.b_distance in
    sym ((simp plain at c.cursor_label-label.ensures) (at (b-row s) s.args.p) s.requires.beside.b-cursor)

pub returns-in_default : goal.returns-in_default
returns-in_default c = sym ((step-iff _ _ _ _).1 (past (b-label (goal.at.returns-in_default c).After-cursor_label-label ∙ ap found c.in_default.is)))

some-label : (c : In-Some) → let s = (goal.at.In-Some c).Start in meant (b-row s) (at (b-row s) s.args.p) ≡ some c.in-Some.k
some-label c = b-label (goal.at.In-Some c).After-cursor_label-label ∙ ap found c.in-Some.is

pub returns-then-k-p : goal.returns-then-k-p
returns-then-k-p c = sym ((step-iff _ _ _ _).1 (behind _ (some-label (goal.at.returns-then-k-p c).In-Some) (λ e. c.if-k-p.true (ap (of_z w64) e))))

own-label : (c : Else-k-p) → let s = (goal.at.Else-k-p c).Start in meant (b-row s) (at (b-row s) s.args.p) ≡ some s.args.p.k
own-label c =
    let k : SFits w64 c.in-Some.k = search rules in
    let p : SFits w64 c.args.p.k = search rules in
    some-label (goal.at.Else-k-p c).In-Some ∙ ap some ((test-eq w64 _ _ k p).0 c.if-k-p.false)

-- whether it is in a's granule
shown : (c : After-shows) → let s = (goal.at.After-shows c).Start in c.shows.result ≡ is s.args.p.i (meant (a-row s) (at (b-row s) s.args.p))
shown c =
    let s = (goal.at.After-shows c).Start in
    let p = s.ranges.a_period in
    let n = s.ranges.a_distance in
    let i : SFits w64 s.args.p.i = search rules in
    (simp plain at c.shows.ensures) (at (b-row s) s.args.p) s.requires.beside.a-cursor

pub returns-then-not-shows : goal.returns-then-not-shows
returns-then-not-shows c = sym ((step-iff _ _ _ _).1 (outside (own-label (goal.at.returns-then-not-shows c).Else-k-p) ((false-iff (is-iff _ _)).0 (sym (shown (goal.at.returns-then-not-shows c).After-shows) ∙ c.if-not-shows.true))))

pub returns : goal.returns
returns c = sym ((step-iff _ _ _ _).1 (within (own-label (goal.at.returns c).Else-k-p) ((is-iff _ _).0 (sym (shown (goal.at.returns c).After-shows) ∙ c.if-not-shows.false))))
