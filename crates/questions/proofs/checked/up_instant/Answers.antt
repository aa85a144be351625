-- `questions::checked::up_instant` meets its contract: 14, then the label that the row gives, and the place of t.
use mathlib.Core.Path.{◌≡◌, sym, ◌∙◌, ap}
use mathlib.Core.Bool.{true}
use mathlib.Core.Option.{some}
use Prim.Native.Nat.{◌^◌}
use native.Mathlib.Omega.{arith}
use lib.IntN.{ℤ}
use borrow.Author.Tests.{not-false}
use borrow.Author.Rules.{rules}
use mir.Facts.{to_z-of_z}
use mir.Syntax.{w64}
use mir.Val.{SFits}
use Rattle.integers.proofs.Linear.{ints, ◌∴◌}
use Rattle.integers.proofs.Machine.{plain}
use Rattle.calendar.specs.Meaning.{Row, meant}
use Rattle.calendar.specs.Reply.Reply.{answer}
use Rattle.calendar.specs.Limits.{in_range}
use Rattle.calendar.specs.Questions.{given, place, Placed, placed, up_from_instant}
use Rattle.granules.proofs.Tests.{not_iff}
use Rattle.granules.proofs.Replies.{passed, failed}
use Rattle.granules.proofs.Questions.{placed-some, placed-none}
use Rattle.cursors.specs.Found.{found, Near, Within}
use Rattle.cursors.proofs.Bounds.{in-range}
use Rattle.questions.proofs.checked.up_instant.Goals as goal
use Rattle.questions.proofs.checked.up_instant.Goals.{After-in_range, After-label_at-label, After-place-place, Else-not-in_range, In-Some, Start}

abbrev row : Start → Row
row s = given s.args.period s.args.distance s.args.cells.now

ranged : (c : After-in_range) → c.in_range.result ≡ in_range c.args.t
ranged c = let t = c.ranges.t in simp plain at c.in_range.ensures

pub returns-then-not-in_range : goal.returns-then-not-in_range
unfolding up_from_instant
returns-then-not-in_range c = sym (passed 13 _ c.requires ∙ failed 14 _ (sym (ranged (goal.at.returns-then-not-in_range c).After-in_range) ∙ (not_iff _).0 c.if-not-in_range.true-raw))

is-near : (c : Else-not-in_range) → in_range c.args.t ≡ true
is-near c = sym (ranged (goal.at.Else-not-in_range c).After-in_range) ∙ not-false _ c.if-not-in_range.false-raw

near : (t : ℤ) → in_range t ≡ true → Near t × Within (2 ^ 59) t
near t h = (in-range t).0 h ∴ simp ints (omega arith)

pub label_at-label-requires : goal.label_at-label-requires
label_at-label-requires c =
    let s = (goal.at.label_at-label-requires c).Start in
    let p = s.ranges.period in
    let n = s.ranges.distance in
    let t = s.ranges.t in
    record { sound = simp plain s.requires; near = simp plain ((near s.args.t (is-near c)).0) }

-- what the row gives, by the label found
meant_is : (c : After-label_at-label) → let s = (goal.at.After-label_at-label c).Start in
    meant (row s) s.args.t ≡ found c.label_at-label.result
meant_is c =
    let s = (goal.at.After-label_at-label c).Start in
    let p = s.ranges.period in
    let n = s.ranges.distance in
    let t = s.ranges.t in
    sym (simp plain at c.label_at-label.ensures)

-- the question is answered
replied : (c : Else-not-in_range) → let s = (goal.at.Else-not-in_range c).Start in
    up_from_instant (row s) s.args.t ≡ answer (placed (row s) s.args.t)
unfolding up_from_instant
replied c = passed 13 _ c.requires ∙ passed 14 _ (is-near c)

abbrev begun : In-Some → Start
begun c = (goal.at.In-Some c).Start

own-fits : (c : In-Some) → SFits w64 c.in-Some.j
own-fits c = search rules

-- the instant's label
abbrev own : In-Some → ℤ
own c = c.in-Some.j

is-own : (c : In-Some) → let s = begun c in
    meant (row s) s.args.t ≡ some (own c)
is-own c = meant_is (goal.at.In-Some c).After-label_at-label ∙ ap found c.in-Some.is

pub place-place-requires : goal.place-place-requires
place-place-requires c =
    let d = (goal.at.place-place-requires c).Else-not-in_range in
    let s = (goal.at.Else-not-in_range d).Start in
    let p = s.ranges.period in
    let n = s.ranges.distance in
    let t = s.ranges.t in
    record { sound = simp plain s.requires; labelled = simp plain (((own c, is-own c), (near s.args.t (is-near d)).1)) }

place_is : (c : After-place-place) → let s = begun (goal.at.After-place-place c).In-Some in c.place-place.result ≡ place (row s) (own (goal.at.After-place-place c).In-Some) s.args.t
place_is c =
    let s = begun (goal.at.After-place-place c).In-Some in
    let p = s.ranges.period in
    let n = s.ranges.distance in
    let t = s.ranges.t in
    (simp plain at c.place-place.ensures) (own (goal.at.After-place-place c).In-Some) (is-own (goal.at.After-place-place c).In-Some)

pub returns-in-Some : goal.returns-in-Some
returns-in-Some c =
    let k = (goal.at.returns-in-Some c).In-Some in
    let s = begun k in
    let at : ℤ → Placed = λ j. record { label = j; place = c.place-place.result } in
    ap (λ (j : ℤ). answer (some (at j))) (to_z-of_z (own-fits k))
    ∙ sym (replied (goal.at.In-Some k).Else-not-in_range ∙ ap answer ((placed-some (row s) s.args.t (at (own k))).1 (is-own k, place_is c)))

pub returns-in-None : goal.returns-in-None
returns-in-None c =
    let d = (goal.at.returns-in-None c).After-label_at-label in
    let e = meant_is d ∙ ap found c.in-None.is in
    sym (replied (goal.at.After-label_at-label d).Else-not-in_range ∙ ap answer ((placed-none _ _).1 e))
