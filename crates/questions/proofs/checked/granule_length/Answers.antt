-- `questions::checked::granule_length` meets its contract: the length of a granule is the place of its last instant, which is less than a period after t.
-- Assumes nothing.
use borrow.Author.Rules.{sfits_of}
use mathlib.Core.Path.{◌≡◌, sym, ◌∙◌, ap}
use mathlib.Core.Option.{some}
use Prim.Native.Nat.{◌^◌}
use native.Mathlib.Omega.{arith}
use lib.IntN.{ℤ}
use mir.Syntax.{w64}
use mir.Val.{SFits}
use Rattle.integers.proofs.Linear.{ints, ◌∴◌}
use Rattle.integers.proofs.Machine.{plain}
use Rattle.calendar.specs.Meaning.{Row, meant}
use Rattle.calendar.specs.Lists.{last}
use Rattle.calendar.specs.Granules.{granule}
use Rattle.calendar.specs.Questions.{given, place, granule_length}
use Rattle.granules.specs.Valid.{Valid}
use Rattle.granules.proofs.Tests.{some_inj}
use Rattle.granules.proofs.Calendars.{granule-near}
use Rattle.granules.proofs.Rows.{meant-repeats}
use Rattle.granules.proofs.Questions.{last-labelled, last-at-least, place-last}
use Rattle.cursors.specs.Found.{Within}
use Rattle.cursors.proofs.Numbers.{valid, numbers}
use Rattle.questions.proofs.checked.granule_length.Goals as goal
use Rattle.questions.proofs.checked.granule_length.Goals.{After-last_instant-last, Start}

abbrev row : Start → Row
row s = given s.args.period s.args.distance s.args.cells.now

-- the label of t
abbrev own : Start → ℤ
own s = s.requires.labelled.0.0

is-own : (s : Start) → meant (row s) s.args.t ≡ some (own s)
is-own s = s.requires.labelled.0.1

rules_own : (s : Start) → Valid (row s)
rules_own s = valid s.args.period s.args.distance s.args.cells.now s.requires.sound

last-is : (c : After-last_instant-last) → c.last_instant-last.result ≡ last (granule (row (goal.at.After-last_instant-last c).Start) (own (goal.at.After-last_instant-last c).Start))
last-is c =
    let s = (goal.at.After-last_instant-last c).Start in
    let p = s.ranges.period in
    let n = s.ranges.distance in
    let t = s.ranges.t in
    (simp plain at c.last_instant-last.ensures) (own s) (is-own s)

labelled : (c : After-last_instant-last) → meant (row (goal.at.After-last_instant-last c).Start) c.last_instant-last.result ≡ some (own (goal.at.After-last_instant-last c).Start)
labelled c = let s = (goal.at.After-last_instant-last c).Start in ap (meant (row s)) (last-is c) ∙ last-labelled (row s) (rules_own s) (own s) (s.args.t, is-own s)

near : (c : After-last_instant-last) → Within (2 ^ 59) c.last_instant-last.result
near c =
    let s = (goal.at.After-last_instant-last c).Start in
    let r = row s in
    let v = rules_own s in
    let n = numbers s.args.period s.args.distance s.args.cells.now s.requires.sound in
    last-at-least r v (own s) s.args.t (is-own s)
    ∴ granule-near (meant r) r.period r.distance (meant-repeats r v.positive.0) v.positive.1 v.ordered s.args.t c.last_instant-last.result (own s) (is-own s) (labelled c)
    ∴ last-is c
    ∴ s.requires.within
    ∴ n.high
    ∴ simp ints (omega arith)

pub place-requires : goal.place-requires
place-requires c =
    let s = (goal.at.place-requires c).Start in
    let p = s.ranges.period in
    let n = s.ranges.distance in
    let l : SFits w64 c.last_instant-last.result = sfits_of c.last_instant-last.type_inv in
    record { sound = simp plain s.requires.sound; labelled = simp plain (((own s, labelled c), near c)) }

pub returns : goal.returns
returns c j e =
    let b = (goal.at.returns c).After-last_instant-last in
    let s = (goal.at.After-last_instant-last b).Start in
    let p = s.ranges.period in
    let n = s.ranges.distance in
    let l : SFits w64 b.last_instant-last.result = sfits_of b.last_instant-last.type_inv in
    (simp plain at c.place.ensures) (own s) (labelled b)
    ∙ ap (place (row s) (own s)) (last-is b)
    ∙ place-last (row s) (rules_own s) (own s)
    ∙ ap (granule_length (row s)) (some_inj (sym (is-own s) ∙ e))
