-- `questions::checked::up_granule` meets its contract: 14, 15, then what `containment::holder` says of an instant of the granule.
use Rattle.std.specs.Prelude as Prelude
use Rattle.std.specs.Prelude.{Some, None, Ok}
use borrow.Author.Tests.{not-false}
use borrow.Author.Rules.{rules}
use mathlib.Core.Path.{◌≡◌, refl, sym, ◌∙◌, ap}
use mathlib.Core.Bool.{true}
use mathlib.Core.Option.{some}
use Prim.Native.Nat.{◌^◌}
use native.Mathlib.Omega.{arith}
use lib.IntN.{ℤ}
use mir.Facts.{to_z-of_z}
use mir.Syntax.{w64}
use mir.Val.{SFits}
use Rattle.integers.proofs.Linear.{ints, ◌∴◌}
use Rattle.integers.proofs.Machine.{plain}
use Rattle.calendar.specs.Meaning.{Row, meant}
use Rattle.calendar.specs.Reply.{require}
use Rattle.calendar.specs.Reply.Reply.{answer}
use Rattle.calendar.specs.Lists.{is_some}
use Rattle.calendar.specs.Granules.{instant_of, has}
use Rattle.calendar.specs.Limits.{in_range}
use Rattle.calendar.specs.Questions.{given, holder, up_from_granule}
use Rattle.granules.proofs.Tests.{not_iff}
use Rattle.granules.proofs.Instants.{instant_of-labelled}
use Rattle.granules.proofs.Replies.{passed, failed}
use Rattle.cursors.specs.Found.{found, Within}
use Rattle.cursors.proofs.Bounds.{in-range}
use Rattle.cursors.proofs.Numbers.{valid}
use Rattle.questions.specs.Answers.{up_reply}
use Rattle.questions.proofs.checked.up_granule.Goals as goal
use Rattle.questions.proofs.checked.up_granule.Goals.{After-holder-label, After-in_range, After-instant_of-at, Else-not-in_range, In-Some, Start}

abbrev g-row : Start → Row
g-row s = given s.args.g_period s.args.g_distance s.args.g_cells.now

abbrev h-row : Start → Row
h-row s = given s.args.h_period s.args.h_distance s.args.h_cells.now

ranged : (c : After-in_range) → c.in_range.result ≡ in_range c.args.z
ranged c = let z = c.ranges.z in simp plain at c.in_range.ensures

pub returns-then-not-in_range : goal.returns-then-not-in_range
unfolding up_from_granule
returns-then-not-in_range c =
    let s = (goal.at.returns-then-not-in_range c).Start in
    sym (passed 13 _ s.requires.sound ∙ passed 13 _ s.requires.sound_2 ∙ failed 14 _ (sym (ranged (goal.at.returns-then-not-in_range c).After-in_range) ∙ (not_iff _).0 c.if-not-in_range.true-raw))

abbrev begun : Else-not-in_range → Start
begun c = (goal.at.Else-not-in_range c).Start

is-ranged : (c : Else-not-in_range) → in_range (begun c).args.z ≡ true
is-ranged c = sym (ranged (goal.at.Else-not-in_range c).After-in_range) ∙ not-false _ c.if-not-in_range.false-raw

-- what is left of the question
left : (c : Else-not-in_range) → let s = begun c in
    up_from_granule (g-row s) (h-row s) s.args.z ≡ require 15 (has (g-row s) s.args.z) (answer (holder (g-row s) (h-row s) s.args.z))
unfolding up_from_granule
left c = passed 13 _ (begun c).requires.sound ∙ passed 13 _ (begun c).requires.sound_2 ∙ passed 14 _ (is-ranged c)

-- ---- 15
pub instant_of-at-requires : goal.instant_of-at-requires
instant_of-at-requires c =
    let s = begun c in
    let p = s.ranges.g_period in
    let n = s.ranges.g_distance in
    let z = s.ranges.z in
    record { sound = simp plain s.requires.sound; within = simp plain ((in-range s.args.z).0 (is-ranged c)) }

found-is : (c : After-instant_of-at) → instant_of (g-row (begun (goal.at.After-instant_of-at c).Else-not-in_range)) (begun (goal.at.After-instant_of-at c).Else-not-in_range).args.z ≡ found c.instant_of-at.result
found-is c =
    let s = begun (goal.at.After-instant_of-at c).Else-not-in_range in
    let p = s.ranges.g_period in
    let n = s.ranges.g_distance in
    let z = s.ranges.z in
    sym (simp plain at c.instant_of-at.ensures.result_value)

pub returns-in_default : goal.returns-in_default
unfolding has
returns-in_default c =
    let l = (goal.at.returns-in_default c).After-instant_of-at in
    sym (left (goal.at.After-instant_of-at l).Else-not-in_range ∙ failed 15 _ (ap is_some (found-is l ∙ ap found c.in_default.is)))

-- ---- the answer
instant-fits : (c : In-Some) → SFits w64 c.in-Some.t
instant-fits c = search rules

abbrev checked : In-Some → Else-not-in_range
checked c = (goal.at.In-Some c).Else-not-in_range

abbrev instant : In-Some → ℤ
instant c = c.in-Some.t

is_found : (c : In-Some) → let s = begun (checked c) in instant_of (g-row s) s.args.z ≡ some (instant c)
is_found c = found-is (goal.at.In-Some c).After-instant_of-at ∙ ap found c.in-Some.is

labelled : (c : In-Some) → let s = begun (checked c) in meant (g-row s) (instant c) ≡ some s.args.z
labelled c =
    let s = begun (checked c) in
    let v = valid s.args.g_period s.args.g_distance s.args.g_cells.now s.requires.sound in
    instant_of-labelled (g-row s) v s.args.z (instant c) (is_found c)

is-label : (c : In-Some) → let s = begun (checked c) in has (g-row s) s.args.z ≡ true
unfolding has
is-label c = ap is_some (is_found c)

near : (c : In-Some) → Within (2 ^ 59) (instant c)
near c = c.instant_of-at.ensures.within_2 (instant c) (ap found c.in-Some.is) ∴ simp ints (omega arith)

pub holder-label-requires : goal.holder-label-requires
holder-label-requires c =
    let s = begun (checked c) in
    let p = s.ranges.g_period in
    let n = s.ranges.g_distance in
    let q = s.ranges.h_period in
    let m = s.ranges.h_distance in
    let t = instant-fits c in
    record { sound = simp plain s.requires.sound; sound_2 = simp plain s.requires.sound_2; labelled = simp plain ((s.args.z, labelled c), near c) }

replied : (c : After-holder-label) → let s = begun (checked (goal.at.After-holder-label c).In-Some) in up_from_granule (g-row s) (h-row s) s.args.z ≡ answer (found c.holder-label.result)
replied c =
    let k = (goal.at.After-holder-label c).In-Some in
    let s = begun (checked k) in
    let p = s.ranges.g_period in
    let n = s.ranges.g_distance in
    let q = s.ranges.h_period in
    let m = s.ranges.h_distance in
    let t = instant-fits k in
    left (checked k) ∙ passed 15 _ (is-label k) ∙ ap answer (sym ((simp plain at c.holder-label.ensures) s.args.z (labelled k)))

-- a label that is found, or none, is the reply
label-replied : (x : Prelude.Option ℤ) → up_reply (Ok x) ≡ answer (found x)
label-replied (Some j) = refl
label-replied None = refl

pub returns : goal.returns
returns c = label-replied c.holder-label.result ∙ sym (replied (goal.at.returns c).After-holder-label)
