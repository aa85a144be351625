-- `questions::checked::judged` meets its contract: 15, or what `floats::may_be_late` says of the granule's length.
use borrow.Author.Rules.{rules}
use mathlib.Core.Path.{◌≡◌, sym, ◌∙◌, ap, ap₂}
use mathlib.Core.Bool.{true}
use mathlib.Core.Option.{some}
use Prim.Native.Nat.{ℕ, ◌≤◌, ◌^◌}
use native.Mathlib.Omega.{arith}
use lib.IntN.{ℤ, pos, nat_abs}
use mir.Syntax.{w64}
use mir.Val.{SFits, of_z, to_z}
use Rattle.integers.specs.Parts.{up}
use Rattle.integers.proofs.Linear.{ints, ◌∴◌}
use Rattle.integers.proofs.Machine.{plain}
use Rattle.calendar.specs.Meaning.{Row, meant}
use Rattle.calendar.specs.Reply.{require}
use Rattle.calendar.specs.Reply.Reply.{answer}
use Rattle.calendar.specs.Lists.{is_some}
use Rattle.calendar.specs.Granules.{instant_of, has}
use Rattle.calendar.specs.Limits.{late_limit}
use Rattle.calendar.specs.Questions.{given, granule_length}
use Rattle.floats.specs.Allowance as F
use Rattle.granules.specs.Valid.{Valid}
use Rattle.granules.proofs.Instants.{instant_of-labelled}
use Rattle.granules.proofs.Questions.{length-at-most}
use Rattle.granules.proofs.Replies.{passed, failed}
use Rattle.cursors.specs.Found.{found, Within}
use Rattle.cursors.proofs.Numbers.{valid, numbers}
use Rattle.questions.proofs.Casts.{lateness, cast}
use Rattle.questions.proofs.checked.judged.Goals as goal
use Rattle.questions.proofs.checked.judged.Goals.{After-granule_length-length, After-instant_of-at, After-may_be_late, In-Some, Start}

abbrev row : Start → Row
row s = given s.args.period s.args.distance s.args.cells.now

rules_own : (s : Start) → Valid (row s)
rules_own s = valid s.args.period s.args.distance s.args.cells.now s.requires.sound

found-is : (c : After-instant_of-at) → instant_of (row (goal.at.After-instant_of-at c).Start) c.args.z ≡ found c.instant_of-at.result
found-is c =
    let s = (goal.at.After-instant_of-at c).Start in
    let p = s.ranges.period in
    let n = s.ranges.distance in
    let z = s.ranges.z in
    sym (simp plain at c.instant_of-at.ensures.result_value)

pub returns-in_default : goal.returns-in_default
unfolding has
returns-in_default c = sym (failed 15 _ (ap is_some (found-is (goal.at.returns-in_default c).After-instant_of-at ∙ ap found c.in_default.is)))

instant-fits : (c : In-Some) → SFits w64 c.in-Some.t
instant-fits c = search rules

-- the instant found
abbrev begun : In-Some → Start
begun c = (goal.at.In-Some c).Start

abbrev instant : In-Some → ℤ
instant c = c.in-Some.t

is_found : (c : In-Some) → instant_of (row (begun c)) (begun c).args.z ≡ some (instant c)
is_found c = found-is (goal.at.In-Some c).After-instant_of-at ∙ ap found c.in-Some.is

labelled : (c : In-Some) → meant (row (begun c)) (instant c) ≡ some (begun c).args.z
labelled c = let s = begun c in instant_of-labelled (row s) (rules_own s) s.args.z (instant c) (is_found c)

is-label : (c : In-Some) → has (row (begun c)) (begun c).args.z ≡ true
unfolding has
is-label c = ap is_some (is_found c)

near : (c : In-Some) → Within (2 ^ 59) (instant c) × Within (2 ^ 58) (instant c)
near c = c.instant_of-at.ensures.within_2 (instant c) (ap found c.in-Some.is) ∴ simp ints (omega arith)

pub granule_length-length-requires : goal.granule_length-length-requires
granule_length-length-requires c =
    let s = begun c in
    let p = s.ranges.period in
    let n = s.ranges.distance in
    let t = instant-fits c in
    record { sound = simp plain s.requires.sound; labelled = simp plain ((s.args.z, labelled c), (near c).0); within = simp plain ((near c).1) }

late : (s : Start) → (s.args.d ≡ pos (up s.args.d)) × (up s.args.d ≤ late_limit)
late s = lateness s.args.d s.requires.d_value

pub overflow_cast-d : goal.overflow_cast-d
overflow_cast-d c =
    let s = begun (goal.at.overflow_cast-d c).In-Some in
    let d = s.ranges.d in
    simp plain (cast (up s.args.d) (late s).0 (omega (arith, (late s).1)))

length-is : (c : After-granule_length-length) → c.granule_length-length.result ≡ granule_length (row (begun (goal.at.After-granule_length-length c).In-Some)) (begun (goal.at.After-granule_length-length c).In-Some).args.z
length-is c =
    let s = begun (goal.at.After-granule_length-length c).In-Some in
    let p = s.ranges.period in
    let n = s.ranges.distance in
    let t = instant-fits (goal.at.After-granule_length-length c).In-Some in
    (simp plain at c.granule_length-length.ensures) s.args.z (labelled (goal.at.After-granule_length-length c).In-Some)

late_is : (s : Start) → nat_abs (to_z w64 (of_z w64 s.args.d)) ≡ up s.args.d
late_is s = let d = s.ranges.d in simp plain (ap nat_abs (late s).0)

pub may_be_late-requires : goal.may_be_late-requires
may_be_late-requires c =
    let s = begun (goal.at.may_be_late-requires c).In-Some in
    let n = numbers s.args.period s.args.distance s.args.cells.now s.requires.sound in
    let l = length-at-most (row s) (rules_own s) s.args.z (instant (goal.at.may_be_late-requires c).In-Some, labelled (goal.at.may_be_late-requires c).In-Some) in
    (omega (arith, late_is s, (late s).1), omega (arith, length-is c, n.high, l), s.requires.allowance_value)

replied : (c : After-may_be_late) → let s = begun (goal.at.After-may_be_late c).In-Some in
    require 15 (has (row s) s.args.z) (answer (F.may_be_late (up s.args.d) (granule_length (row s) s.args.z) s.args.allowance)) ≡ answer c.may_be_late.result
replied c =
    let s = begun (goal.at.After-may_be_late c).In-Some in
    let e : c.may_be_late.result ≡ F.may_be_late (nat_abs (to_z w64 (of_z w64 s.args.d))) c.granule_length-length.result s.args.allowance = c.may_be_late.ensures in
    passed 15 _ (is-label (goal.at.After-may_be_late c).In-Some)
    ∙ ap answer (sym (e ∙ ap₂ (λ (x y : ℕ). F.may_be_late x y s.args.allowance) (late_is s) (length-is (goal.at.After-may_be_late c).After-granule_length-length)))

pub returns-then-may_be_late : goal.returns-then-may_be_late
returns-then-may_be_late c = ap answer (sym c.if-may_be_late.true) ∙ sym (replied (goal.at.returns-then-may_be_late c).After-may_be_late)

pub returns-else-may_be_late : goal.returns-else-may_be_late
returns-else-may_be_late c = ap answer (sym c.if-may_be_late.false) ∙ sym (replied (goal.at.returns-else-may_be_late c).After-may_be_late)
