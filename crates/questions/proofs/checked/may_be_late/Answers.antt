-- `questions::checked::may_be_late` meets its contract: 14, 18, and what `judged` says.
use borrow.Author.Tests.{not-false}
use mathlib.Core.Path.{◌≡◌, sym, ◌∙◌, ap, ap₂}
use mathlib.Core.Bool.{Bool, true, ◌&&◌}
use lib.IntN.{pos}
use Rattle.integers.proofs.Machine.{plain}
use Rattle.calendar.specs.Meaning.{Row}
use Rattle.calendar.specs.Limits.{in_range, between, late_limit}
use Rattle.calendar.specs.Questions.{given}
use Rattle.floats.specs.Allowance as F
use Rattle.granules.proofs.Tests.{not_iff}
use Rattle.granules.proofs.Replies.{passed, failed}
use Rattle.cursors.proofs.Bounds.{in-range}
use Rattle.questions.specs.Answers.{may_be_late}
use Rattle.questions.proofs.checked.may_be_late.Goals as goal
use Rattle.questions.proofs.checked.may_be_late.Goals.{After-in_range, After-is_lateness, Else-not-allowed, Else-not-in_range, Else-not-is_lateness, Start}

abbrev row : Start → Row
row s = given s.args.period s.args.distance s.args.cells.now

abbrev late : Start → Bool
late s = between (pos 0) (pos late_limit) s.args.d

ranged : (c : After-in_range) → c.in_range.result ≡ in_range c.args.z
ranged c = let z = c.ranges.z in simp plain at c.in_range.ensures

pub returns-then-not-in_range : goal.returns-then-not-in_range
unfolding may_be_late
returns-then-not-in_range c =
    let s = (goal.at.returns-then-not-in_range c).Start in
    sym (passed 13 _ s.requires ∙ failed 14 _ (ap (λ (b : Bool). b && late s) (sym (ranged (goal.at.returns-then-not-in_range c).After-in_range) ∙ (not_iff _).0 c.if-not-in_range.true-raw)))

is-ranged : (c : Else-not-in_range) → in_range c.args.z ≡ true
is-ranged c = sym (ranged (goal.at.Else-not-in_range c).After-in_range) ∙ not-false _ c.if-not-in_range.false-raw

late-tested : (c : After-is_lateness) → c.is_lateness.result ≡ late (goal.at.After-is_lateness c).Start
late-tested c = let d = c.ranges.d in simp plain at c.is_lateness.ensures

pub returns-then-not-is_lateness : goal.returns-then-not-is_lateness
unfolding may_be_late
returns-then-not-is_lateness c =
    let e = (goal.at.returns-then-not-is_lateness c).Else-not-in_range in
    sym
    (passed 13 _ e.requires
    ∙ failed 14 _ (ap₂ (λ (a b : Bool). a && b) (is-ranged e) (sym (late-tested (goal.at.returns-then-not-is_lateness c).After-is_lateness) ∙ (not_iff _).0 c.if-not-is_lateness.true-raw)))

is-late : (c : Else-not-is_lateness) → late (goal.at.Else-not-is_lateness c).Start ≡ true
is-late c = sym (late-tested (goal.at.Else-not-is_lateness c).After-is_lateness) ∙ not-false _ c.if-not-is_lateness.false-raw

-- the numbers are within the limits
within : (c : Else-not-is_lateness) → let s = (goal.at.Else-not-is_lateness c).Start in in_range s.args.z && late s ≡ true
within c = ap₂ (λ (a b : Bool). a && b) (is-ranged (goal.at.Else-not-is_lateness c).Else-not-in_range) (is-late c)

pub returns-then-not-allowed : goal.returns-then-not-allowed
unfolding may_be_late
returns-then-not-allowed c =
    let l = (goal.at.returns-then-not-allowed c).Else-not-is_lateness in
    sym
    (passed 13 _ l.requires
    ∙ passed 14 _ (within l)
    ∙ failed 18 _ (sym c.allowed.ensures ∙ (not_iff _).0 c.if-not-allowed.true-raw))

is-allowed : (c : Else-not-allowed) → F.is_allowed c.args.allowance ≡ true
is-allowed c = sym c.allowed.ensures ∙ not-false _ c.if-not-allowed.false-raw

pub judged-requires : goal.judged-requires
judged-requires c =
    let l = (goal.at.judged-requires c).Else-not-is_lateness in
    let e = (goal.at.Else-not-is_lateness l).Else-not-in_range in
    let s = (goal.at.Else-not-in_range e).Start in
    let p = s.ranges.period in
    let n = s.ranges.distance in
    let z = s.ranges.z in
    let d = s.ranges.d in
    record { sound = simp plain s.requires; within = simp plain ((in-range s.args.z).0 (is-ranged e)); d_value = simp plain (is-late l); allowance_value = is-allowed c }

pub returns : goal.returns
unfolding may_be_late
returns c =
    let l = (goal.at.returns c).Else-not-is_lateness in
    let e = (goal.at.Else-not-is_lateness l).Else-not-in_range in
    let s = (goal.at.Else-not-in_range e).Start in
    let p = s.ranges.period in
    let n = s.ranges.distance in
    let z = s.ranges.z in
    let d = s.ranges.d in
    (simp plain at c.judged.ensures)
    ∙ sym (passed 13 _ s.requires ∙ passed 14 _ (within l) ∙ passed 18 _ (is-allowed (goal.at.returns c).Else-not-allowed))
