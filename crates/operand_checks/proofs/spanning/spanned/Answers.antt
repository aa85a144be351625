-- `operand_checks::spanning::spanned` meets its contract: its tests are those of checks 8 and 9, in their order.
-- Assumes nothing.
use Rattle.std.specs.Prelude.{Some}
use mathlib.Core.Path.{◌≡◌, sym, ◌∙◌, ap}
use mathlib.Core.Bool.{Bool}
use native.Mathlib.Omega.{arith}
use Rattle.integers.specs.Parts.{up}
use Rattle.integers.specs.Capped.{capped_at}
use Rattle.integers.proofs.Linear.{ints}
use Rattle.integers.proofs.Cap.{within-is}
use Rattle.integers.proofs.Machine.{plain}
use Rattle.calendar.specs.Meaning.{Row}
use Rattle.calendar.specs.Size.{turn, span_of}
use Rattle.calendar.specs.Checks.{aligned_as}
use Rattle.calendar.specs.Questions.{given}
use Rattle.alignment.proofs.Rising.{limited}
use Rattle.calendar.specs.Reply.Reply.{answer}
use Rattle.alignment.specs.Fits.{alignment_of}
use Rattle.operand_checks.specs.Shared.{over_span}
use Rattle.operand_checks.proofs.Spans.{capped-past, capped-passes, capped-half, capped_fits, capped-spanned}
use Rattle.granules.proofs.Replies.{passed, failed}
use Rattle.operand_checks.proofs.spanning.spanned.Goals as goal
use Rattle.operand_checks.proofs.spanning.spanned.Goals.{After-aligned, After-span_of-capped, In-Some, Start}

pub span_of-capped-requires : goal.span_of-capped-requires
span_of-capped-requires s =
    let r = s.ranges.room in
    let p = s.ranges.a_period in
    let n = s.ranges.a_distance in
    let q = s.ranges.b_period in
    let m = s.ranges.b_distance in
    record { room = simp plain s.requires.room; limited = simp plain (limited _ _ _ s.requires.sound); limited_2 = simp plain (limited _ _ _ s.requires.sound_2) }

-- the operands
abbrev row-a : Start → Row
row-a s = given s.args.a_period s.args.a_distance s.args.a_cells.now

abbrev row-b : Start → Row
row-b s = given s.args.b_period s.args.b_distance s.args.b_cells.now

abbrev lying : Start → Bool
lying s = aligned_as (alignment_of s.args.k) (row-a s) (row-b s)

capped_is : (c : After-span_of-capped) → let s = (goal.at.After-span_of-capped c).Start in c.span_of-capped.result ≡ capped_at (up s.args.room) (span_of (turn (row-a s)) (turn (row-b s)))
capped_is c =
    let s = (goal.at.After-span_of-capped c).Start in
    let r = s.ranges.room in
    let p = s.ranges.a_period in
    let n = s.ranges.a_distance in
    let q = s.ranges.b_period in
    let m = s.ranges.b_distance in
    simp plain at c.span_of-capped.ensures

pub returns-in_default : goal.returns-in_default
returns-in_default c =
    let t = (goal.at.returns-in_default c).After-span_of-capped in
    sym (failed 8 _ (capped-past _ _ (sym (capped_is t) ∙ c.in_default.is)))

within : (c : In-Some) → let s = (goal.at.In-Some c).Start in
    capped_at (up s.args.room) (span_of (turn (row-a s)) (turn (row-b s))) ≡ Some c.in-Some.s
within c = sym (capped_is (goal.at.In-Some c).After-span_of-capped) ∙ c.in-Some.is

pub overflow_cast-span : goal.overflow_cast-span
overflow_cast-span c = capped_fits c.requires.room _ (within c)

pub aligned-requires : goal.aligned-requires
aligned-requires c =
    let s = (goal.at.aligned-requires c).Start in
    let r = capped-half s.requires.room _ (within c) in
    let p = s.ranges.a_period in
    let n = s.ranges.a_distance in
    let q = s.ranges.b_period in
    let m = s.ranges.b_distance in
    record { sound = simp plain s.requires.sound; sound_2 = simp plain s.requires.sound_2; spanned = simp plain (capped-spanned (row-a s) (row-b s) s.requires.room (within c)) }

aligned-is : (c : After-aligned) → c.aligned.result ≡ lying (goal.at.After-aligned c).Start
aligned-is c =
    let s = (goal.at.After-aligned c).Start in
    let p = s.ranges.a_period in
    let n = s.ranges.a_distance in
    let q = s.ranges.b_period in
    let m = s.ranges.b_distance in
    simp plain at c.aligned.ensures

pub over_span-requires : goal.over_span-requires
over_span-requires c =
    let k = (goal.at.over_span-requires c).In-Some in
    let s = (goal.at.In-Some k).Start in
    let r = capped-half s.requires.room _ (within k) in
    let p = s.ranges.a_period in
    let n = s.ranges.a_distance in
    let l = (capped-spanned (row-a s) (row-b s) s.requires.room (within k)).at-most in
    record { limited = simp plain (limited _ _ _ s.requires.sound); pos_bound = simp plain (simp ints (omega arith), l) }

pub returns-then-aligned : goal.returns-then-aligned
returns-then-aligned c =
    let k = (goal.at.returns-then-aligned c).In-Some in
    let s = (goal.at.In-Some k).Start in
    let h = capped-half s.requires.room _ (within k) in
    let p = s.ranges.a_period in
    let n = s.ranges.a_distance in
    let e : c.over_span.result ≡ over_span (turn (row-a s)) k.in-Some.s = simp plain at c.over_span.ensures in
    ap answer (e ∙ ap (over_span (turn (row-a s))) (within-is (within k)).0)
    ∙ sym (passed 8 _ (capped-passes _ _ (within k)) ∙ passed 9 _ (sym (aligned-is (goal.at.returns-then-aligned c).After-aligned) ∙ c.if-aligned.true))

pub returns-else-aligned : goal.returns-else-aligned
returns-else-aligned c =
    let k = (goal.at.returns-else-aligned c).In-Some in
    sym (passed 8 _ (capped-passes _ _ (within k)) ∙ failed 9 _ (sym (aligned-is (goal.at.returns-else-aligned c).After-aligned) ∙ c.if-aligned.false))
