-- `operand_checks::altered::alter` meets its contract: check 8 for the span stands before the others.
-- Assumes nothing.
use Rattle.std.specs.Prelude.{Some}
use mathlib.Core.Path.{◌≡◌, sym, ◌∙◌}
use Prim.Native.Nat.{ℕ}
use lib.Dec.{leb}
use Rattle.integers.specs.Parts.{up}
use Rattle.integers.specs.Capped.{capped_at}
use Rattle.integers.proofs.Machine.{plain}
use Rattle.calendar.specs.Meaning.{Row}
use Rattle.calendar.specs.Size.{turn, span_of}
use Rattle.calendar.specs.Questions.{given}
use Rattle.calendar.specs.Reply.{require}
use Rattle.alignment.proofs.Rising.{limited}
use Rattle.alter_granules.specs.Given.{altering}
use Rattle.operand_checks.specs.Admission.{admission}
use Rattle.operand_checks.specs.Shared.{behind_span}
use Rattle.operand_checks.proofs.Spans.{capped-past, capped-passes, capped-half, capped_fits, capped-spanned}
use Rattle.granules.proofs.Replies.{passed, failed}
use Rattle.operand_checks.proofs.Replies.{alter-is}
use Rattle.operand_checks.proofs.altered.alter.Goals as goal
use Rattle.operand_checks.proofs.altered.alter.Goals.{After-span_of-capped, In-Some, Start}

abbrev row-a : Start → Row
row-a s = given s.args.a_period s.args.a_distance s.args.a_cells.now

abbrev row-b : Start → Row
row-b s = given s.args.b_period s.args.b_distance s.args.b_cells.now

abbrev span : Start → ℕ
span s = span_of (turn (row-a s)) (turn (row-b s))

checks : (s : Start) → let o = altering s.args.by (row-a s) (row-b s) in
    admission o (up s.args.room) ≡ require 8 (leb (span s) (up s.args.room)) (behind_span o (up s.args.room))
checks s =
    let by = s.args.by in
    alter-is (row-a s) (row-b s) (up s.args.room) (up by.x) (up by.y) by.z s.requires.a_cells_value s.requires.b_cells_value

pub span_of-capped-requires : goal.span_of-capped-requires
span_of-capped-requires c =
    let s = c in
    let r = s.ranges.room in
    let p = s.ranges.a_period in
    let n = s.ranges.a_distance in
    let q = s.ranges.b_period in
    let m = s.ranges.b_distance in
    record { room = simp plain s.requires.room; limited = simp plain (limited _ _ _ s.requires.sound); limited_2 = simp plain (limited _ _ _ s.requires.sound_2) }

capped_is : (c : After-span_of-capped) → let s = (goal.at.After-span_of-capped c).Start in c.span_of-capped.result ≡ capped_at (up s.args.room) (span s)
capped_is c =
    let s = (goal.at.After-span_of-capped c).Start in
    let r = s.ranges.room in
    let p = s.ranges.a_period in
    let n = s.ranges.a_distance in
    let q = s.ranges.b_period in
    let m = s.ranges.b_distance in
    simp plain at c.span_of-capped.ensures

pub returns-in_default : goal.returns-in_default
returns-in_default c =
    let t = (goal.at.returns-in_default c).After-span_of-capped in
    let s = (goal.at.After-span_of-capped t).Start in
    sym (checks s ∙ failed 8 _ (capped-past _ _ (sym (capped_is t) ∙ c.in_default.is)))

within : (c : In-Some) → let s = (goal.at.In-Some c).Start in
    capped_at (up s.args.room) (span s) ≡ Some c.in-Some.s
within c = sym (capped_is (goal.at.In-Some c).After-span_of-capped) ∙ c.in-Some.is

pub overflow_cast-s : goal.overflow_cast-s
overflow_cast-s c = capped_fits c.requires.room _ (within c)

pub aligned-requires : goal.aligned-requires
aligned-requires c =
    let s = (goal.at.aligned-requires c).Start in
    let h = capped-half s.requires.room _ (within c) in
    let r = s.ranges.room in
    let p = s.ranges.a_period in
    let n = s.ranges.a_distance in
    let q = s.ranges.b_period in
    let m = s.ranges.b_distance in
    record {
      limits = s.requires.limits;
      room = simp plain s.requires.room;
      sound = simp plain s.requires.sound;
      sound_2 = simp plain s.requires.sound_2;
      a_cells_value = simp plain s.requires.a_cells_value;
      b_cells_value = simp plain s.requires.b_cells_value;
      spanned = simp plain (capped-spanned (row-a s) (row-b s) s.requires.room (within c));
    }

pub returns : goal.returns
returns c =
    let k = (goal.at.returns c).In-Some in
    let s = (goal.at.In-Some k).Start in
    let r = s.ranges.room in
    let p = s.ranges.a_period in
    let n = s.ranges.a_distance in
    let q = s.ranges.b_period in
    let m = s.ranges.b_distance in
    simp plain at c.aligned.ensures
    ∙ sym (checks s ∙ passed 8 _ (capped-passes _ _ (within k)))
