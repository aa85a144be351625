-- `operand_checks::altered::aligned` meets its contract: its tests are those of checks 9, 10 and 8, in their order.
-- Assumes nothing.
use mathlib.Core.Path.{◌≡◌, sym, ◌∙◌, ap}
use mathlib.Core.Bool.{Bool, true, false, not}
use borrow.Author.Tests.{not-true, not-false}
use lib.IntN.{ℤ}
use Rattle.integers.specs.Parts.{up}
use Rattle.integers.proofs.Machine.{plain}
use Rattle.calendar.specs.Meaning.{Row}
use Rattle.calendar.specs.Operation.Alignment.{partition}
use Rattle.calendar.specs.Size.{turn, alter_turn}
use Rattle.calendar.specs.Checks.{aligned_as, emptied}
use Rattle.calendar.specs.Questions.{given}
use Rattle.calendar.specs.Reply.{require}
use Rattle.granules.specs.Valid.{Valid}
use Rattle.algebra.proofs.Fine.{Partitioned}
use Rattle.cursors.proofs.Numbers.{valid}
use Rattle.alignment.proofs.Read.{aligned-read}
use Rattle.alignment.proofs.Rising.{limited}
use Rattle.alter_granules.specs.Given.{altering}
use Rattle.operand_checks.specs.declared.Extent.{Extent}
use Rattle.operand_checks.specs.Shared.{fitted, alter_extent, behind_span}
use Rattle.operand_checks.proofs.Naturals.{up-mono}
use Rattle.operand_checks.proofs.Kept.{known, fine-positive, fine-at-least}
use Rattle.granules.proofs.Replies.{passed, failed}
use Rattle.operand_checks.proofs.Replies.{behind-is}
use Rattle.operand_checks.proofs.altered.aligned.Goals as goal
use Rattle.operand_checks.proofs.altered.aligned.Goals.{After-emptied, After-partitions, Else-emptied, Else-not-partitions, Start}

abbrev row-a : Start → Row
row-a s = given s.args.a_period s.args.a_distance s.args.a_cells.now

abbrev row-b : Start → Row
row-b s = given s.args.b_period s.args.b_distance s.args.b_cells.now

-- checks 9 and 10
abbrev partitioned : Start → Bool
partitioned s = aligned_as partition (row-a s) (row-b s)

abbrev empties : Start → Bool
empties s = emptied (altering s.args.by (row-a s) (row-b s))

-- the working row
abbrev working : Start → Extent
working s = alter_extent s.args.span (alter_turn (turn (row-a s)) (turn (row-b s)) (up s.args.by.x) s.args.by.z)

behind : (s : Start) → behind_span (altering s.args.by (row-a s) (row-b s)) (up s.args.room)
    ≡ require 9 (partitioned s) (require 10 (not (empties s)) (fitted (working s) (up s.args.room)))
behind s =
    let by = s.args.by in
    behind-is (row-a s) (row-b s) (up s.args.room) (up by.x) (up by.y) by.z
    ∙ ap
    (λ (t : ℤ). require 9 (partitioned s) (require 10 (not (empties s)) (fitted (alter_extent t (alter_turn (turn (row-a s)) (turn (row-b s)) (up by.x) by.z)) (up s.args.room))))
    (sym s.requires.spanned.is-span)

partitions-is : (c : After-partitions) → c.partitions.result ≡ partitioned (goal.at.After-partitions c).Start
partitions-is c =
    let s = (goal.at.After-partitions c).Start in
    let p = s.ranges.a_period in
    let n = s.ranges.a_distance in
    let q = s.ranges.b_period in
    let m = s.ranges.b_distance in
    c.partitions.ensures ∙ aligned-read partition s.args.a_period s.args.a_distance s.args.b_period s.args.b_distance s.args.a_cells.now s.args.b_cells.now p n q m

pub returns-then-not-partitions : goal.returns-then-not-partitions
returns-then-not-partitions c =
    let t = (goal.at.returns-then-not-partitions c).After-partitions in
    sym (behind (goal.at.After-partitions t).Start ∙ failed 9 _ (sym (partitions-is t) ∙ not-true _ c.if-not-partitions.true-raw))

valids : (s : Start) → Valid (row-a s) × Valid (row-b s)
valids s =
    let a = s.args in
    (valid a.a_period a.a_distance a.a_cells.now s.requires.sound, valid a.b_period a.b_distance a.b_cells.now s.requires.sound_2)

partition-holds : (c : Else-not-partitions) → partitioned (goal.at.Else-not-partitions c).Start ≡ true
partition-holds c = sym (partitions-is (goal.at.Else-not-partitions c).After-partitions) ∙ not-false _ c.if-not-partitions.false-raw

operands : (c : Else-not-partitions) → Partitioned (row-a (goal.at.Else-not-partitions c).Start) (row-b (goal.at.Else-not-partitions c).Start)
operands c =
    let s = (goal.at.Else-not-partitions c).Start in
    let by = s.args.by in
    known (up by.x) (up by.y) by.z (row-a s) (row-b s) (valids s) s.requires.a_cells_value s.requires.b_cells_value (partition-holds c)

pub emptied-requires : goal.emptied-requires
emptied-requires c =
    let s = (goal.at.emptied-requires c).Start in
    let l = s.requires.spanned in
    let t = s.ranges.span in
    let p = s.ranges.a_period in
    let n = s.ranges.a_distance in
    let q = s.ranges.b_period in
    let m = s.ranges.b_distance in
    record {
      sound = simp plain s.requires.sound;
      sound_2 = simp plain s.requires.sound_2;
      emptiable = simp plain (record { limits = s.requires.limits; full = (operands c).full; partition = (operands c).partition; is-span = l.is-span; at-most = l.at-most });
    }

emptied-is : (c : After-emptied) → c.emptied.result ≡ empties (goal.at.After-emptied c).Start
emptied-is c =
    let s = (goal.at.After-emptied c).Start in
    let p = s.ranges.a_period in
    let n = s.ranges.a_distance in
    let q = s.ranges.b_period in
    let m = s.ranges.b_distance in
    simp plain at c.emptied.ensures

pub returns-then-emptied : goal.returns-then-emptied
returns-then-emptied c =
    let t = (goal.at.returns-then-emptied c).After-emptied in
    let s = (goal.at.After-emptied t).Start in
    sym (behind s ∙ passed 9 _ (partition-holds (goal.at.After-emptied t).Else-not-partitions) ∙ failed 10 _ (ap not (sym (emptied-is t) ∙ c.if-emptied.true)))

kept : (c : Else-emptied) → empties (goal.at.Else-emptied c).Start ≡ false
kept c = sym (emptied-is (goal.at.Else-emptied c).After-emptied) ∙ c.if-emptied.false

pub sized-requires : goal.sized-requires
sized-requires c =
    let e = (goal.at.sized-requires c).Else-not-partitions in
    let s = (goal.at.Else-not-partitions e).Start in
    let by = s.args.by in
    let l = s.requires.spanned in
    let r = s.ranges.room in
    let t = s.ranges.span in
    let p = s.ranges.a_period in
    let n = s.ranges.a_distance in
    let q = s.ranges.b_period in
    let m = s.ranges.b_distance in
    let d =
    fine-positive (up by.x) (up by.y) by.z (row-a s) (row-b s) (valids s) s.requires.a_cells_value s.requires.b_cells_value (partition-holds e)
    (up-mono s.requires.limits.x-low) (kept c) in
    let e' =
    fine-at-least (up by.x) (up by.y) by.z (row-a s) (row-b s) (valids s) s.requires.a_cells_value s.requires.b_cells_value (partition-holds e)
    (up-mono s.requires.limits.x-low) (kept c) in
    record { limits = s.requires.limits; room = simp plain s.requires.room; limited = simp plain (limited _ _ _ s.requires.sound); limited_2 = simp plain (limited _ _ _ s.requires.sound_2); span_value = simp plain l.is-span; span_bound = simp plain l.at-most; pos_bound = simp plain d; x_bound = simp plain e' }

pub returns : goal.returns
returns c =
    let k = (goal.at.returns c).Else-emptied in
    let s = (goal.at.Else-emptied k).Start in
    let r = s.ranges.room in
    let t = s.ranges.span in
    let p = s.ranges.a_period in
    let n = s.ranges.a_distance in
    let q = s.ranges.b_period in
    let m = s.ranges.b_distance in
    simp plain at c.sized.ensures
    ∙ sym (behind s ∙ passed 9 _ (partition-holds (goal.at.Else-emptied k).Else-not-partitions) ∙ passed 10 _ (ap not (kept k)))
