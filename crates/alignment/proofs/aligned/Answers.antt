-- `alignment::aligned` meets its contract: each alignment has its test, and none is asked of free operands.
-- Assumes nothing.
use mathlib.Core.Path.{sym, ◌∙◌, ap}
use Rattle.integers.proofs.Machine.{plain}
use Rattle.calendar.specs.Meaning.{Row}
use Rattle.calendar.specs.Operation as O
use Rattle.calendar.specs.Checks.{aligned_as}
use Rattle.calendar.specs.Questions.{given}
use Rattle.alignment.specs.Fits.{alignment_of}
use Rattle.alignment.proofs.Read.{aligned-read}
use Rattle.alignment.proofs.Choices.{outcome}
use Rattle.alignment.proofs.Rising.{free-aligned, is-partition}
use Rattle.alignment.proofs.aligned.Goals as goal
use Rattle.alignment.proofs.aligned.Goals.{After-asks_rise, Start}

abbrev row-a : Start → Row
row-a s = given s.args.a_period s.args.a_distance s.args.a_cells.now

abbrev row-b : Start → Row
row-b s = given s.args.b_period s.args.b_distance s.args.b_cells.now

pub returns-then-is_free : goal.returns-then-is_free
returns-then-is_free c =
    let s = (goal.at.returns-then-is_free c).Start in
    sym (free-aligned (alignment_of s.args.k) (row-a s) (row-b s) (outcome c.is_free.ensures c.if-is_free.true))

pub aligned_alike-requires : goal.aligned_alike-requires
aligned_alike-requires c =
    let s = (goal.at.aligned_alike-requires c).Start in
    let p = s.ranges.a_period in
    let n = s.ranges.a_distance in
    let q = s.ranges.b_period in
    let m = s.ranges.b_distance in
    let t = s.ranges.span in
    record { sound = simp plain s.requires.sound; sound_2 = simp plain s.requires.sound_2; spanned = simp plain s.requires.spanned; k_value = outcome c.asks_rise.ensures c.if-asks_rise.true }

pub returns-then-asks_rise : goal.returns-then-asks_rise
returns-then-asks_rise c =
    let s = (goal.at.returns-then-asks_rise c).Start in
    let p = s.ranges.a_period in
    let n = s.ranges.a_distance in
    let q = s.ranges.b_period in
    let m = s.ranges.b_distance in
    simp plain at c.aligned_alike.ensures

pub returns : goal.returns
returns c =
    let k = (goal.at.returns c).After-asks_rise in
    let s = (goal.at.After-asks_rise k).Start in
    let p = s.ranges.a_period in
    let n = s.ranges.a_distance in
    let q = s.ranges.b_period in
    let m = s.ranges.b_distance in
    c.partitions.ensures ∙ aligned-read O.Alignment.partition s.args.a_period s.args.a_distance s.args.b_period s.args.b_distance s.args.a_cells.now s.args.b_cells.now p n q m
    ∙ ap (λ (k : O.Alignment). aligned_as k (row-a s) (row-b s))
    (sym (is-partition (alignment_of s.args.k) (outcome k.is_free.ensures k.if-is_free.false) (outcome k.asks_rise.ensures c.if-asks_rise.false)))
