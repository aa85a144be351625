-- `row_check::sound` meets its contract: each early answer is a number that check 13 refuses, and the labels are left.
-- Assumes nothing.
use mathlib.Core.Path.{◌≡◌, sym, ◌∙◌, ap}
use native.Mathlib.Omega.{arith}
use lib.IntN.{pos, nat_abs}
use lib.Signed.{◌≤ℤ◌}
use mir.Facts.{to_z-of_z}
use mir.Syntax.{w64}
use mir.Val.{of_z, to_z}
use Rattle.integers.specs.Parts.{up}
use Rattle.integers.proofs.Linear.{ints, ◌∴◌}
use Rattle.integers.proofs.Machine.{plain}
use Rattle.integers.proofs.Order.{pos-up}
use Rattle.calendar.specs.Limits.{pool_limit}
use Rattle.calendar.specs.Questions.{given}
use Rattle.cursors.proofs.Cells.{cast-nat}
use Rattle.row_check.proofs.Order.{unsound, labels-left}
use Rattle.row_check.proofs.sound.Goals as goal
use Rattle.row_check.proofs.sound.Goals.{Else-period-gt-LONGEST_PERIOD, Start}

pub returns-then-distance-lt1 : goal.returns-then-distance-lt1
returns-then-distance-lt1 c =
    let s = (goal.at.returns-then-distance-lt1 c).Start in
    let d = s.ranges.distance in
    sym (unsound s.args.period s.args.distance s.args.cells.now (λ n. c.if-distance-lt1.true ∴ n.low ∴ n.distance_is ∴ simp (plain, ints) (omega arith)))

pub returns-then-period-distance : goal.returns-then-period-distance
returns-then-period-distance c =
    let s = (goal.at.returns-then-period-distance c).Start in
    let d = s.ranges.distance in
    let p = s.ranges.period in
    sym (unsound s.args.period s.args.distance s.args.cells.now (λ n. simp plain at c.if-period-distance.true ∴ n.middle ∴ n.distance_is ∴ n.period-is ∴ simp ints (omega arith)))

pub returns-then-period-gt-LONGEST_PERIOD : goal.returns-then-period-gt-LONGEST_PERIOD
returns-then-period-gt-LONGEST_PERIOD c =
    let s = (goal.at.returns-then-period-gt-LONGEST_PERIOD c).Start in
    let p = s.ranges.period in
    sym (unsound s.args.period s.args.distance s.args.cells.now (λ n. simp plain at c.if-period-gt-LONGEST_PERIOD.true ∴ n.high ∴ n.period-is ∴ simp ints (omega arith)))

-- what the three tests leave
passed : (c : Else-period-gt-LONGEST_PERIOD) → (pos 1 ≤ℤ c.args.distance) × (c.args.distance ≤ℤ c.args.period) × (c.args.period ≤ℤ pos pool_limit)
passed c =
    let s = (goal.at.Else-period-gt-LONGEST_PERIOD c).Start in
    let d = s.ranges.distance in
    let p = s.ranges.period in
    (simp plain at c.if-distance-lt1.false, simp plain at c.if-period-distance.false, simp plain at c.if-period-gt-LONGEST_PERIOD.false)

natural : (c : Else-period-gt-LONGEST_PERIOD) → pos 0 ≤ℤ c.args.period
natural c = passed c ∴ simp ints (omega arith)

positive : (c : Else-period-gt-LONGEST_PERIOD) → pos 0 ≤ℤ c.args.distance
positive c = (passed c).0 ∴ simp ints (omega arith)

pub overflow_cast-period : goal.overflow_cast-period
overflow_cast-period c =
    let s = (goal.at.overflow_cast-period c).Start in
    let p = s.ranges.period in
    let n = cast-nat (natural c) in
    simp plain (n.0, omega (arith, n.1, simp ints at (passed c).2, simp ints at (pos-up (natural c))))

-- the period as the machine casts it
period-is : (c : Else-period-gt-LONGEST_PERIOD) → nat_abs (to_z w64 (of_z w64 c.args.period)) ≡ up c.args.period
period-is c = ap nat_abs (to_z-of_z c.ranges.period) ∙ (cast-nat (natural c)).1

pub returns-then-cells-period : goal.returns-then-cells-period
returns-then-cells-period c =
    let e = (goal.at.returns-then-cells-period c).Else-period-gt-LONGEST_PERIOD in
    let s = (goal.at.Else-period-gt-LONGEST_PERIOD e).Start in
    sym (unsound s.args.period s.args.distance s.args.cells.now (λ n. c.if-cells-period.true (n.whole ∙ sym (period-is e))))

pub labels_sound-requires : goal.labels_sound-requires
labels_sound-requires c =
    let e = (goal.at.labels_sound-requires c).Else-period-gt-LONGEST_PERIOD in
    let d = e.ranges.distance in
    passed e ∴ simp (plain, ints) (omega arith)

pub returns : goal.returns
returns c =
    let e = (goal.at.returns c).Else-period-gt-LONGEST_PERIOD in
    let s = (goal.at.Else-period-gt-LONGEST_PERIOD e).Start in
    let d = s.ranges.distance in
    let p = passed e in
    simp plain at c.labels_sound.ensures
    ∙ sym (labels-left (given s.args.period s.args.distance s.args.cells.now)
    (c.if-cells-period.false ∙ period-is e)
    (omega (arith, simp ints at p.0))
    (omega (arith, simp ints at p.1, simp ints at (pos-up (positive e))))
    (omega (arith, simp ints at p.2, simp ints at (pos-up (natural e)))))
