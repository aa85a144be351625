-- `open_map::sound` meets its contract: the period within its limits, and words that fit it.
-- Assumes nothing.
use mathlib.Core.Path.{◌∙◌, ap}
use Prim.Native.Nat.{ℕ, ◌≤◌, ◌<◌}
use native.Mathlib.Omega.{arith}
use borrow.Author.Tests.{le-leb, lt-leb}
use lib.IntN.{ℤ, pos, negsuc}
use lib.Signed.{◌≤ℤ◌, ◌<ℤ◌}
use Rattle.integers.specs.Parts.{up}
use Rattle.integers.proofs.Linear.{ints, ◌∴◌}
use Rattle.integers.proofs.Machine.{plain}
use Rattle.integers.proofs.Order.{pos-up}
use Rattle.calendar.specs.Limits.{pool_limit}
use Rattle.bitmaps.specs.Cells.{fitting}
use Rattle.open_map.specs.Maps.{map_sound}
use Rattle.open_map.proofs.Numbers.{cast-up}
use Rattle.open_map.proofs.sound.Goals as goal
use Rattle.open_map.proofs.sound.Goals.{Else-period-gt-LONGEST_PERIOD, Start}

low : (z : ℤ) → pos 1 ≤ℤ z → 1 ≤ up z
low z h = omega (arith, simp ints at h)

none : (z : ℤ) → z <ℤ pos 1 → up z < 1
none (pos n) h = omega (arith, simp ints at h)
none (negsuc n) h = omega arith

past : (z : ℤ) → pos pool_limit <ℤ z → pool_limit < up z
past z h = omega (arith, simp ints at h)

pub returns-then-period-lt1 : goal.returns-then-period-lt1
unfolding map_sound
returns-then-period-lt1 c =
    let s = (goal.at.returns-then-period-lt1 c).Start in
    let p = s.ranges.period in
    let h = none s.args.period (simp plain at c.if-period-lt1.true) in
    simp (lt-leb 1 (up s.args.period) h)

pub returns-then-period-gt-LONGEST_PERIOD : goal.returns-then-period-gt-LONGEST_PERIOD
unfolding map_sound
returns-then-period-gt-LONGEST_PERIOD c =
    let s = (goal.at.returns-then-period-gt-LONGEST_PERIOD c).Start in
    let p = s.ranges.period in
    let l = low s.args.period (simp plain at c.if-period-lt1.false) in
    let h = past s.args.period (simp plain at c.if-period-gt-LONGEST_PERIOD.true) in
    simp (le-leb 1 (up s.args.period) l, lt-leb (up s.args.period) pool_limit h)

-- what the two tests leave
limits : (c : Else-period-gt-LONGEST_PERIOD) → (pos 1 ≤ℤ c.args.period) × (c.args.period ≤ℤ pos pool_limit)
limits c =
    let p = c.ranges.period in
    (simp plain at c.if-period-lt1.false, simp plain at c.if-period-gt-LONGEST_PERIOD.false)

natural : (c : Else-period-gt-LONGEST_PERIOD) → pos 0 ≤ℤ c.args.period
natural c = (limits c).0 ∴ simp ints (omega arith)

high : (c : Else-period-gt-LONGEST_PERIOD) → up c.args.period ≤ pool_limit
high c = omega (arith, simp ints at (limits c).1, simp ints at (pos-up (natural c)))

pub overflow_cast-period : goal.overflow_cast-period
overflow_cast-period c = let s = (goal.at.overflow_cast-period c).Start in let n = cast-up s.args.period s.ranges.period (natural c) in (n.0, n.1)

pub fits-requires : goal.fits-requires
fits-requires c = let s = (goal.at.fits-requires c).Start in omega (arith, (cast-up s.args.period s.ranges.period (natural c)).2, high c)

pub returns : goal.returns
unfolding map_sound
returns c =
    let d = (goal.at.returns c).Else-period-gt-LONGEST_PERIOD in
    let s = (goal.at.Else-period-gt-LONGEST_PERIOD d).Start in
    let l = low s.args.period (limits d).0 in
    simp (le-leb 1 (up s.args.period) l, le-leb (up s.args.period) pool_limit (high d))
    (c.fits.ensures ∙ ap (λ (n : ℕ). fitting n s.args.words.now) (cast-up s.args.period s.ranges.period (natural d)).2)
