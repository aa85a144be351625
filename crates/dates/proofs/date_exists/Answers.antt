-- `dates::date_exists` meets its contract: the month first, then the day.
-- Assumes nothing.
use borrow.Author.Tests.{not-true, not-false}
use mathlib.Core.Path.{◌≡◌, sym, ◌∙◌, ap}
use mathlib.Core.Bool.{true}
use Prim.Native.Nat.{ℕ, ◌^◌, ◌<◌}
use native.Mathlib.Omega.{arith}
use lib.IntN.{ℤ, pos}
use lib.Signed.{◌≤ℤ◌}
use Rattle.integers.specs.Parts.{up}
use Rattle.integers.proofs.Linear.{ints, ◌∴◌}
use Rattle.integers.proofs.Order.{pos-up}
use Rattle.integers.proofs.Machine.{plain}
use Rattle.calendar.specs.Limits.{between}
use Rattle.granules.proofs.Tests.{between-iff}
use Rattle.civil.specs.Rule.{days_in}
use Rattle.dates.proofs.Naturals.{natural, cast-small}
use Rattle.dates.proofs.Months.{month-length}
use Rattle.dates.proofs.Replies.{no-month, by-day}
use Rattle.dates.proofs.date_exists.Goals as goal
use Rattle.dates.proofs.date_exists.Goals.{After-days_in-days, After-is_between, Else-not-is_between, Start}

tested : (c : After-is_between) → c.is_between.result ≡ between (pos 1) (pos 12) c.args.month
tested c = let m = c.ranges.month in simp plain at c.is_between.ensures

inside : (c : Else-not-is_between) → between (pos 1) (pos 12) c.args.month ≡ true
inside c = sym (tested (goal.at.Else-not-is_between c).After-is_between) ∙ not-false c.is_between.result c.if-not-is_between.false-raw

abbrev month : Else-not-is_between → ℤ
month c = c.args.month

range : (c : Else-not-is_between) → (pos 1 ≤ℤ month c) × (month c ≤ℤ pos 12)
range c = (between-iff (pos 1) (pos 12) (month c)).0 (inside c)

above : (c : Else-not-is_between) → pos 0 ≤ℤ month c
above c = range c ∴ simp ints (omega arith)

length-is : (c : After-days_in-days)
    → c.days_in-days.result ≡ days_in c.args.year (up (month (goal.at.After-days_in-days c).Else-not-is_between))
length-is c =
    let s = (goal.at.After-days_in-days c).Start in
    let y = s.ranges.year in
    let m = s.ranges.month in
    (simp plain at c.days_in-days.ensures) ∙ ap (days_in s.args.year) (natural (above (goal.at.After-days_in-days c).Else-not-is_between)).0

small : (c : After-days_in-days) → c.days_in-days.result < 2 ^ 63
small c =
    let s = (goal.at.After-days_in-days c).Start in
    let (l, h) = range (goal.at.After-days_in-days c).Else-not-is_between in
    omega (arith, length-is c, (month-length s.args.year (up (month (goal.at.After-days_in-days c).Else-not-is_between)) (omega (arith, simp ints at l)) (omega (arith, simp ints at h, simp ints at (pos-up (above (goal.at.After-days_in-days c).Else-not-is_between))))).1)

pub returns-then-not-is_between : goal.returns-then-not-is_between
returns-then-not-is_between c =
    let s = (goal.at.returns-then-not-is_between c).Start in
    no-month s.args.year s.args.month s.args.day (sym (tested (goal.at.returns-then-not-is_between c).After-is_between) ∙ not-true c.is_between.result c.if-not-is_between.true-raw)

pub overflow_cast-month : goal.overflow_cast-month
overflow_cast-month c =
    let m = c.ranges.month in simp plain (cast-small (above c) (range c ∴ simp ints (omega arith)))

pub days_in-days-requires : goal.days_in-days-requires
days_in-days-requires c =
    let m = c.ranges.month in
    let e = (natural (above c)).1 in
    let (l, h) = range c in
    simp plain (omega (arith, simp ints at (e), simp ints at l, simp ints at h))

pub returns : goal.returns
returns c =
    let p = (goal.at.returns c).After-days_in-days in
    let s = (goal.at.After-days_in-days p).Start in
    let d = s.ranges.day in
    let k = small p in
    (simp plain at c.is_between-2.ensures)
    ∙ ap (λ (n : ℕ). between (pos 1) (pos n) s.args.day) (length-is p)
    ∙ by-day s.args.year s.args.month s.args.day (inside (goal.at.After-days_in-days p).Else-not-is_between)
