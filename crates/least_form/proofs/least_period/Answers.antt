-- `least_form::least_period` meets its contract. The loop keeps that the cells passed with no divisor above m, and how many
-- were tried.
-- Assumes nothing.
use mathlib.Core.Path.{◌≡◌, sym, ◌∙◌, ap, ap₂}
use mathlib.Core.Logic.{◌↔◌}
use mathlib.Core.Bool.{true}
use Prim.Native.Nat.{ℕ, ◌*◌, ◌/◌, ◌≤◌, ◌∣◌}
use native.Mathlib.Nat.{div-le_self}
use native.Mathlib.Omega.{arith}
use lib.IntN.{ℤ, pos, nat_abs}
use lib.Signed.{◌≤ℤ◌, yes_non_neg}
use mir.Facts.{to_z-of_z, Fits-nat_abs}
use mir.Syntax.{w32, w64}
use mir.ValLaws.{to_z_pos}
use mir.Val.{of_z, to_z}
use Rattle.integers.specs.Parts.{up}
use Rattle.integers.specs.Gcd.{gcd}
use Rattle.integers.proofs.Linear.{ints, ◌∴◌}
use Rattle.integers.proofs.Machine.{plain}
use Rattle.calendar.specs.Limits.{pool_limit}
use Rattle.calendar.specs.Meaning.{Row}
use Rattle.calendar.specs.Granules.{granules}
use Rattle.calendar.specs.Least.{least}
use Rattle.calendar.specs.Questions.{given}
use Rattle.calendar.specs.Tries.{common, tries}
use Rattle.granules.specs.Valid.{Valid}
use Rattle.granules.proofs.Numbers.{Numbers, numbers}
use Rattle.granules.proofs.Tests.{true≢false}
use Rattle.granules.proofs.Sound.{sound-valid}
use Rattle.least_form.proofs.Cells.{low}
use Rattle.least_form.proofs.Common.{common-is, common-pos, common-at-most}
use Rattle.least_form.proofs.Turns.{Passes}
use Rattle.least_form.proofs.Search.{Found, search-start, search-found, search-next, search-last, least-dvd}
use Rattle.least_form.proofs.least_period.Invariants.{row}
use Rattle.least_form.proofs.least_period.Goals as goal
use Rattle.least_form.proofs.least_period.Goals.{After-gcd-g, After-try_period-outcome, Start}

-- ---- the numbers that the code casts
known : (c : Start) → Numbers c.args.period c.args.distance c.args.cells.now
known c = numbers c.args.period c.args.distance c.args.cells.now c.requires.cells_value

abbrev p : Start → ℕ
p c = nat_abs (to_z w64 (of_z w64 c.args.period))

abbrev n : Start → ℕ
n c = nat_abs (to_z w64 (of_z w64 c.args.distance))

p-is : (c : Start) → p c ≡ up c.args.period
p-is c = let f = c.ranges.period in simp plain (ap nat_abs (known c).period-is)

n-is : (c : Start) → n c ≡ up c.args.distance
n-is c = let f = c.ranges.distance in simp plain (ap nat_abs (known c).distance_is)

pub overflow_cast-p : goal.overflow_cast-p
overflow_cast-p c =
    let f = c.ranges.period in
    let h : pos 0 ≤ℤ c.args.period = (known c).period-is ∴ simp ints (omega arith) in
    simp plain (yes_non_neg h, Fits-nat_abs tt f)

pub overflow_cast-n : goal.overflow_cast-n
overflow_cast-n c =
    let f = c.ranges.distance in
    let h : pos 0 ≤ℤ c.args.distance = (known c).distance_is ∴ simp ints (omega arith) in
    simp plain (yes_non_neg h, Fits-nat_abs tt f)

-- the row that was handed in, and as the code has it
abbrev handed : Start → Row
handed c = given c.args.period c.args.distance c.args.cells.now

abbrev own : Start → Row
own c = row (p c) (n c) c.args.cells.now

own_is : (c : Start) → own c ≡ handed c
own_is c = ap₂ (λ (P N : ℕ). row P N c.args.cells.now) (p-is c) (n-is c)

valid : (c : Start) → Valid (own c)
valid c = rw (p-is c, n-is c) (sound-valid (handed c) c.requires.cells_value)

-- its granules
abbrev r : Start → ℕ
r c = nat_abs (to_z w64 (of_z w64 c.args.granules))

r-is : (c : Start) → r c ≡ granules (own c)
r-is c = let f = c.ranges.granules in simp plain (ap nat_abs c.requires.granules_value) ∙ sym (ap granules (own_is c))

pub overflow_cast-r : goal.overflow_cast-r
overflow_cast-r c =
    let f = c.ranges.granules in
    let h : pos 0 ≤ℤ c.args.granules = c.requires.granules_value ∴ simp ints (omega arith) in
    simp plain (yes_non_neg h, Fits-nat_abs tt f)

-- the number whose divisors are tried
g-is : (c : After-gcd-g) → c.gcd-g.result ≡ common (own (goal.at.After-gcd-g c).Start)
g-is c =
    let s = (goal.at.After-gcd-g c).Start in
    c.gcd-g.ensures ∙ ap₂ gcd c.gcd.ensures (r-is s) ∙ sym (common-is (own s))

pub loop-m-init : goal.loop-m-init
loop-m-init c = let s = (goal.at.loop-m-init c).Start in rw (g-is c) (search-start (own s) (valid s))

-- ---- a turn
p-small : (c : Start) → p c ≤ pool_limit
p-small c = omega (arith, p-is c, (known c).high)

n-small : (c : Start) → n c ≤ pool_limit
n-small c = omega (arith, n-is c, (known c).middle, (known c).high)

pub overflow_cast-n-in-loop-m : goal.overflow_cast-n-in-loop-m
overflow_cast-n-in-loop-m c =
    let s = (goal.at.overflow_cast-n-in-loop-m c).Start in
    simp ints (omega (arith, n-small s, div-le_self (n s) c.loop-m.m))

-- the rise of a turn
rise-is : (s : Start) (m : ℕ) → to_z w32 (n s / m) ≡ pos (n s / m)
rise-is s m = to_z_pos w32 (n s / m) (omega (arith, n-small s, div-le_self (n s) m))

pub try_period-outcome-requires : goal.try_period-outcome-requires
try_period-outcome-requires c =
    let s = (goal.at.try_period-outcome-requires c).Start in
    let m = c.loop-m.m in
    let a = s.args in
    record {
      q_in_bounds = omega (arith, (valid s).whole, div-le_self (p s) m);
      rise = rw (rise-is s m)
          (simp ints (omega (arith, n-small s, div-le_self (n s) m)), low a.period a.distance a.cells.now s.requires.cells_value);
    }

-- the start and the divisor of a turn
abbrev start : After-try_period-outcome → Start
start c = (goal.at.After-try_period-outcome c).Start

abbrev turn : After-try_period-outcome → ℕ
turn c = c.loop-m.m

-- what the callee said of the cells
tested : (c : After-try_period-outcome) → (c.try_period-outcome.result.repeats ≡ true) ↔ Passes (own (start c)) (turn c)
tested c = rw (rise-is (start c) (turn c)) at c.try_period-outcome.ensures

pub overflow_cast-result : goal.overflow_cast-result
overflow_cast-result c =
    let s = start (goal.at.overflow_cast-result c).After-try_period-outcome in
    simp ints (omega (arith, p-small s, div-le_self (p s) (turn (goal.at.overflow_cast-result c).After-try_period-outcome)))

-- what was found is the answer
answer : (c : Start) (z : ℤ) (period tried : ℕ) → z ≡ pos period → Found (own c) period tried
    → (z ≡ pos (least (handed c)).period)
    × ((up z ∣ up c.args.period) × (up c.args.period ∣ up c.args.distance * up z)) × (tried ≡ tries (handed c))
answer c z period tried is f =
    let e : z ≡ pos (least (handed c)).period = is ∙ ap pos (f.least-is ∙ ap (λ (r : Row). (least r).period) (own_is c)) in
    (e, rw e (least-dvd (handed c) (sound-valid (handed c) c.requires.cells_value)), f.tries-is ∙ ap tries (own_is c))

pub returns-then-outcome : goal.returns-then-outcome
returns-then-outcome c =
    let a = (goal.at.returns-then-outcome c).After-try_period-outcome in
    let s = start a in
    let m = turn a in
    let k = a.loop-m in
    let e = answer s _ (p s / m) k.tried
    (to_z_pos w64 (p s / m) (omega (arith, p-small s, div-le_self (p s) m)))
    (search-found (own s) (valid s) m k.tried k.invariant ((tested a).0 c.if-outcome.true)) in
    record { least = e.0; divides = e.1; tried = e.2 }

pub next_divisor-m-requires : goal.next_divisor-m-requires
next_divisor-m-requires c =
    let a = (goal.at.next_divisor-m-requires c).After-try_period-outcome in
    let s = start a in
    rw (g-is (goal.at.After-try_period-outcome a).After-gcd-g)
    (common-pos (own s) (valid s), omega arith, a.loop-m.invariant.divides)

-- the counter stays small
pub overflow_add-tried : goal.overflow_add-tried
overflow_add-tried c =
    let a = (goal.at.overflow_add-tried c).After-try_period-outcome in
    let s = start a in
    omega (arith, a.loop-m.invariant.few, common-at-most (own s) (valid s), p-small s)

pub loop-m-smaller : goal.loop-m-smaller
loop-m-smaller c = omega (arith, c.next_divisor-m.ensures.within)

pub loop-m-preserved : goal.loop-m-preserved
loop-m-preserved c =
    let a = (goal.at.loop-m-preserved c).After-try_period-outcome in
    let s = start a in
    let k = a.loop-m in
    search-next (own s) (valid s) (turn a) c.next_divisor-m.result k.tried k.invariant (omega arith)
    (λ h. true≢false ((tested a).1 h) c.if-outcome.false)
    (rw (g-is (goal.at.After-try_period-outcome a).After-gcd-g) at c.next_divisor-m.ensures)

pub returns : goal.returns
returns c =
    let s = (goal.at.returns c).Start in
    let k = c.loop-m in
    let e = answer s _ (p s) k.tried
    (to_z-of_z s.ranges.period ∙ (known s).period-is ∙ ap pos (sym (p-is s)))
    (search-last (own s) (valid s) k.m k.tried k.invariant c.loop-m-test.false) in
    record { least = e.0; divides = e.1; tried = e.2 }
