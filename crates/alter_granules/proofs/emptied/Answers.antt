-- `alter_granules::emptied` meets its contract: the pass over as many coarse granules as b's labels rise over the span decides check 10.
-- Assumes nothing.
use borrow.Author.Rules.{sfits_of}
use mathlib.Core.Path.{◌≡◌, sym, ◌∙◌, ap, ap₂}
use mathlib.Core.Option.{some}
use Prim.Native.Nat.{ℕ, ◌*◌, ◌/◌, ◌^◌, ◌≤◌}
use native.Mathlib.Nat.{mul-le-mul_right}
use native.Mathlib.Omega.{arith}
use lib.IntN.{ℤ, pos, ◌-ℤ◌}
use lib.Signed.{◌≤ℤ◌, ◌<ℤ◌}
use mir.Syntax.{w64}
use mir.Val.{SFits}
use Rattle.integers.specs.Parts.{up}
use Rattle.integers.specs.Gcd.{gcd}
use Rattle.integers.proofs.Linear.{ints, ◌∴◌}
use Rattle.integers.proofs.Machine.{plain}
use Rattle.integers.proofs.Divisors.{gcd-pos}
use Rattle.calendar.specs.Meaning.{Row, meant}
use Rattle.calendar.specs.Lists.{any, from}
use Rattle.calendar.specs.Limits.{pool_limit}
use Rattle.calendar.specs.Size.{turn, span_of}
use Rattle.calendar.specs.Questions.{given}
use Rattle.cursors.specs.Found.{Within}
use Rattle.cursors.proofs.Numbers.{Numbers, numbers, valid}
use Rattle.algebra.proofs.Span.{span_right, rise-positive-right}
use Rattle.algebra.proofs.Fine.{Partitioned, rise_coarse}
use Rattle.alter_granules.specs.Given.{Emptiable}
use Rattle.alter_granules.specs.Short.{short, Passable}
use Rattle.alter_granules.proofs.Shortness.{emptied-pass, emptied-never}
use Rattle.alter_granules.proofs.emptied.Goals as goal
use Rattle.alter_granules.proofs.emptied.Goals.{After-begin_at-start, After-common-common, After-instant_zero-t, After-rise_over-rise, After-some_short, Start}

abbrev a-row : Start → Row
a-row s = given s.args.a_period s.args.a_distance s.args.a_cells.now

abbrev b-row : Start → Row
b-row s = given s.args.b_period s.args.b_distance s.args.b_cells.now

emptiable : (s : Start) → Emptiable s.args.by (a-row s) (b-row s) s.args.span
emptiable s = s.requires.emptiable

known : (s : Start) → Partitioned (a-row s) (b-row s)
known s = record {
  valid = (
    valid s.args.a_period s.args.a_distance s.args.a_cells.now s.requires.sound,
    valid s.args.b_period s.args.b_distance s.args.b_cells.now s.requires.sound_2,
  );
  full = (emptiable s).full;
  partition = (emptiable s).partition;
}

b-numbers : (s : Start) → Numbers s.args.b_period s.args.b_distance s.args.b_cells.now
b-numbers s = numbers s.args.b_period s.args.b_distance s.args.b_cells.now s.requires.sound_2

x-positive : (s : Start) → pos 0 <ℤ s.args.by.x
x-positive s = (emptiable s).limits.x-low ∴ simp ints (omega arith)

x_fits : (s : Start) → SFits w64 s.args.by.x
x_fits s = let l = (emptiable s).limits in l.x-low ∴ l.x-high ∴ simp ints (omega arith)

z-fits : (s : Start) → SFits w64 s.args.by.z
z-fits s = let l = (emptiable s).limits in l.z-low ∴ l.z-high ∴ simp ints (omega arith)

pub returns-then-by-ge0 : goal.returns-then-by-ge0
returns-then-by-ge0 c =
    let s = (goal.at.returns-then-by-ge0 c).Start in
    let z = z-fits s in
    sym (emptied-never s.args.by (a-row s) (b-row s) (known s) (emptiable s).limits (simp plain at c.if-by-ge0.true))

-- ---- how far b's labels rise over the span
pub rise_over-rise-requires : goal.rise_over-rise-requires
rise_over-rise-requires c =
    let s = (goal.at.rise_over-rise-requires c).Start in
    let n = b-numbers s in
    let e = emptiable s in
    let t = s.ranges.span in
    let p = s.ranges.b_period in
    let d = s.ranges.b_distance in
    let few : up s.args.b_distance ≤ pool_limit = omega (arith, n.middle, n.high) in
    let some-period : 1 ≤ up s.args.b_period = omega (arith, n.low, n.middle) in
    record {
      pos_bound = simp plain (e.is-span ∴ simp ints (omega arith), e.at-most);
      pos_bound_2 = simp plain (n.period-is ∴ some-period ∴ simp ints (omega arith));
      pos_bound_3 = simp plain (n.distance_is ∴ simp ints (omega arith), n.distance_is ∴ few ∴ simp ints (omega arith));
    }

abbrev begun : After-rise_over-rise → Start
begun c = (goal.at.After-rise_over-rise c).Start

rise-is : (c : After-rise_over-rise) → c.rise_over-rise.result ≡ pos (rise_coarse (a-row (begun c)) (b-row (begun c)))
rise-is c =
    let s = begun c in
    let t = s.ranges.span in
    let p = s.ranges.b_period in
    let d = s.ranges.b_distance in
    let e = simp plain at c.rise_over-rise.ensures in
    e ∙ ap (λ (z : ℤ). pos (up s.args.b_distance * (up z / up s.args.b_period))) (emptiable s).is-span

-- it is at most the span, as the distance is at most the period
rise-small : (s : Start) → rise_coarse (a-row s) (b-row s) ≤ pool_limit
rise-small s =
    let n = span_of (turn (a-row s)) (turn (b-row s)) in
    let e = span_right (a-row s) (b-row s) (known s).valid.0 (known s).valid.1 in
    let m : n ≤ pool_limit = let h = emptiable s in omega (arith, simp ints at h.is-span, simp ints at h.at-most) in
    omega (arith, mul-le-mul_right (n / up s.args.b_period) (b-numbers s).middle)

rise-fits : (c : After-rise_over-rise) → SFits w64 c.rise_over-rise.result
rise-fits c = sfits_of c.rise_over-rise.type_inv

pub common-common-requires : goal.common-common-requires
common-common-requires c =
    let s = begun (goal.at.common-common-requires c).After-rise_over-rise in
    let f = rise-fits (goal.at.common-common-requires c).After-rise_over-rise in
    let x = x_fits s in
    record {
      pos_bound = simp plain (rise-is (goal.at.common-common-requires c).After-rise_over-rise ∴ simp ints (omega arith));
      pos_bound_2 = simp plain (x-positive s);
    }

-- ---- the divisor
abbrev divisor : Start → ℕ
divisor s = gcd (rise_coarse (a-row s) (b-row s)) (up s.args.by.x)

common-is : (c : After-common-common) → c.common-common.result ≡ pos (divisor (begun (goal.at.After-common-common c).After-rise_over-rise))
common-is c =
    let r = (goal.at.After-common-common c).After-rise_over-rise in
    let s = begun r in
    let f = rise-fits r in
    let x = x_fits s in
    let e = simp plain at c.common-common.ensures in
    e ∙ ap (λ (z : ℤ). pos (gcd (up z) (up s.args.by.x))) (rise-is r)

common-fits : (c : After-common-common) → SFits w64 c.common-common.result
common-fits c = sfits_of c.common-common.type_inv

-- ---- the start
pub instant_zero-t-requires : goal.instant_zero-t-requires
instant_zero-t-requires c =
    let s = begun (goal.at.instant_zero-t-requires c).After-rise_over-rise in
    let p = s.ranges.b_period in
    let d = s.ranges.b_distance in
    record {
      sound = simp plain s.requires.sound_2;
      full = simp plain ((emptiable s).full.1);
    }

abbrev first : After-instant_zero-t → Start
first c = begun (goal.at.After-instant_zero-t c).After-rise_over-rise

zero-label : (c : After-instant_zero-t) → (meant (b-row (first c)) c.instant_zero-t.result ≡ some (pos 0)) × Within (2 ^ 52) c.instant_zero-t.result
zero-label c =
    let s = first c in
    let p = s.ranges.b_period in
    let d = s.ranges.b_distance in
    let e = c.instant_zero-t.ensures in
    (simp plain at e.label, e.near)

pub begin_at-start-requires : goal.begin_at-start-requires
begin_at-start-requires c =
    let s = first c in
    let p = s.ranges.a_period in
    let n = s.ranges.a_distance in
    let q = s.ranges.b_period in
    let m = s.ranges.b_distance in
    let t : SFits w64 c.instant_zero-t.result = sfits_of c.instant_zero-t.type_inv in
    let e = zero-label c in
    record {
      sound = simp plain s.requires.sound;
      sound_2 = simp plain s.requires.sound_2;
      full = simp plain ((emptiable s).full);
      partition = simp plain ((emptiable s).partition);
      within = simp plain e.1;
      t_value = simp plain (pos 0, e.0);
    }

-- ---- the pass
abbrev zero : After-begin_at-start → After-instant_zero-t
zero c = (goal.at.After-begin_at-start c).After-instant_zero-t

abbrev divided : After-begin_at-start → After-common-common
divided c = (goal.at.After-instant_zero-t (zero c)).After-common-common

abbrev risen : After-begin_at-start → After-rise_over-rise
risen c = (goal.at.After-instant_zero-t (zero c)).After-rise_over-rise

-- it starts less than a period before the instant
start-near : {t u p : ℤ} {n : ℕ} → Within (2 ^ 52) t → ((t -ℤ p) ≤ℤ u) × (u ≤ℤ t) → p ≡ pos n → n ≤ pool_limit → Within (2 ^ 53) u
start-near {t} {u} {p} {n} = simp ints (omega arith)

passable : (c : After-begin_at-start) → let s = first (zero c) in
    Passable s.args.by (a-row s) (b-row s) c.begin_at-start.result (divided c).common-common.result (risen c).rise_over-rise.result
passable c =
    let d = divided c in
    let r = risen c in
    let s = begun r in
    let p = s.ranges.a_period in
    let n = s.ranges.a_distance in
    let q = s.ranges.b_period in
    let m = s.ranges.b_distance in
    let t : SFits w64 (zero c).instant_zero-t.result = sfits_of (zero c).instant_zero-t.type_inv in
    let e = c.begin_at-start.ensures in
    let begins = simp plain at e.begins in
    let near = simp plain at e.near in
    let v = (known s).valid in
    let above = gcd-pos (rise_coarse (a-row s) (b-row s)) (up s.args.by.x) (rise-positive-right (a-row s) (b-row s) v.0 v.1) in
    record {
      limits = (emptiable s).limits;
      full = (emptiable s).full;
      partition = (emptiable s).partition;
      begins = begins;
      near = start-near (zero-label (zero c)).1 near (b-numbers s).period-is (b-numbers s).high;
      divides = common-is d ∴ above ∴ simp ints (omega arith);
      low = rise-is r ∴ simp ints (omega arith);
      high = rise-is r ∴ rise-small s ∴ simp ints (omega arith);
    }

pub some_short-requires : goal.some_short-requires
some_short-requires c =
    let d = divided c in
    let s = first (zero c) in
    let p = s.ranges.a_period in
    let n = s.ranges.a_distance in
    let q = s.ranges.b_period in
    let m = s.ranges.b_distance in
    let g = common-fits d in
    let f = rise-fits (risen c) in
    record {
      sound = simp plain s.requires.sound;
      sound_2 = simp plain s.requires.sound_2;
      passable = simp plain (passable c);
    }

passed : (c : After-some_short) → let b = (goal.at.After-some_short c).After-begin_at-start in let d = divided b in let s = first (zero b) in
    c.some_short.result
    ≡ any (short s.args.by (a-row s) (b-row s) (up d.common-common.result)) (from b.begin_at-start.result.i (up (risen b).rise_over-rise.result))
passed c =
    let d = divided (goal.at.After-some_short c).After-begin_at-start in
    let s = first (zero (goal.at.After-some_short c).After-begin_at-start) in
    let p = s.ranges.a_period in
    let n = s.ranges.a_distance in
    let q = s.ranges.b_period in
    let m = s.ranges.b_distance in
    let g = common-fits d in
    let f = rise-fits (risen (goal.at.After-some_short c).After-begin_at-start) in
    simp plain at c.some_short.ensures

pub returns : goal.returns
returns c =
    let b = (goal.at.returns c).After-begin_at-start in
    let d = divided b in
    let s = first (zero b) in
    passed c
    ∙ ap₂ (λ (g n : ℤ). any (short s.args.by (a-row s) (b-row s) (up g)) (from b.begin_at-start.result.i (up n))) (common-is d) (rise-is (risen b))
    ∙ emptied-pass s.args.by (a-row s) (b-row s) (known s) (emptiable s).limits b.begin_at-start.result.i
