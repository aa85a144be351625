-- `open_map::turns::risen_round` meets its contract.
-- Assumes nothing.
use mathlib.Core.Path.{◌≡◌, ◌∙◌, ap}
use Prim.Native.Nat.{◌+◌, ◌^◌, ◌≤◌, ◌<◌}
use native.Mathlib.Omega.{arith}
use borrow.Author.Rules.{sfits_of}
use lib.IntN.{pos, ◌+ℤ◌, ◌-ℤ◌, ◌*ℤ◌}
use lib.Signed.{◌≤ℤ◌}
use mir.Facts.{to_z-of_z}
use mir.Syntax.{w64}
use mir.Val.{SFits}
use Rattle.integers.specs.Parts.{up}
use Rattle.integers.proofs.Linear.{ints, ◌∴◌}
use Rattle.integers.proofs.Machine.{plain, test-eq}
use Rattle.words.specs.Bits.{cell}
use Rattle.words.proofs.Tally.{tally-mono}
use Rattle.open_map.specs.Maps.{Map, map_given}
use Rattle.open_map.specs.Turns.{set_before}
use Rattle.open_map.proofs.Given.{Given, given, within}
use Rattle.open_map.proofs.Numbers.{cast-up}
use Rattle.open_map.proofs.Risen.{into_next, round-turns, inside-outside}
use Rattle.open_map.proofs.turns.risen_round.Goals as goal
use Rattle.open_map.proofs.turns.risen_round.Goals.{After-ones_between, After-ones_outside-outside, Start}

abbrev map : Start → Map
map s = map_given s.args.period s.args.words.now

known : (s : Start) → Given s.args.period s.args.words.now
known s = given s.args.period s.args.words.now s.requires.sound

natural : (s : Start) → pos 0 ≤ℤ s.args.period
natural s = (known s).period-is ∴ simp ints (omega arith)

pub overflow_cast-period : goal.overflow_cast-period
overflow_cast-period c = let s = (goal.at.overflow_cast-period c).Start in let n = cast-up s.args.period s.ranges.period (natural s) in (n.0, n.1)

pub ones_outside-outside-requires : goal.ones_outside-outside-requires
ones_outside-outside-requires c =
    let s = (goal.at.ones_outside-outside-requires c).Start in
    let g = known s in
    let n = (cast-up s.args.period s.ranges.period (natural s)).2 in
    ((omega (arith, g.whole, g.high), omega (arith, g.whole)), s.requires.within.1, omega (arith, s.requires.within.2))

outside-is : (c : After-ones_outside-outside)
    → let s = (goal.at.After-ones_outside-outside c).Start in
    set_before (map s) s.args.a + c.ones_outside-outside.result ≡ set_before (map s) s.args.c + set_before (map s) (up s.args.period)
outside-is c =
    let s = (goal.at.After-ones_outside-outside c).Start in
    omega (arith, c.ones_outside-outside.ensures, ap (set_before (map s)) (cast-up s.args.period s.ranges.period (natural s)).2)

few : (c : After-ones_outside-outside) → c.ones_outside-outside.result ≤ 4194304
few c =
    let s = (goal.at.After-ones_outside-outside c).Start in
    let g = known s in
    omega (arith, outside-is c, tally-mono (cell s.args.words.now) s.args.c s.args.a s.requires.within.1, g.most, g.high)

pub overflow_cast-result : goal.overflow_cast-result
overflow_cast-result c = few (goal.at.overflow_cast-result c).After-ones_outside-outside ∴ simp ints (omega arith)

pub returns-then-turns-eq1 : goal.returns-then-turns-eq1
returns-then-turns-eq1 c =
    let s = (goal.at.returns-then-turns-eq1 c).Start in
    let u = s.ranges.turns in
    let b : c.ones_outside-outside.result < 2 ^ 63 = omega (arith, few (goal.at.returns-then-turns-eq1 c).After-ones_outside-outside) in
    let one : s.args.turns ≡ pos 1 = (test-eq w64 s.args.turns (pos 1) u (simp ints (omega arith))).0 c.if-turns-eq1.true in
    simp plain (into_next (map s) s.args.c s.args.a c.ones_outside-outside.result s.args.turns one (outside-is (goal.at.returns-then-turns-eq1 c).After-ones_outside-outside))

pub ones_between-requires : goal.ones_between-requires
ones_between-requires c =
    let s = (goal.at.ones_between-requires c).Start in
    (within s.args.period s.args.words.now (known s) s.args.a s.requires.within.2, s.requires.within.1)

-- all set cells of a turn
total-is : (c : After-ones_between)
    → let s = (goal.at.After-ones_between c).Start in
    c.ones_outside-outside.result + c.ones_between.result ≡ set_before (map s) (up s.args.period)
total-is c =
    let s = (goal.at.After-ones_between c).Start in
    inside-outside (map s) s.args.c s.args.a c.ones_between.result c.ones_outside-outside.result
    c.ones_between.ensures (outside-is (goal.at.After-ones_between c).After-ones_outside-outside)

total-few : (c : After-ones_between) → (1 ≤ c.ones_outside-outside.result + c.ones_between.result) × (c.ones_outside-outside.result + c.ones_between.result ≤ 4194304)
total-few c =
    let g = known (goal.at.After-ones_between c).Start in
    (omega (arith, total-is c, g.some), omega (arith, total-is c, g.most, g.high))

pub overflow_add-total : goal.overflow_add-total
overflow_add-total c = let f = total-few c in record { fits = omega arith }

pub overflow_cast-total : goal.overflow_cast-total
overflow_cast-total c = total-few c ∴ simp ints (omega arith)

less-fits : (s : Start) → SFits w64 (s.args.turns -ℤ pos 1)
less-fits s = s.requires.within.0 ∴ simp ints (omega arith)

pub overflow_sub-turns : goal.overflow_sub-turns
overflow_sub-turns c =
    let s = (goal.at.overflow_sub-turns c).Start in
    let u = s.ranges.turns in
    simp plain (less-fits s)

pub composed-requires : goal.composed-requires
composed-requires c =
    let s = (goal.at.composed-requires c).Start in
    let u = s.ranges.turns in
    let v = less-fits s in
    let f = total-few c in
    let b : c.ones_outside-outside.result + c.ones_between.result < 2 ^ 63 = omega arith in
    record { turning = simp plain (f ∴ simp ints (omega arith)); within = simp plain (s.requires.within.0 ∴ simp ints (omega arith), omega (arith, few (goal.at.composed-requires c).After-ones_outside-outside)) }

pub returns : goal.returns
returns c =
    let a = (goal.at.returns c).After-ones_between in
    let s = (goal.at.After-ones_between a).Start in
    let r = a.ones_outside-outside.result in
    let n = r + a.ones_between.result in
    let u = s.ranges.turns in
    let v = less-fits s in
    let f = total-few a in
    let b : n < 2 ^ 63 = omega arith in
    let e : c.composed.result ≡ pos n *ℤ (s.args.turns -ℤ pos 1) +ℤ pos r = simp plain at c.composed.ensures in
    to_z-of_z {w = w64} (sfits_of c.composed.type_inv)
    ∙ round-turns (map s) s.args.c s.args.a r s.args.turns c.composed.result n (total-is a) (outside-is (goal.at.After-ones_between a).After-ones_outside-outside) e
