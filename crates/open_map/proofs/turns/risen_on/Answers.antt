-- `open_map::turns::risen_on` meets its contract.
-- Assumes nothing.
use mathlib.Core.Path.{◌≡◌, ◌∙◌, ap}
use Prim.Native.Nat.{◌+◌, ◌^◌, ◌≤◌, ◌<◌}
use native.Mathlib.Omega.{arith}
use borrow.Author.Rules.{sfits_of}
use lib.IntN.{pos, ◌+ℤ◌, ◌*ℤ◌}
use lib.Signed.{◌≤ℤ◌}
use mir.Facts.{to_z-of_z}
use mir.Syntax.{w64}
use Rattle.integers.specs.Parts.{up}
use Rattle.integers.proofs.Linear.{ints, ◌∴◌}
use Rattle.integers.proofs.Machine.{plain, test-eq}
use Rattle.words.specs.Bits.{cell}
use Rattle.words.proofs.Tally.{tally-mono}
use Rattle.open_map.specs.Maps.{Map, map_given}
use Rattle.open_map.specs.Turns.{set_before}
use Rattle.open_map.proofs.Given.{Given, given, within}
use Rattle.open_map.proofs.Numbers.{cast-up}
use Rattle.open_map.proofs.Risen.{within-turn, over-turns, inside-outside}
use Rattle.open_map.proofs.turns.risen_on.Goals as goal
use Rattle.open_map.proofs.turns.risen_on.Goals.{After-ones_between-middle, After-ones_outside, Start}

abbrev map : Start → Map
map s = map_given s.args.period s.args.words.now

known : (s : Start) → Given s.args.period s.args.words.now
known s = given s.args.period s.args.words.now s.requires.sound

natural : (s : Start) → pos 0 ≤ℤ s.args.period
natural s = (known s).period-is ∴ simp ints (omega arith)

pub ones_between-middle-requires : goal.ones_between-middle-requires
ones_between-middle-requires c =
    let s = (goal.at.ones_between-middle-requires c).Start in
    (within s.args.period s.args.words.now (known s) s.args.c s.requires.within.2, s.requires.within.1)

few : (c : After-ones_between-middle) → c.ones_between-middle.result ≤ 4194304
few c =
    let s = (goal.at.After-ones_between-middle c).Start in
    let g = known s in
    omega (arith, c.ones_between-middle.ensures, tally-mono (cell s.args.words.now) s.args.c _ s.requires.within.2, g.most, g.high)

pub overflow_cast-result : goal.overflow_cast-result
overflow_cast-result c = few (goal.at.overflow_cast-result c).After-ones_between-middle ∴ simp ints (omega arith)

pub returns-then-turns-eq0 : goal.returns-then-turns-eq0
returns-then-turns-eq0 c =
    let s = (goal.at.returns-then-turns-eq0 c).Start in
    let u = s.ranges.turns in
    let b : c.ones_between-middle.result < 2 ^ 63 = omega (arith, few (goal.at.returns-then-turns-eq0 c).After-ones_between-middle) in
    simp plain (within-turn (map s) s.args.a s.args.c c.ones_between-middle.result s.args.turns ((test-eq w64 s.args.turns (pos 0) u (simp ints (omega arith))).0 c.if-turns-eq0.true) c.ones_between-middle.ensures)

pub overflow_cast-period : goal.overflow_cast-period
overflow_cast-period c = let s = (goal.at.overflow_cast-period c).Start in let n = cast-up s.args.period s.ranges.period (natural s) in (n.0, n.1)

pub ones_outside-requires : goal.ones_outside-requires
ones_outside-requires c =
    let s = (goal.at.ones_outside-requires c).Start in
    let g = known s in
    let n = (cast-up s.args.period s.ranges.period (natural s)).2 in
    ((omega (arith, g.whole, g.high), omega (arith, g.whole)), s.requires.within.1, omega (arith, s.requires.within.2))

-- all set cells of a turn
total-is : (c : After-ones_outside)
    → let s = (goal.at.After-ones_outside c).Start in
    c.ones_outside.result + c.ones_between-middle.result ≡ set_before (map s) (up s.args.period)
total-is c =
    let s = (goal.at.After-ones_outside c).Start in
    let n = ap (set_before (map s)) (cast-up s.args.period s.ranges.period (natural s)).2 in
    inside-outside (map s) s.args.a s.args.c c.ones_between-middle.result c.ones_outside.result
    c.ones_between-middle.ensures (omega (arith, c.ones_outside.ensures, n))

total-few : (c : After-ones_outside) → (1 ≤ c.ones_outside.result + c.ones_between-middle.result) × (c.ones_outside.result + c.ones_between-middle.result ≤ 4194304)
total-few c =
    let g = known (goal.at.After-ones_outside c).Start in
    (omega (arith, total-is c, g.some), omega (arith, total-is c, g.most, g.high))

pub overflow_add-total : goal.overflow_add-total
overflow_add-total c = let f = total-few c in record { fits = omega arith }

pub overflow_cast-total : goal.overflow_cast-total
overflow_cast-total c = total-few c ∴ simp ints (omega arith)

pub composed-requires : goal.composed-requires
composed-requires c =
    let s = (goal.at.composed-requires c).Start in
    let u = s.ranges.turns in
    let f = total-few c in
    let b : c.ones_outside.result + c.ones_between-middle.result < 2 ^ 63 = omega arith in
    record { turning = simp plain (f ∴ simp ints (omega arith)); within = simp plain (s.requires.within.0 ∴ simp ints (omega arith), omega (arith, few (goal.at.composed-requires c).After-ones_between-middle)) }

pub returns : goal.returns
returns c =
    let a = (goal.at.returns c).After-ones_outside in
    let s = (goal.at.After-ones_outside a).Start in
    let m = a.ones_between-middle in
    let n = a.ones_outside.result + m.result in
    let u = s.ranges.turns in
    let f = total-few a in
    let b : n < 2 ^ 63 = omega arith in
    let e : c.composed.result ≡ pos n *ℤ s.args.turns +ℤ pos m.result = simp plain at c.composed.ensures in
    to_z-of_z {w = w64} (sfits_of c.composed.type_inv) ∙ over-turns (map s) s.args.a s.args.c m.result s.args.turns c.composed.result n (total-is a) m.ensures e
