-- `open_map::turns::risen` meets its contract.
-- Assumes nothing.
use mathlib.Core.Path.{◌≡◌, ◌∙◌, ap}
use Prim.Native.Nat.{ℕ, ◌^◌, ◌≤◌}
use native.Mathlib.Omega.{arith}
use borrow.Author.Rules.{sfits_of}
use lib.IntN.{ℤ, ◌-ℤ◌}
use mir.Facts.{to_z-of_z}
use mir.Syntax.{w64}
use mir.Val.{SFits}
use Rattle.integers.specs.Parts.{up}
use Rattle.integers.specs.Floor.{floor_mod}
use Rattle.integers.proofs.Linear.{ints, ◌∴◌}
use Rattle.integers.proofs.Machine.{plain}
use Rattle.cursors.specs.Found.{Within}
use Rattle.open_map.specs.Maps.{Map, map_given}
use Rattle.open_map.specs.Turns.{rank, risen_over}
use Rattle.open_map.proofs.Given.{Given, given, turning}
use Rattle.open_map.proofs.Numbers.{Placed, placed}
use Rattle.open_map.proofs.Risen.{rank-risen}
use Rattle.open_map.proofs.turns.risen.Goals as goal
use Rattle.open_map.proofs.turns.risen.Goals.{After-turn_of-from, After-turn_of-to, Start}

abbrev map : Start → Map
map s = map_given s.args.period s.args.words.now

known : (s : Start) → Given s.args.period s.args.words.now
known s = given s.args.period s.args.words.now s.requires.sound

pub turn_of-from-requires : goal.turn_of-from-requires
turn_of-from-requires c =
    let s = (goal.at.turn_of-from-requires c).Start in
    let p = s.ranges.period in
    simp plain (turning s.args.period s.args.words.now (known s))

pub turn_of-to-requires : goal.turn_of-to-requires
turn_of-to-requires c =
    let s = (goal.at.turn_of-to-requires c).Start in
    let p = s.ranges.period in
    simp plain (turning s.args.period s.args.words.now (known s))

-- the turns and cells of s and t
from : (c : After-turn_of-from) → let s = (goal.at.After-turn_of-from c).Start in Placed (up s.args.period) s.args.s c.turn_of-from.result
from c =
    let s = (goal.at.After-turn_of-from c).Start in
    let p = s.ranges.period in
    let t = s.ranges.s in
    placed (up s.args.period) (known s).low (known s).high s.args.s s.requires.within.0 c.turn_of-from.result (simp plain at c.turn_of-from.ensures)

to : (c : After-turn_of-to) → let s = (goal.at.After-turn_of-to c).Start in Placed (up s.args.period) s.args.t c.turn_of-to.result
to c =
    let s = (goal.at.After-turn_of-to c).Start in
    let p = s.ranges.period in
    let t = s.ranges.t in
    placed (up s.args.period) (known s).low (known s).high s.args.t s.requires.within.1 c.turn_of-to.result (simp plain at c.turn_of-to.ensures)

abbrev turns : After-turn_of-to → ℤ
turns c = c.turn_of-to.result.turn -ℤ c.turn_of-from.result.turn

near : (c : After-turn_of-to) → Within (2 ^ 34) (turns c)
near c = (to c).near ∴ (from (goal.at.After-turn_of-to c).After-turn_of-from).near ∴ simp ints (omega arith)

turns_fit : (c : After-turn_of-to) → SFits w64 (turns c)
turns_fit c = near c ∴ simp ints (omega arith)

pub overflow_sub-turns : goal.overflow_sub-turns
overflow_sub-turns c =
    let a = (goal.at.overflow_sub-turns c).After-turn_of-to in
    let f = (to a).turn-fits in
    let g = (from (goal.at.After-turn_of-to a).After-turn_of-from).turn-fits in
    simp plain (turns_fit a)

-- what the parts ask for, but for the order of the cells
cells : (c : After-turn_of-to) → let P = up c.args.period in (c.turn_of-from.result.cell ≤ P) × (c.turn_of-to.result.cell ≤ P)
cells c = (omega (arith, (from (goal.at.After-turn_of-to c).After-turn_of-from).below), omega (arith, (to c).below))

pub risen_on-requires : goal.risen_on-requires
risen_on-requires c =
    let a = (goal.at.risen_on-requires c).After-turn_of-to in
    let s = (goal.at.After-turn_of-to a).Start in
    let p = s.ranges.period in
    let f = (to a).turn-fits in
    let g = (from (goal.at.After-turn_of-to a).After-turn_of-from).turn-fits in
    let u = turns_fit a in
    record { sound = simp plain s.requires.sound; within = simp plain (near a, c.if-a-c.true, (cells a).1) }

pub risen_round-requires : goal.risen_round-requires
risen_round-requires c =
    let a = (goal.at.risen_round-requires c).After-turn_of-to in
    let s = (goal.at.After-turn_of-to a).Start in
    let p = s.ranges.period in
    let f = (to a).turn-fits in
    let g = (from (goal.at.After-turn_of-to a).After-turn_of-from).turn-fits in
    let u = turns_fit a in
    record { sound = simp plain s.requires.sound; within = simp plain (near a, omega (arith, c.if-a-c.false), (cells a).0) }

-- what they give
risen-so : (c : After-turn_of-to) (z : ℤ)
    → let s = (goal.at.After-turn_of-to c).Start in
    z ≡ risen_over (map s) (turns c) c.turn_of-from.result.cell c.turn_of-to.result.cell
    → z ≡ rank (map s) s.args.t -ℤ rank (map s) s.args.s
risen-so c z e =
    let s = (goal.at.After-turn_of-to c).Start in
    let a = from (goal.at.After-turn_of-to c).After-turn_of-from in
    let b = to c in
    e ∙ ap (λ (n : ℕ). risen_over (map s) (turns c) n c.turn_of-to.result.cell) a.cell-is
    ∙ ap (λ (n : ℕ). risen_over (map s) (turns c) (floor_mod s.args.s (up s.args.period)) n) b.cell-is
    ∙ rank-risen (map s) s.args.s s.args.t (turns c) (a.turn_is ∴ b.turn_is ∴ simp ints (omega arith))

pub returns-then-a-c : goal.returns-then-a-c
returns-then-a-c c =
    let a = (goal.at.returns-then-a-c c).After-turn_of-to in
    let s = (goal.at.After-turn_of-to a).Start in
    let p = s.ranges.period in
    let f = (to a).turn-fits in
    let g = (from (goal.at.After-turn_of-to a).After-turn_of-from).turn-fits in
    let u = turns_fit a in
    to_z-of_z {w = w64} (sfits_of c.risen_on.type_inv) ∙ risen-so a c.risen_on.result (simp plain at c.risen_on.ensures)

pub returns-else-a-c : goal.returns-else-a-c
returns-else-a-c c =
    let a = (goal.at.returns-else-a-c c).After-turn_of-to in
    let s = (goal.at.After-turn_of-to a).Start in
    let p = s.ranges.period in
    let f = (to a).turn-fits in
    let g = (from (goal.at.After-turn_of-to a).After-turn_of-from).turn-fits in
    let u = turns_fit a in
    to_z-of_z {w = w64} (sfits_of c.risen_round.type_inv) ∙ risen-so a c.risen_round.result (simp plain at c.risen_round.ensures)
