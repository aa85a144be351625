-- `open_map::finding::next_of` meets its contract: a set cell in the turn, or the first of the next.
-- Assumes nothing.
use mathlib.Core.Path.{◌≡◌, ◌∙◌, sym, ap, subst}
use Prim.Native.Nat.{◌^◌, ◌≤◌}
use native.Mathlib.Omega.{arith}
use borrow.Author.Rules.{sfits_of}
use lib.IntN.{ℤ, pos, ◌+ℤ◌, ◌*ℤ◌}
use mir.Facts.{to_z-of_z}
use mir.Syntax.{w64}
use mir.Val.{SFits}
use Rattle.integers.specs.Parts.{up}
use Rattle.integers.proofs.Linear.{ints, ◌∴◌}
use Rattle.integers.proofs.Machine.{plain}
use Rattle.calendar.specs.Limits.{pool_limit}
use Rattle.cursors.specs.Found.{Within}
use Rattle.words.specs.Bits.{cell}
use Rattle.words.specs.Places.{Least}
use Rattle.bitmaps.specs.Cells.{FirstFrom}
use Rattle.open_map.proofs.Given.{Given, given, turning, within}
use Rattle.open_map.proofs.Numbers.{Placed, placed}
use Rattle.open_map.proofs.Found.{nowhere, set_below, next_here, next-turn}
use Rattle.open_map.proofs.finding.next_of.Goals as goal
use Rattle.open_map.proofs.finding.next_of.Goals.{After-first_cell-first, After-first_from-place, After-turn_of-at, In-Some, In_default, Start}

known : (s : Start) → Given s.args.period s.args.words.now
known s = given s.args.period s.args.words.now s.requires.sound

behind-fits : (s : Start) → SFits w64 (s.args.x +ℤ pos 1)
behind-fits s = s.requires.within ∴ simp ints (omega arith)

pub overflow_add-x : goal.overflow_add-x
overflow_add-x c = let x = c.ranges.x in simp plain (behind-fits (goal.at.overflow_add-x c).Start)

pub turn_of-at-requires : goal.turn_of-at-requires
turn_of-at-requires c =
    let s = (goal.at.turn_of-at-requires c).Start in
    let p = s.ranges.period in
    simp plain (turning s.args.period s.args.words.now (known s))

there : (c : After-turn_of-at) → Placed (up c.args.period) (c.args.x +ℤ pos 1) c.turn_of-at.result
there c =
    let s = (goal.at.After-turn_of-at c).Start in
    let p = s.ranges.period in
    let x = s.ranges.x in
    let b = behind-fits s in
    placed (up s.args.period) (known s).low (known s).high (s.args.x +ℤ pos 1) (s.requires.within ∴ simp ints (omega arith)) c.turn_of-at.result (simp plain at c.turn_of-at.ensures)

pub first_from-place-requires : goal.first_from-place-requires
first_from-place-requires c =
    let s = (goal.at.first_from-place-requires c).Start in
    within s.args.period s.args.words.now (known s) c.turn_of-at.result.cell (omega (arith, (there (goal.at.first_from-place-requires c).After-turn_of-at).below))

pub first_cell-first-requires : goal.first_cell-first-requires
first_cell-first-requires c =
    let s = (goal.at.first_cell-first-requires c).Start in
    let p = s.ranges.period in
    simp plain s.requires.sound

-- no cell is set in this turn: the turn beside it
beside : (c : After-first_cell-first) → let a = (goal.at.After-first_cell-first c).After-turn_of-at in Within (2 ^ 34) (a.turn_of-at.result.turn +ℤ pos 1)
beside c = (there (goal.at.After-first_cell-first c).After-turn_of-at).near ∴ simp ints (omega arith)

beside-fits : (c : After-first_cell-first) → let a = (goal.at.After-first_cell-first c).After-turn_of-at in SFits w64 (a.turn_of-at.result.turn +ℤ pos 1)
beside-fits c = beside c ∴ simp ints (omega arith)

pub overflow_add-turn : goal.overflow_add-turn
overflow_add-turn c = let f = (there (goal.at.overflow_add-turn c).After-turn_of-at).turn-fits in simp plain (beside-fits c)

there-cell : (c : After-first_cell-first) → c.first_cell-first.result ≤ pool_limit
there-cell c =
    let s = (goal.at.After-first_cell-first c).Start in
    omega (arith, (known s).high, set_below s.args.period s.args.words.now (known s) c.first_cell-first.result c.first_cell-first.ensures.set)

pub composed-requires : goal.composed-requires
composed-requires c =
    let s = (goal.at.composed-requires c).Start in
    let p = s.ranges.period in
    let f = (there (goal.at.composed-requires c).After-turn_of-at).turn-fits in
    let b = beside-fits c in
    record { turning = simp plain (turning s.args.period s.args.words.now (known s)); within = simp plain (beside c ∴ simp ints (omega arith), omega (arith, there-cell c)) }

pub returns-in_default : goal.returns-in_default
returns-in_default c =
    let d = (goal.at.returns-in_default c).After-first_cell-first in
    let e = (goal.at.After-first_cell-first d).In_default in
    let k = (goal.at.In_default e).After-first_from-place in
    let a = (goal.at.After-first_from-place k).After-turn_of-at in
    let s = (goal.at.After-turn_of-at a).Start in
    let l = s.args.words.now in
    let r = a.turn_of-at.result in
    let p = s.ranges.period in
    let f = (there a).turn-fits in
    let b = beside-fits d in
    let i : c.composed.result ≡ s.args.period *ℤ (r.turn +ℤ pos 1) +ℤ pos d.first_cell-first.result = simp plain at c.composed.ensures in
    to_z-of_z {w = w64} (sfits_of c.composed.type_inv) ∙ i ∙ ap (λ (z : ℤ). z *ℤ (r.turn +ℤ pos 1) +ℤ pos d.first_cell-first.result) (known s).period-is
    ∙ sym (next-turn s.args.period l (known s) s.args.x r.turn r.cell d.first_cell-first.result (there a).is (there a).below
    (subst (FirstFrom l r.cell) (nowhere _ e.in_default.not-Some) k.first_from-place.ensures) d.first_cell-first.ensures)

-- a cell of this turn
found : (c : In-Some) → let a = (goal.at.In-Some c).After-turn_of-at in Least (cell a.args.words.now) a.turn_of-at.result.cell c.in-Some.i
found c =
    let k = (goal.at.In-Some c).After-first_from-place in
    let a = (goal.at.After-first_from-place k).After-turn_of-at in
    subst (FirstFrom a.args.words.now a.turn_of-at.result.cell) c.in-Some.is k.first_from-place.ensures

pub composed-requires-2 : goal.composed-requires-2
composed-requires-2 c =
    let a = (goal.at.composed-requires-2 c).After-turn_of-at in
    let s = (goal.at.After-turn_of-at a).Start in
    let p = s.ranges.period in
    let f = (there a).turn-fits in
    record { turning = simp plain (turning s.args.period s.args.words.now (known s)); within = simp plain ((there a).near ∴ simp ints (omega arith), omega (arith, (known s).high, set_below s.args.period s.args.words.now (known s) c.in-Some.i (found c).set)) }

pub returns : goal.returns
returns c =
    let d = (goal.at.returns c).In-Some in
    let a = (goal.at.In-Some d).After-turn_of-at in
    let s = (goal.at.After-turn_of-at a).Start in
    let r = a.turn_of-at.result in
    let n = d.in-Some.i in
    let p = s.ranges.period in
    let f = (there a).turn-fits in
    let i : c.composed-2.result ≡ s.args.period *ℤ r.turn +ℤ pos n = simp plain at c.composed-2.ensures in
    to_z-of_z {w = w64} (sfits_of c.composed-2.type_inv) ∙ i ∙ ap (λ (z : ℤ). z *ℤ r.turn +ℤ pos n) (known s).period-is
    ∙ sym (next_here s.args.period s.args.words.now (known s) s.args.x r.turn r.cell n (there a).is (there a).below (found d))
