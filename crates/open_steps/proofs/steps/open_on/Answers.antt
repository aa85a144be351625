-- `open_steps::steps::open_on` meets its contract: in the turn of t, or by whole turns.
-- Assumes nothing.
use Rattle.std.specs.Prelude.{Ok}
use mathlib.Core.Path.{◌≡◌, ◌∙◌, sym, ap, subst}
use Prim.Native.Nat.{◌+◌}
use native.Mathlib.Omega.{arith}
use borrow.Author.Rules.{sfits_of}
use lib.IntN.{ℤ, pos, ◌+ℤ◌, ◌*ℤ◌}
use mir.Facts.{to_z-of_z}
use mir.Syntax.{w64}
use Rattle.integers.specs.Parts.{up}
use Rattle.integers.proofs.Linear.{ints, ◌∴◌}
use Rattle.integers.proofs.Machine.{plain}
use Rattle.words.specs.Bits.{cell, tally}
use Rattle.open_map.specs.Maps.{Map, map_given}
use Rattle.open_map.specs.Turns.{set_before}
use Rattle.open_map.proofs.Given.{Given, given, turning, within}
use Rattle.open_map.proofs.Numbers.{Placed, placed}
use Rattle.open_map.proofs.Found.{set_below}
use Rattle.open_steps.specs.Ranked.{NthFrom, instant_at, OpenFrom}
use Rattle.open_steps.proofs.Found.{open-here}
use Rattle.open_steps.proofs.steps.open_on.Goals as goal
use Rattle.open_steps.proofs.steps.open_on.Goals.{After-nth_from-found, After-turn_of-at, In-Ok, Start}

abbrev map : Start → Map
map s = map_given s.args.period s.args.words.now

known : (s : Start) → Given s.args.period s.args.words.now
known s = given s.args.period s.args.words.now s.requires.sound

pub turn_of-at-requires : goal.turn_of-at-requires
turn_of-at-requires c =
    let s = (goal.at.turn_of-at-requires c).Start in
    let p = s.ranges.period in
    simp plain (turning s.args.period s.args.words.now (known s))

-- the turn and the cell of t
there : (c : After-turn_of-at) → let s = (goal.at.After-turn_of-at c).Start in Placed (up s.args.period) s.args.t c.turn_of-at.result
there c =
    let s = (goal.at.After-turn_of-at c).Start in
    let p = s.ranges.period in
    let t = s.ranges.t in
    placed (up s.args.period) (known s).low (known s).high s.args.t (s.requires.within.0 ∴ simp ints (omega arith)) c.turn_of-at.result (simp plain at c.turn_of-at.ensures)

pub nth_from-found-requires : goal.nth_from-found-requires
nth_from-found-requires c =
    let a = (goal.at.nth_from-found-requires c).After-turn_of-at in
    let s = (goal.at.After-turn_of-at a).Start in
    let w = within s.args.period s.args.words.now (known s) (up s.args.period) (omega arith) in
    (w.0, omega (arith, w.1, (there a).below), s.requires.within.1)

-- a cell of this turn
here : (c : In-Ok) → let n = (goal.at.In-Ok c).After-nth_from-found in let a = (goal.at.After-nth_from-found n).After-turn_of-at in let s = (goal.at.After-turn_of-at a).Start in
    NthFrom s.args.words.now a.turn_of-at.result.cell s.args.k (Ok c.in-Ok.i)
here c =
    let n = (goal.at.In-Ok c).After-nth_from-found in
    let a = (goal.at.After-nth_from-found n).After-turn_of-at in
    let s = (goal.at.After-turn_of-at a).Start in
    subst (NthFrom s.args.words.now a.turn_of-at.result.cell s.args.k) c.in-Ok.is n.nth_from-found.ensures

pub composed-requires : goal.composed-requires
composed-requires c =
    let a = (goal.at.composed-requires c).After-turn_of-at in
    let s = (goal.at.After-turn_of-at a).Start in
    let p = s.ranges.period in
    let f = (there a).turn-fits in
    let i = set_below s.args.period s.args.words.now (known s) c.in-Ok.i (here c).set in
    record { turning = simp plain (turning s.args.period s.args.words.now (known s)); within = simp plain ((there a).near ∴ simp ints (omega arith), omega (arith, i, (known s).high)) }

pub turns_on-requires : goal.turns_on-requires
turns_on-requires c =
    let n = (goal.at.turns_on-requires c).After-nth_from-found in
    let a = (goal.at.After-nth_from-found n).After-turn_of-at in
    let s = (goal.at.After-turn_of-at a).Start in
    let p = s.ranges.period in
    let f = (there a).turn-fits in
    let l = subst (NthFrom s.args.words.now a.turn_of-at.result.cell s.args.k) c.in-Err.is n.nth_from-found.ensures in
    record { sound = simp plain s.requires.sound; near = simp plain (((there a).below, (there a).near), s.requires.within.1, l) }

pub returns-in-Ok : goal.returns-in-Ok
returns-in-Ok c =
    let d = (goal.at.returns-in-Ok c).In-Ok in
    let a = (goal.at.In-Ok d).After-turn_of-at in
    let s = (goal.at.After-turn_of-at a).Start in
    let l = s.args.words.now in
    let r = a.turn_of-at.result in
    let g = known s in
    let p = s.ranges.period in
    let f = (there a).turn-fits in
    let i = d.in-Ok.i in
    let e : c.composed.result ≡ s.args.period *ℤ r.turn +ℤ pos i = simp plain at c.composed.ensures in
    let q : pos (set_before (map s) r.cell) +ℤ pos s.args.k ≡ pos (tally (cell l) r.cell + s.args.k) = simp ints (omega arith) in
    subst (OpenFrom (map s) s.args.t (pos s.args.k))
    (sym (to_z-of_z {w = w64} (sfits_of c.composed.type_inv) ∙ e ∙ ap (λ (z : ℤ). z *ℤ r.turn +ℤ pos i) g.period-is))
    (open-here s.args.period l g s.args.t _ r.turn r.cell _ i (there a).is (there a).below q (here d))

pub returns-in-Err : goal.returns-in-Err
returns-in-Err c =
    let a = (goal.at.returns-in-Err c).After-turn_of-at in
    let s = (goal.at.After-turn_of-at a).Start in
    let r = a.turn_of-at.result in
    let p = s.ranges.period in
    let f = (there a).turn-fits in
    let o : OpenFrom (map s) (instant_at s.args.period r.turn r.cell) (pos s.args.k) c.turns_on.result = simp plain at c.turns_on.ensures in
    subst (OpenFrom (map s) s.args.t (pos s.args.k)) (sym (to_z-of_z {w = w64} (sfits_of c.turns_on.type_inv)))
    (subst (λ (z : ℤ). OpenFrom (map s) z (pos s.args.k) c.turns_on.result) (sym (there a).is) o)
