-- `open_steps::steps::turns_on` meets its contract: the rank in the turn, by whole turns of the set cells and the rest.
-- Assumes nothing.
use mathlib.Core.Path.{◌≡◌, refl, ◌∙◌, sym, ap, subst}
use Prim.Native.Nat.{ℕ, ◌+◌, ◌*◌, ◌-◌, ◌^◌, ◌≤◌, ◌<◌}
use native.Mathlib.Omega.{arith}
use borrow.Author.Rules.{sfits_of}
use lib.IntN.{ℤ, pos, ◌+ℤ◌, ◌*ℤ◌}
use lib.ListN.{length}
use mir.Facts.{to_z-of_z}
use mir.Syntax.{w64}
use mir.Val.{SFits}
use Rattle.integers.specs.Parts.{up}
use Rattle.integers.proofs.Linear.{ints, ◌∴◌}
use Rattle.integers.proofs.Machine.{plain}
use Rattle.cursors.specs.Found.{Within}
use Rattle.words.specs.Bits.{cell, tally}
use Rattle.words.proofs.Tally.{tally-mono}
use Rattle.open_map.specs.Maps.{Map, map_given}
use Rattle.open_map.specs.Turns.{set_before, turned_at}
use Rattle.open_map.proofs.Given.{Given, given, turning, within}
use Rattle.open_map.proofs.Numbers.{Placed, placed}
use Rattle.open_map.proofs.Found.{set_below}
use Rattle.open_steps.specs.Ranked.{instant_at, OpenFrom}
use Rattle.open_steps.proofs.Found.{open-from, all_set}
use Rattle.open_steps.proofs.steps.turns_on.Goals as goal
use Rattle.open_steps.proofs.steps.turns_on.Goals.{After-nth_cell-i, After-ones_before, After-turn_of-rest, Start}

abbrev map : Start → Map
map s = map_given s.args.period s.args.words.now

known : (s : Start) → Given s.args.period s.args.words.now
known s = given s.args.period s.args.words.now s.requires.sound

-- how many cells are set
abbrev total : Start → ℕ
total s = set_before (map s) (up s.args.period)

pub ones_before-requires : goal.ones_before-requires
ones_before-requires c =
    let s = (goal.at.ones_before-requires c).Start in
    within s.args.period s.args.words.now (known s) s.args.cell (omega (arith, s.requires.near.0.0))

counted : (c : After-ones_before) → let s = (goal.at.After-ones_before c).Start in (s.args.lacking ≤ s.args.k) × (c.ones_before.result + (s.args.k - s.args.lacking) ≡ total s)
counted c =
    let s = (goal.at.After-ones_before c).Start in
    let l = s.args.words.now in
    let w = within s.args.period l (known s) (up s.args.period) (omega arith) in
    let m = tally-mono (cell l) s.args.cell (64 * length l) (omega (arith, w.1, s.requires.near.0.0)) in
    let e : tally (cell l) (64 * length l) + s.args.lacking ≡ tally (cell l) s.args.cell + s.args.k = s.requires.near.2 in
    (omega arith, omega (arith, all_set s.args.period l (known s), c.ones_before.ensures))

few : (c : After-ones_before) → let s = (goal.at.After-ones_before c).Start in let n = c.ones_before.result + (s.args.k - s.args.lacking) in (1 ≤ n) × (n ≤ 4194304)
few c = let g = known (goal.at.After-ones_before c).Start in (omega (arith, (counted c).1, g.some), omega (arith, (counted c).1, g.most, g.high))

pub overflow_sub-total : goal.overflow_sub-total
overflow_sub-total c = omega (arith, (counted c).0)

pub overflow_add-total : goal.overflow_add-total
overflow_add-total c = let f = few c in record { fits = omega arith }

pub overflow_cast-total : goal.overflow_cast-total
overflow_cast-total c = few c ∴ simp ints (omega arith)

pub overflow_add-total-2 : goal.overflow_add-total-2
overflow_add-total-2 c = let f = few c in record { fits = omega (arith, (counted c).0, c.requires.near.1) }

-- the rank that is asked for, from the start of the turn
abbrev sought : After-ones_before → ℕ
sought c = let s = (goal.at.After-ones_before c).Start in c.ones_before.result + (s.args.k - s.args.lacking) + s.args.lacking

near : (c : After-ones_before) → sought c < 2 ^ 32
near c = omega (arith, few c, (counted c).0, c.requires.near.1)

pub overflow_cast-total-2 : goal.overflow_cast-total-2
overflow_cast-total-2 c = near c ∴ simp ints (omega arith)

pub turn_of-rest-requires : goal.turn_of-rest-requires
turn_of-rest-requires c =
    let s = (goal.at.turn_of-rest-requires c).Start in
    let f = few c in
    let b : c.ones_before.result + (s.args.k - s.args.lacking) < 2 ^ 63 = omega arith in
    simp plain (f ∴ simp ints (omega arith))

-- its turns of the set cells, and the rest
rest : (c : After-turn_of-rest) → Placed (total (goal.at.After-turn_of-rest c).Start) (pos (sought (goal.at.After-turn_of-rest c).After-ones_before)) c.turn_of-rest.result
rest c =
    let a = (goal.at.After-turn_of-rest c).After-ones_before in
    let s = (goal.at.After-ones_before a).Start in
    let g = known s in
    let n = a.ones_before.result + (s.args.k - s.args.lacking) in
    let b : n < 2 ^ 63 = omega (arith, few a) in
    let d : sought a < 2 ^ 63 = omega (arith, near a) in
    let e : c.turn_of-rest.result ≡ turned_at n (pos (sought a)) = simp plain at c.turn_of-rest.ensures in
    placed (total s) g.some (omega (arith, g.most, g.high)) (pos (sought a)) (near a ∴ simp ints (omega arith)) c.turn_of-rest.result
    (e ∙ ap (λ (m : ℕ). turned_at m (pos (sought a))) (counted a).1)

pub nth_cell-i-requires : goal.nth_cell-i-requires
nth_cell-i-requires c =
    let s = (goal.at.nth_cell-i-requires c).Start in
    let l = s.args.words.now in
    let g = known s in
    ((within s.args.period l g 0 (omega arith)).0, omega (arith, (rest c).below, g.most, g.high), omega (arith, (rest c).below, all_set s.args.period l g))

-- the turn of the cell found
abbrev turn : After-turn_of-rest → ℤ
turn c = c.args.turn +ℤ c.turn_of-rest.result.turn

turn_near : (c : After-turn_of-rest) → Within (2 ^ 35) (turn c)
turn_near c = c.requires.near.0.1 ∴ (rest c).near ∴ simp ints (omega arith)

turn-fits : (c : After-turn_of-rest) → SFits w64 (turn c)
turn-fits c = turn_near c ∴ simp ints (omega arith)

pub overflow_add-turn : goal.overflow_add-turn
overflow_add-turn c =
    let b = (goal.at.overflow_add-turn c).After-turn_of-rest in
    let t = b.ranges.turn in
    let f = (rest b).turn-fits in
    simp plain (turn-fits b)

pub composed-requires : goal.composed-requires
composed-requires c =
    let n = (goal.at.composed-requires c).After-nth_cell-i in
    let b = (goal.at.After-nth_cell-i n).After-turn_of-rest in
    let s = (goal.at.After-turn_of-rest b).Start in
    let p = s.ranges.period in
    let t = s.ranges.turn in
    let f = (rest b).turn-fits in
    let h = turn-fits b in
    let i = set_below s.args.period s.args.words.now (known s) n.nth_cell-i.result n.nth_cell-i.ensures.set in
    record { turning = simp plain (turning s.args.period s.args.words.now (known s)); within = simp plain (turn_near b ∴ simp ints (omega arith), omega (arith, i, (known s).high)) }

pub returns : goal.returns
returns c =
    let n = (goal.at.returns c).After-nth_cell-i in
    let b = (goal.at.After-nth_cell-i n).After-turn_of-rest in
    let s = (goal.at.After-turn_of-rest b).Start in
    let l = s.args.words.now in
    let g = known s in
    let p = s.ranges.period in
    let t = s.ranges.turn in
    let f = (rest b).turn-fits in
    let w = turn-fits b in
    let i = n.nth_cell-i.result in
    let e : c.composed.result ≡ s.args.period *ℤ turn b +ℤ pos i = simp plain at c.composed.ensures in
    let m : tally (cell l) (64 * length l) + s.args.lacking ≡ tally (cell l) s.args.cell + s.args.k = s.requires.near.2 in
    let q : pos (set_before (map s) s.args.cell) +ℤ pos s.args.k ≡ pos (total s) *ℤ b.turn_of-rest.result.turn +ℤ pos b.turn_of-rest.result.cell =
    m ∴ all_set s.args.period l g ∴ (counted (goal.at.After-turn_of-rest b).After-ones_before).1 ∴ (rest b).is ∴ simp ints (omega arith) in
    subst (OpenFrom (map s) (instant_at s.args.period s.args.turn s.args.cell) (pos s.args.k))
    (sym (to_z-of_z {w = w64} (sfits_of c.composed.type_inv) ∙ e ∙ ap (λ (z : ℤ). z *ℤ turn b +ℤ pos i) g.period-is))
    (open-from s.args.period l g _ _ s.args.turn b.turn_of-rest.result.turn s.args.cell b.turn_of-rest.result.cell i refl s.requires.near.0.0 q n.nth_cell-i.ensures)
