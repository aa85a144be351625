-- `open_steps::steps::turns_back` meets its contract: the rank in the turn, by whole turns of the set cells and the rest.
-- Assumes nothing.
use mathlib.Core.Path.{◌≡◌, refl, ◌∙◌, sym, ap, subst}
use Prim.Native.Nat.{ℕ, ◌+◌, ◌-◌, ◌^◌, ◌≤◌, ◌<◌}
use native.Mathlib.Omega.{arith}
use borrow.Author.Rules.{sfits_of}
use lib.IntN.{ℤ, pos, negsuc, nat_abs, ◌+ℤ◌, ◌-ℤ◌, ◌*ℤ◌}
use lib.Signed.{◌≤ℤ◌}
use mir.Facts.{to_z-of_z}
use mir.Syntax.{w64}
use mir.Val.{SFits, of_z, to_z}
use Rattle.integers.specs.Parts.{up}
use Rattle.integers.proofs.Linear.{ints, ◌∴◌}
use Rattle.integers.proofs.Machine.{plain}
use Rattle.cursors.specs.Found.{Within}
use Rattle.words.specs.Bits.{cell, tally}
use Rattle.open_map.specs.Maps.{Map, map_given}
use Rattle.open_map.specs.Turns.{set_before, turned_at}
use Rattle.open_map.proofs.Given.{Given, given, turning}
use Rattle.open_map.proofs.Numbers.{Placed, placed, cast-up}
use Rattle.open_map.proofs.Found.{set_below}
use Rattle.open_steps.specs.Ranked.{instant_at, OpenFrom}
use Rattle.open_steps.proofs.Found.{open-from}
use Rattle.open_steps.proofs.steps.turns_back.Goals as goal
use Rattle.open_steps.proofs.steps.turns_back.Goals.{After-nth_cell-i, After-ones_between, After-turn_of-rest, Start}

abbrev map : Start → Map
map s = map_given s.args.period s.args.words.now

known : (s : Start) → Given s.args.period s.args.words.now
known s = given s.args.period s.args.words.now s.requires.sound

-- how many cells are set
abbrev total : Start → ℕ
total s = set_before (map s) (up s.args.period)

natural : (s : Start) → pos 0 ≤ℤ s.args.period
natural s = (known s).period-is ∴ simp ints (omega arith)

-- the period as it is cast
abbrev cells : Start → ℕ
cells s = nat_abs (to_z w64 (of_z w64 s.args.period))

cells_are : (s : Start) → cells s ≡ up s.args.period
cells_are s = (cast-up s.args.period s.ranges.period (natural s)).2

pub overflow_cast-cells : goal.overflow_cast-cells
overflow_cast-cells c = let s = (goal.at.overflow_cast-cells c).Start in let n = cast-up s.args.period s.ranges.period (natural s) in (n.0, n.1)

pub ones_between-requires : goal.ones_between-requires
ones_between-requires c =
    let s = (goal.at.ones_between-requires c).Start in
    let g = known s in
    let n = cells_are s in
    ((omega (arith, g.whole, g.high), omega (arith, g.whole)), omega (arith, s.requires.near.0.0))

counted : (c : After-ones_between) → let s = (goal.at.After-ones_between c).Start in (s.args.lacking ≤ s.args.k) × (s.args.k - s.args.lacking + c.ones_between.result ≡ total s)
counted c =
    let s = (goal.at.After-ones_between c).Start in
    let l = s.args.words.now in
    let e : tally (cell l) s.args.cell + s.args.lacking ≡ s.args.k = s.requires.near.2 in
    (omega arith, omega (arith, ap (tally (cell l)) (cells_are s), c.ones_between.ensures))

few : (c : After-ones_between) → let s = (goal.at.After-ones_between c).Start in let n = s.args.k - s.args.lacking + c.ones_between.result in (1 ≤ n) × (n ≤ 4194304)
few c = let g = known (goal.at.After-ones_between c).Start in (omega (arith, (counted c).1, g.some), omega (arith, (counted c).1, g.most, g.high))

pub overflow_add-total : goal.overflow_add-total
overflow_add-total c = let f = few c in record { fits = omega arith }

pub overflow_cast-total : goal.overflow_cast-total
overflow_cast-total c = few c ∴ simp ints (omega arith)

-- the rank that is asked for, from the start of the turn
abbrev sought : Start → ℤ
sought s = negsuc 0 -ℤ pos s.args.lacking

lacks : (s : Start) → s.args.lacking ≤ 2 ^ 31
lacks s = let e : tally (cell s.args.words.now) s.args.cell + s.args.lacking ≡ s.args.k = s.requires.near.2 in omega (arith, s.requires.near.1)

sought-near : (s : Start) → Within (2 ^ 32) (sought s)
sought-near s = lacks s ∴ simp ints (omega arith)

sought-fits : (s : Start) → SFits w64 (sought s)
sought-fits s = sought-near s ∴ simp ints (omega arith)

pub overflow_sub-lacking : goal.overflow_sub-lacking
overflow_sub-lacking c =
    let s = (goal.at.overflow_sub-lacking c).Start in
    let d : s.args.lacking < 2 ^ 63 = omega (arith, lacks s) in
    simp plain (sought-fits s)

pub turn_of-rest-requires : goal.turn_of-rest-requires
turn_of-rest-requires c =
    let s = (goal.at.turn_of-rest-requires c).Start in
    let f = few c in
    let b : s.args.k - s.args.lacking + c.ones_between.result < 2 ^ 63 = omega arith in
    simp plain (f ∴ simp ints (omega arith))

-- its turns of the set cells, and the rest
rest : (c : After-turn_of-rest) → let s = (goal.at.After-turn_of-rest c).Start in Placed (total s) (sought s) c.turn_of-rest.result
rest c =
    let a = (goal.at.After-turn_of-rest c).After-ones_between in
    let s = (goal.at.After-ones_between a).Start in
    let g = known s in
    let n = s.args.k - s.args.lacking + a.ones_between.result in
    let b : n < 2 ^ 63 = omega (arith, few a) in
    let d : s.args.lacking < 2 ^ 63 = omega (arith, lacks s) in
    let q = sought-fits s in
    let e : c.turn_of-rest.result ≡ turned_at n (sought s) = simp plain at c.turn_of-rest.ensures in
    placed (total s) g.some (omega (arith, g.most, g.high)) (sought s) (sought-near s) c.turn_of-rest.result
    (e ∙ ap (λ (m : ℕ). turned_at m (sought s)) (counted a).1)

-- so many set cells are behind the one found
pub overflow_sub-total-2 : goal.overflow_sub-total-2
overflow_sub-total-2 c = omega (arith, few (goal.at.overflow_sub-total-2 c).After-ones_between)

pub overflow_sub-total-3 : goal.overflow_sub-total-3
overflow_sub-total-3 c = omega (arith, (rest c).below, (counted (goal.at.overflow_sub-total-3 c).After-ones_between).1)

pub nth_cell-i-requires : goal.nth_cell-i-requires
nth_cell-i-requires c =
    let s = (goal.at.nth_cell-i-requires c).Start in
    let g = known s in
    let n = cells_are s in
    ((omega (arith, g.whole, g.high), omega (arith, g.whole)), omega (arith, few (goal.at.nth_cell-i-requires c).After-ones_between, (counted (goal.at.nth_cell-i-requires c).After-ones_between).1, ap (tally (cell s.args.words.now)) n))

-- the turn of the cell found
abbrev turn : After-turn_of-rest → ℤ
turn c = c.args.turn +ℤ c.turn_of-rest.result.turn

turn_near : (c : After-turn_of-rest) → Within (2 ^ 35) (turn c)
turn_near c = c.requires.near.0.1 ∴ (rest c).near ∴ simp ints (omega arith)

turn-fits : (c : After-turn_of-rest) → SFits w64 (turn c)
turn-fits c = turn_near c ∴ simp ints (omega arith)

pub overflow_add-turn : goal.overflow_add-turn
overflow_add-turn c =
    let b = (goal.at.overflow_add-turn c).After-turn_of-rest in
    let t = b.ranges.turn in
    let f = (rest b).turn-fits in
    simp plain (turn-fits b)

pub composed-requires : goal.composed-requires
composed-requires c =
    let n = (goal.at.composed-requires c).After-nth_cell-i in
    let b = (goal.at.After-nth_cell-i n).After-turn_of-rest in
    let s = (goal.at.After-turn_of-rest b).Start in
    let p = s.ranges.period in
    let t = s.ranges.turn in
    let f = (rest b).turn-fits in
    let h = turn-fits b in
    let i = set_below s.args.period s.args.words.now (known s) n.nth_cell-i.result n.nth_cell-i.ensures.set in
    record { turning = simp plain (turning s.args.period s.args.words.now (known s)); within = simp plain (turn_near b ∴ simp ints (omega arith), omega (arith, i, (known s).high)) }

pub returns : goal.returns
returns c =
    let n = (goal.at.returns c).After-nth_cell-i in
    let b = (goal.at.After-nth_cell-i n).After-turn_of-rest in
    let s = (goal.at.After-turn_of-rest b).Start in
    let l = s.args.words.now in
    let g = known s in
    let p = s.ranges.period in
    let t = s.ranges.turn in
    let f = (rest b).turn-fits in
    let w = turn-fits b in
    let i = n.nth_cell-i.result in
    let e : c.composed.result ≡ s.args.period *ℤ turn b +ℤ pos i = simp plain at c.composed.ensures in
    let m : tally (cell l) s.args.cell + s.args.lacking ≡ s.args.k = s.requires.near.2 in
    let o : tally (cell l) i ≡ b.turn_of-rest.result.cell =
    omega (arith, n.nth_cell-i.ensures.rank, ap (tally (cell l)) (cells_are s), (counted (goal.at.After-turn_of-rest b).After-ones_between).1, (rest b).below) in
    let q : pos (set_before (map s) s.args.cell) +ℤ negsuc s.args.k ≡ pos (total s) *ℤ b.turn_of-rest.result.turn +ℤ pos b.turn_of-rest.result.cell =
    m ∴ (rest b).is ∴ simp ints (omega arith) in
    subst (OpenFrom (map s) (instant_at s.args.period s.args.turn s.args.cell) (negsuc s.args.k))
    (sym (to_z-of_z {w = w64} (sfits_of c.composed.type_inv) ∙ e ∙ ap (λ (z : ℤ). z *ℤ turn b +ℤ pos i) g.period-is))
    (open-from s.args.period l g _ _ s.args.turn b.turn_of-rest.result.turn s.args.cell b.turn_of-rest.result.cell i refl s.requires.near.0.0 q
    (record { set = n.nth_cell-i.ensures.set; rank = o }))
