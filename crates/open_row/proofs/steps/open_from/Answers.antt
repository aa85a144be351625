-- `open_row::steps::open_from` meets its contract: by ranks.
-- Assumes nothing.
use mathlib.Core.Path.{◌≡◌, ◌∙◌, sym, ap, subst}
use mathlib.Core.List.{List}
use Prim.Native.Nat.{ℕ, ◌^◌, ◌≤◌, ◌<◌}
use native.Mathlib.Omega.{arith}
use borrow.Author.Rules.{sfits_of}
use lib.IntN.{ℤ, pos, ◌+ℤ◌, ◌*ℤ◌}
use mir.Facts.{to_z-of_z}
use mir.Syntax.{w64}
use mir.Val.{SFits}
use Rattle.integers.specs.Parts.{up}
use Rattle.integers.proofs.Linear.{ints, ◌∴◌}
use Rattle.integers.proofs.Machine.{plain}
use Rattle.calendar.specs.Limits.{pool_limit}
use Rattle.cursors.specs.Found.{Within}
use Rattle.cursors.proofs.Numbers.{Numbers, numbers}
use Rattle.words.specs.Bits.{cell}
use Rattle.words.proofs.Tally.{tally-zero}
use Rattle.open_map.specs.Maps.{Map}
use Rattle.open_map.specs.Turns.{set_before, turned_at, Turning}
use Rattle.open_map.proofs.Given.{Given, turning}
use Rattle.open_map.proofs.Numbers.{Placed, placed}
use Rattle.open_map.proofs.Found.{set_below}
use Rattle.open_steps.specs.Ranked.{Nth, OpenFrom}
use Rattle.open_steps.proofs.Found.{open-from}
use Rattle.row_maps.specs.Making.{labelled, map_of}
use Rattle.open_row.specs.Shown.{labelled_before, shown_by}
use Rattle.open_row.proofs.Rows as rows
use Rattle.open_row.proofs.Rows.{set_before_lem, nth-set, labels-few, map-given}
use Rattle.open_row.proofs.steps.open_from.Goals as goal
use Rattle.open_row.proofs.steps.open_from.Goals.{After-labelled_in-before, After-labelled_instants-total, After-nth_cell-i, After-turn_of-at, After-turn_of-rest, Start}

abbrev map : Start → Map
map s = shown_by s.args.period s.args.cells.now

known : (s : Start) → Given s.args.period (map_of s.args.cells.now)
known s = map-given s.args.period s.args.distance s.args.cells.now s.requires.sound

sizes : (s : Start) → Numbers s.args.period s.args.distance s.args.cells.now
sizes s = numbers s.args.period s.args.distance s.args.cells.now s.requires.sound

-- how many cells have a label
abbrev total : Start → ℕ
total s = labelled_before s.args.cells.now (up s.args.period)

total-is : (c : After-labelled_instants-total) → c.labelled_instants-total.result ≡ pos (total (goal.at.After-labelled_instants-total c).Start)
total-is c =
    let s = (goal.at.After-labelled_instants-total c).Start in
    c.labelled_instants-total.ensures ∙ ap pos (rows.total-is s.args.period s.args.distance s.args.cells.now s.requires.sound)

-- it is within the limits of a turn
total-turning : (s : Start) → Turning (pos (total s))
total-turning s = rows.total-turning s.args.period s.args.distance s.args.cells.now s.requires.sound

pub turn_of-at-requires : goal.turn_of-at-requires
turn_of-at-requires c =
    let s = (goal.at.turn_of-at-requires c).Start in
    let p = s.ranges.period in
    simp plain (turning s.args.period (map_of s.args.cells.now) (known s))

-- the turn and the cell of t
there : (c : After-turn_of-at) → let s = (goal.at.After-turn_of-at c).Start in Placed (up s.args.period) s.args.t c.turn_of-at.result
there c =
    let s = (goal.at.After-turn_of-at c).Start in
    let p = s.ranges.period in
    let t = s.ranges.t in
    placed (up s.args.period) (known s).low (known s).high s.args.t (s.requires.within.0 ∴ simp ints (omega arith)) c.turn_of-at.result
    (simp plain at c.turn_of-at.ensures)

pub labelled_in-before-requires : goal.labelled_in-before-requires
labelled_in-before-requires c = (omega arith, omega (arith, (there c).below, (sizes (goal.at.labelled_in-before-requires c).Start).whole))

before-is : (c : After-labelled_in-before)
    → c.labelled_in-before.result ≡ labelled_before c.args.cells.now c.turn_of-at.result.cell
before-is c = omega (arith, c.labelled_in-before.ensures, tally-zero (labelled c.args.cells.now))

few : (c : After-labelled_in-before) → c.labelled_in-before.result ≤ pool_limit
few c =
    let s = (goal.at.After-labelled_in-before c).Start in
    let l = labels-few s.args.cells.now c.turn_of-at.result.cell in
    omega (arith, before-is c, (there (goal.at.After-labelled_in-before c).After-turn_of-at).below, (known s).high)

-- the rank that is asked for, from the start of the turn
abbrev sought : After-labelled_in-before → ℤ
sought c = pos c.labelled_in-before.result +ℤ c.args.k

sought-near : (c : After-labelled_in-before) → Within (2 ^ 32) (sought c)
sought-near c = few c ∴ c.requires.within.1 ∴ simp ints (omega arith)

sought-fits : (c : After-labelled_in-before) → SFits w64 (sought c)
sought-fits c = sought-near c ∴ simp ints (omega arith)

pub overflow_cast-before : goal.overflow_cast-before
overflow_cast-before c = few c ∴ simp ints (omega arith)

pub overflow_add-before : goal.overflow_add-before
overflow_add-before c =
    let k = c.ranges.k in
    let b : c.labelled_in-before.result < 2 ^ 63 = omega (arith, few c) in
    simp plain (sought-fits c)

pub turn_of-rest-requires : goal.turn_of-rest-requires
turn_of-rest-requires c =
    let a = (goal.at.turn_of-rest-requires c).After-labelled_instants-total in
    let f : SFits w64 a.labelled_instants-total.result = sfits_of a.labelled_instants-total.type_inv in
    simp plain (total-is a ∴ total-turning (goal.at.After-labelled_instants-total a).Start ∴ simp ints (omega arith))

-- its turns of the open instants, and the rest
rest : (c : After-turn_of-rest) → Placed (total (goal.at.After-turn_of-rest c).Start) (sought (goal.at.After-turn_of-rest c).After-labelled_in-before) c.turn_of-rest.result
rest c =
    let b = (goal.at.After-turn_of-rest c).After-labelled_in-before in
    let a = (goal.at.After-labelled_in-before b).After-labelled_instants-total in
    let s = (goal.at.After-labelled_instants-total a).Start in
    let k = s.ranges.k in
    let f : SFits w64 a.labelled_instants-total.result = sfits_of a.labelled_instants-total.type_inv in
    let q = sought-fits b in
    let w : b.labelled_in-before.result < 2 ^ 63 = omega (arith, few b) in
    let h = total-turning s in
    let low : 1 ≤ total s = omega (arith, simp ints at h.0) in
    let high : total s ≤ pool_limit = omega (arith, simp ints at h.1) in
    let e : c.turn_of-rest.result ≡ turned_at (up a.labelled_instants-total.result) (sought b) =
    simp plain at c.turn_of-rest.ensures in
    placed (total s) low high (sought b) (sought-near b) c.turn_of-rest.result
    (e ∙ ap (λ (z : ℤ). turned_at (up z) (sought b)) (total-is a))

pub nth_cell-i-requires : goal.nth_cell-i-requires
nth_cell-i-requires c =
    let s = (goal.at.nth_cell-i-requires c).Start in
    omega (arith, (rest c).below, ap (labelled_before s.args.cells.now) (sizes s).whole)

-- the cell found, and its turn
abbrev row : After-nth_cell-i → List ℤ
row c = c.args.cells.now

set : (c : After-nth_cell-i) → Nth (cell (map_of (row c))) c.turn_of-rest.result.cell c.nth_cell-i.result
set c = nth-set (row c) c.turn_of-rest.result.cell c.nth_cell-i.result c.nth_cell-i.ensures

below : (c : After-nth_cell-i) → c.nth_cell-i.result < up c.args.period
below c =
    let s = (goal.at.After-nth_cell-i c).Start in
    set_below s.args.period (map_of s.args.cells.now) (known s) c.nth_cell-i.result (set c).set

abbrev turn : After-turn_of-rest → ℤ
turn c = c.turn_of-at.result.turn +ℤ c.turn_of-rest.result.turn

turn_near : (c : After-turn_of-rest) → Within (2 ^ 34) (turn c)
turn_near c = (there (goal.at.After-turn_of-rest c).After-turn_of-at).near ∴ (rest c).near ∴ simp ints (omega arith)

turn-fits : (c : After-turn_of-rest) → SFits w64 (turn c)
turn-fits c = turn_near c ∴ simp ints (omega arith)

pub overflow_add-at : goal.overflow_add-at
overflow_add-at c =
    let b = (goal.at.overflow_add-at c).After-turn_of-rest in
    let f = (there (goal.at.After-turn_of-rest b).After-turn_of-at).turn-fits in
    let g = (rest b).turn-fits in
    simp plain (turn-fits b)

pub composed-requires : goal.composed-requires
composed-requires c =
    let n = (goal.at.composed-requires c).After-nth_cell-i in
    let b = (goal.at.After-nth_cell-i n).After-turn_of-rest in
    let s = (goal.at.After-turn_of-rest b).Start in
    let p = s.ranges.period in
    let f = (there (goal.at.After-turn_of-rest b).After-turn_of-at).turn-fits in
    let g = (rest b).turn-fits in
    let h = turn-fits b in
    record {
      turning = simp plain (turning s.args.period (map_of s.args.cells.now) (known s));
      within = simp plain (turn_near b ∴ simp ints (omega arith), omega (arith, below n, (known s).high));
    }

pub returns : goal.returns
returns c =
    let n = (goal.at.returns c).After-nth_cell-i in
    let b = (goal.at.After-nth_cell-i n).After-turn_of-rest in
    let a = (goal.at.After-turn_of-rest b).After-turn_of-at in
    let s = (goal.at.After-turn_of-at a).Start in
    let g = known s in
    let p = s.ranges.period in
    let f = (there a).turn-fits in
    let h = (rest b).turn-fits in
    let w = turn-fits b in
    let l = s.args.cells.now in
    let i = n.nth_cell-i.result in
    let before = a.turn_of-at.result.cell in
    let q = b.turn_of-rest.result in
    let e : c.composed.result ≡ s.args.period *ℤ turn b +ℤ pos i = simp plain at c.composed.ensures in
    let all = set_before (map s) (up s.args.period) in
    let ranks : pos (set_before (map s) before) +ℤ s.args.k ≡ pos all *ℤ q.turn +ℤ pos q.cell =
    ap (λ (m : ℕ). pos m +ℤ s.args.k) (set_before_lem s.args.period l before ∙ sym (before-is (goal.at.After-turn_of-rest b).After-labelled_in-before))
    ∙ (rest b).is
    ∙ ap (λ (m : ℕ). pos m *ℤ q.turn +ℤ pos q.cell) (sym (set_before_lem s.args.period l (up s.args.period))) in
    subst (OpenFrom (map s) s.args.t s.args.k)
    (sym (to_z-of_z {w = w64} (sfits_of c.composed.type_inv) ∙ e ∙ ap (λ (z : ℤ). z *ℤ turn b +ℤ pos i) g.period-is))
    (open-from s.args.period (map_of l) g s.args.t s.args.k a.turn_of-at.result.turn q.turn before q.cell i
    (there a).is (there a).below ranks (set n))
