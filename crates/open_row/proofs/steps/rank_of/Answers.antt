-- `open_row::steps::rank_of` meets its contract.
-- Assumes nothing.
use mathlib.Core.Path.{◌≡◌, ◌∙◌, sym, ap}
use Prim.Native.Nat.{ℕ, ◌^◌, ◌≤◌}
use native.Mathlib.Omega.{arith}
use borrow.Author.Rules.{sfits_of}
use lib.IntN.{ℤ, pos, ◌+ℤ◌, ◌*ℤ◌}
use mir.Facts.{to_z-of_z}
use mir.Syntax.{w64}
use mir.Val.{SFits}
use Rattle.integers.specs.Parts.{up}
use Rattle.integers.specs.Floor.{floor_div}
use Rattle.integers.proofs.Linear.{ints, ◌∴◌}
use Rattle.integers.proofs.Machine.{plain}
use Rattle.calendar.specs.Limits.{pool_limit}
use Rattle.cursors.specs.Found.{Within}
use Rattle.cursors.proofs.Numbers.{Numbers, numbers, product-within}
use Rattle.words.proofs.Tally.{tally-zero}
use Rattle.open_map.proofs.Given.{Given, turning}
use Rattle.open_map.proofs.Numbers.{Placed, placed}
use Rattle.row_maps.specs.Making.{labelled, map_of}
use Rattle.open_row.specs.Shown.{labelled_before}
use Rattle.open_row.proofs.Rows.{map-given, rank-row, labels-few, total-turning}
use Rattle.open_row.proofs.steps.rank_of.Goals as goal
use Rattle.open_row.proofs.steps.rank_of.Goals.{After-labelled_in-before, After-turn_of-at, Start}

known : (s : Start) → Given s.args.period (map_of s.args.cells.now)
known s = map-given s.args.period s.args.distance s.args.cells.now s.requires.sound

sizes : (s : Start) → Numbers s.args.period s.args.distance s.args.cells.now
sizes s = numbers s.args.period s.args.distance s.args.cells.now s.requires.sound

pub turn_of-at-requires : goal.turn_of-at-requires
turn_of-at-requires s =
    let p = s.ranges.period in
    simp plain (turning s.args.period (map_of s.args.cells.now) (known s))

there : (c : After-turn_of-at) → Placed (up c.args.period) c.args.t c.turn_of-at.result
there c =
    let s = (goal.at.After-turn_of-at c).Start in
    let p = s.ranges.period in
    let t = s.ranges.t in
    placed (up s.args.period) (known s).low (known s).high s.args.t s.requires.within c.turn_of-at.result
    (simp plain at c.turn_of-at.ensures)

pub labelled_in-before-requires : goal.labelled_in-before-requires
labelled_in-before-requires c = (omega arith, omega (arith, (there c).below, (sizes (goal.at.labelled_in-before-requires c).Start).whole))

before-is : (c : After-labelled_in-before)
    → c.labelled_in-before.result ≡ labelled_before c.args.cells.now c.turn_of-at.result.cell
before-is c = omega (arith, c.labelled_in-before.ensures, tally-zero (labelled c.args.cells.now))

before-few : (c : After-labelled_in-before) → c.labelled_in-before.result ≤ pool_limit
before-few c =
    let s = (goal.at.After-labelled_in-before c).Start in
    let l = labels-few s.args.cells.now c.turn_of-at.result.cell in
    omega (arith, before-is c, (there (goal.at.After-labelled_in-before c).After-turn_of-at).below, (known s).high)

pub composed-requires : goal.composed-requires
composed-requires c =
    let a = (goal.at.composed-requires c).After-turn_of-at in
    let s = (goal.at.After-turn_of-at a).Start in
    let q = s.ranges.total in
    let f = (there a).turn-fits in
    let few = total-turning s.args.period s.args.distance s.args.cells.now s.requires.sound in
    record {
      turning = simp plain (s.requires.total_value ∴ few ∴ simp ints (omega arith));
      within = simp plain ((there a).near ∴ simp ints (omega arith), omega (arith, before-few (goal.at.composed-requires c).After-labelled_in-before));
    }

pub returns : goal.returns
returns c =
    let b = (goal.at.returns c).After-labelled_in-before in
    let a = (goal.at.After-labelled_in-before b).After-turn_of-at in
    let s = (goal.at.After-turn_of-at a).Start in
    let l = s.args.cells.now in
    let P = up s.args.period in
    let q = s.ranges.total in
    let f = (there a).turn-fits in
    let r : SFits w64 c.composed.result = sfits_of c.composed.type_inv in
    let turn = a.turn_of-at.result.turn in
    let rest = b.labelled_in-before.result in
    let e : c.composed.result ≡ s.args.total *ℤ turn +ℤ pos rest = simp plain at c.composed.ensures in
    let most = total-turning s.args.period s.args.distance l s.requires.sound in
    let total : Within (2 ^ 22) s.args.total = s.requires.total_value ∴ most ∴ simp ints (omega arith) in
    let w = product-within (2 ^ 22) (2 ^ 33) s.args.total turn total (there a).near in
    record {
      value =
          to_z-of_z r ∙ e ∙ ap (λ (z : ℤ). z *ℤ turn +ℤ pos rest) s.requires.total_value
          ∙ ap (λ (z : ℤ). pos (labelled_before l P) *ℤ z +ℤ pos rest) (there a).turn_is
          ∙ ap (λ (n : ℕ). pos (labelled_before l P) *ℤ floor_div s.args.t P +ℤ pos n)
          (before-is b ∙ ap (labelled_before l) (there a).cell-is)
          ∙ sym (rank-row s.args.period l s.args.t);
      within_2 = simp plain (e ∴ w ∴ before-few b ∴ simp ints (omega arith));
    }
